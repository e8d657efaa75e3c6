-- The first set and the rest are parts of the numbers.
use mathlib.Core.Path.{sym}
use native.Mathlib.Omega.{arith}
use Rattle.list_laws.specs.Parts.{from_long}
use Rattle.shapes.proofs.Cuts.{first_fits, first_long, square_set, square_rest}
use Rattle.plane_coder.proofs.Plane.{plane_coded}
use Rattle.plane_coder.proofs.code_plane.Goals as goal

pub slice_bounds-code_set-end : goal.slice_bounds-code_set-end
slice_bounds-code_set-end c = sym (first_long c.requires)

pub code_set-requires : goal.code_set-requires
code_set-requires c = square_set c.requires (first_long c.requires)

pub offset_bounds-numbers-first : goal.offset_bounds-numbers-first
offset_bounds-numbers-first c = record { fits = omega (arith, first_fits c.requires, c.well_formed.0.1) }

pub code_rest-requires : goal.code_rest-requires
code_rest-requires c = square_rest c.requires (from_long _ _ (first_fits c.requires))

pub returns : goal.returns
returns c = plane_coded _ _ c.code_set.ensures c.code_rest.ensures
