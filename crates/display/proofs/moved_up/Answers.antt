-- `display::moved_up` meets its contract.
use native.Mathlib.Omega.{arith}
use mathlib.Core.Path.{sym, ap, ◌∙◌}
use mir.Syntax.{w32}
use mir.Val.{to_z, of_z}
use mir.Facts.{to_z-of_z}
use Rattle.walk_laws.specs.Softer.{moved_zero}
use Rattle.display.proofs.Softened.{half_most, moved_grown, grown_fits}
use Rattle.display.proofs.moved_up.Goals as goal

pub returns-then-x-eq0 : goal.returns-then-x-eq0
returns-then-x-eq0 c = let e = sym (to_z-of_z c.ranges.x) ∙ ap (to_z w32) c.if-x-eq0.true in sym (moved_zero _ _ e ∙ e)

pub grown-requires : goal.grown-requires
grown-requires c = rw (to_z-of_z c.ranges.x) (grown_fits _ c.args.x (omega (arith, c.half_of.ensures, half_most c.args.u c.requires.u_le_most_planes)) c.requires.within)

pub returns : goal.returns
returns c =
    let e = to_z-of_z c.ranges.x in
    to_z-of_z {w = w32} (record { sfits = c.grown.type_inv }) ∙ c.grown.ensures ∙ rw (e, c.half_of.ensures) (moved_grown _ c.args.x (λ z. c.if-x-eq0.false (ap (of_z w32) z)))
