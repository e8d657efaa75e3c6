-- `places::from_z` meets its contract: of the two halves, squeezed, the row's counts sides.
use Prim.Native.Nat.{◌/◌, ◌%◌, ◌^◌}
use mathlib.Core.Path.{◌≡◌, refl}
use native.Mathlib.Omega.{arith}
use Rattle.paper.specs.Places.{column_of, row_of, raster_of}
use Rattle.places.proofs.Interleaving.{column_below}
use Rattle.places.proofs.Steps.{side_small}
use Rattle.places.proofs.from_z.Goals as goal

pub returns : goal.returns
unfolding raster_of
returns c =
    let k = c.args.size in
    let z = c.args.place.0 in
    let w = c.squeeze-w in
    let column : w.result % 2 ^ 32 ≡ column_of k z = omega (arith, w.ensures.value, column_below k z, side_small k w.ensures.most) in
    let row : w.result / 2 ^ 32 ≡ row_of k z = omega (arith, w.ensures.value, column_below k z, side_small k w.ensures.most) in
    rw (column, row, c.side.ensures.value) refl
