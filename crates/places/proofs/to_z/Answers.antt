-- `places::to_z` meets its contract: of the two halves, spread, the row's bits go between the column's.
use Prim.Native.Nat.{◌+◌, ◌*◌, ◌/◌, ◌^◌}
use mathlib.Core.Path.{◌≡◌, refl, ◌∙◌}
use native.Mathlib.Omega.{arith}
use Rattle.paper.specs.Places.{interleaved}
use Rattle.places.proofs.Moved.{apart_raster}
use Rattle.places.proofs.Interleaving.{interleaved_below}
use Rattle.places.proofs.Steps.{area_small}
use Rattle.places.proofs.to_z.Goals as goal

pub returns : goal.returns
returns c =
    let k = c.args.size in
    let p = c.args.place.0 in
    let w : c.spread-w.result ≡ interleaved k 0 p + interleaved k 0 (p / 2 ^ k) * 2 ^ 32 = c.spread-w.ensures.value ∙ rw c.side.ensures.value refl in
    omega (arith, w, apart_raster k p, interleaved_below k 0 p, area_small k c.side.ensures.most)
