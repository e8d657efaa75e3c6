-- `places::z_of` meets its contract: row and column, spread, side by side.
use Prim.Native.Nat.{◌+◌, ◌*◌, ◌^◌, ◌<◌}
use mathlib.Core.Path.{◌≡◌}
use native.Mathlib.Omega.{arith}
use Rattle.paper.specs.Sizes.{most_size}
use Rattle.paper.specs.Places.{interleaved}
use Rattle.places.proofs.Moved.{nowhere, apart}
use Rattle.places.proofs.Interleaving.{interleaved_below}
use Rattle.places.proofs.Steps.{area_small}
use Rattle.places.proofs.z_of.Goals as goal

sum : (c : goal.After-spread-2) → c.spread.result + 2 * c.spread-2.result ≡ interleaved c.args.size c.args.r c.args.c
sum c =
    let a = c.args in
    omega (arith, c.spread.ensures.value, c.spread-2.ensures.value, nowhere a.size, apart a.size a.r a.c)

small : (c : goal.After-spread-2) → c.spread.result + 2 * c.spread-2.result < 4 ^ most_size
small c =
    omega (arith, sum c, interleaved_below c.args.size c.args.r c.args.c, area_small c.args.size c.spread.ensures.most)

pub overflow_mul-result : goal.overflow_mul-result
overflow_mul-result c = omega (arith, small c)

pub overflow_add-result : goal.overflow_add-result
overflow_add-result c = omega (arith, small c)

pub returns : goal.returns
returns c = sum c
