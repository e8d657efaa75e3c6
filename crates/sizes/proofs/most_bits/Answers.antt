use Prim.Native.Nat.{◌*◌, ◌-◌}
use Rattle.sizes.proofs.Counts.{area_some, planes_times}
use Rattle.sizes.proofs.Ranges.{size_high, area_most, planes_few}
use Rattle.paper.specs.Sizes.{most_bits}
use native.Mathlib.Omega.{arith}
use Rattle.sizes.proofs.most_bits.Goals as goal

pub new-requires : goal.new-requires
new-requires c = size_high _ c.requires.k_value

pub overflow_mul-result : goal.overflow_mul-result
overflow_mul-result c = omega (arith, (rw c.new.ensures at c.area-places.ensures), area_most _ c.requires.k_value, area_some c.args.k)

pub overflow_sub-result : goal.overflow_sub-result
overflow_sub-result c = omega (arith, (rw c.new.ensures at c.area-places.ensures), area_most _ c.requires.k_value, area_some c.args.k)

pub overflow_mul-result-2 : goal.overflow_mul-result-2
overflow_mul-result-2 c = omega (arith, (rw c.new.ensures at c.area-places.ensures), area_most _ c.requires.k_value, area_some c.args.k, planes_times c.args.n (4 * c.area-places.result - 1) (planes_few _ c.requires.n_value))

pub overflow_add-result : goal.overflow_add-result
overflow_add-result c = omega (arith, (rw c.new.ensures at c.area-places.ensures), area_most _ c.requires.k_value, area_some c.args.k, planes_times c.args.n (4 * c.area-places.result - 1) (planes_few _ c.requires.n_value))

pub returns : goal.returns
unfolding most_bits
returns c = rw (c.area-places.ensures, c.new.ensures)
