use Rattle.sizes.proofs.Numbers.{largest_in}
use Rattle.paper.specs.Sizes.{most_planes}
use Rattle.paper.specs.Walk.{bits_needed, plane_count}
use native.Mathlib.Omega.{arith}
use mathlib.Core.Path.{ap, ◌∙◌}
use Rattle.sizes.proofs.plane_count.Goals as goal

pub bits_needed-requires : goal.bits_needed-requires
bits_needed-requires c = omega (arith, c.largest.ensures, largest_in _ c.requires)

pub returns : goal.returns
unfolding plane_count
returns c = c.bits_needed.ensures ∙ ap (bits_needed most_planes) c.largest.ensures
