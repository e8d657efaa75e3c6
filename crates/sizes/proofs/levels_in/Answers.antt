use native.Mathlib.Omega.{arith}
use Rattle.std.proofs.lemmas.Bool.Decides.{nat_tests}
use Rattle.paper.specs.Sizes.{levels_in}
use Rattle.sizes.proofs.levels_in.Goals as goal

pub returns-then-contains : goal.returns-then-contains
unfolding levels_in
returns-then-contains c = grind (arith, nat_tests, c.contains.ensures.value)

pub returns-else-contains : goal.returns-else-contains
unfolding levels_in
returns-else-contains c = grind (arith, nat_tests, c.contains.ensures.value)
