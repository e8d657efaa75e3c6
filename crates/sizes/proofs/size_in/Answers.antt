use native.Mathlib.Omega.{arith}
use Rattle.std.proofs.lemmas.Bool.Decides.{nat_tests}
use Rattle.paper.specs.Sizes.{size_in}
use Rattle.sizes.proofs.size_in.Goals as goal

pub returns : goal.returns
unfolding size_in
returns c = grind (arith, nat_tests, c.contains.ensures.value)
