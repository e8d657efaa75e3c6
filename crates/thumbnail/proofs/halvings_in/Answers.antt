use native.Mathlib.Omega.{arith}
use Rattle.std.proofs.lemmas.Bool.Decides.{nat_tests}
use Rattle.paper.specs.Sizes.{halvings_in}
use Rattle.thumbnail.proofs.halvings_in.Goals as goal

pub returns : goal.returns
unfolding halvings_in
returns c = grind (arith, nat_tests, c.contains.ensures.value)
