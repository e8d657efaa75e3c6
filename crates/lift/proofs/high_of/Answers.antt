-- `lift::high_of` meets its contract.
use borrow.Author.Rules.{rules}
use Rattle.paper.specs.Line.{high_of}
use Rattle.lift.proofs.Steps.{half_fits}
use Rattle.lift.proofs.high_of.Goals as goal

pub returns : goal.returns
unfolding high_of
returns c = let h = half_fits c.requires.within c.requires.within_2 c.requires.within_3 in search rules
