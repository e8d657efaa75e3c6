-- `lift::even_of` meets its contract.
use borrow.Author.Rules.{rules}
use Rattle.paper.specs.Line.{even_of}
use Rattle.lift.proofs.Steps.{quarter_fits}
use Rattle.lift.proofs.even_of.Goals as goal

pub overflow_sub-result : goal.overflow_sub-result
overflow_sub-result c = let h = quarter_fits c.requires.within c.requires.within_2 c.requires.within_3 in search rules

pub returns : goal.returns
unfolding even_of
returns c = let h = quarter_fits c.requires.within c.requires.within_2 c.requires.within_3 in search rules
