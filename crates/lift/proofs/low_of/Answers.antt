-- `lift::low_of` meets its contract.
use borrow.Author.Rules.{rules}
use Rattle.paper.specs.Line.{low_of}
use Rattle.lift.proofs.Steps.{quarter_fits}
use Rattle.lift.proofs.low_of.Goals as goal

pub overflow_add-result-3 : goal.overflow_add-result-3
overflow_add-result-3 c = let h = quarter_fits c.requires.within c.requires.within_2 c.requires.within_3 in search rules

pub returns : goal.returns
unfolding low_of
returns c = let h = quarter_fits c.requires.within c.requires.within_2 c.requires.within_3 in search rules
