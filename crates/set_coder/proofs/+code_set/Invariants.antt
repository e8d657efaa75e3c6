-- The measure is the length of the set: each quarter is shorter.
use lib.ListN.{length}
use Rattle.set_coder.proofs.+code_set.Given as goal

abbrev pub decreases-code_set : goal.decreases-code_set
decreases-code_set l = length l.numbers.now
