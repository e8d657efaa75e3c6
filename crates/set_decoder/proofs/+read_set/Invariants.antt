-- The measure is the length of the set: each quarter is shorter.
use lib.ListN.{length}
use Rattle.set_decoder.proofs.+read_set.Given as goal

abbrev pub decreases-read_set : goal.decreases-read_set
decreases-read_set l = length l.numbers.now
