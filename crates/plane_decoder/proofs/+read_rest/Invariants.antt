-- The measure is the length of the rest: what is behind three sets is shorter.
use lib.ListN.{length}
use Rattle.plane_decoder.proofs.+read_rest.Given as goal

abbrev pub decreases-read_rest : goal.decreases-read_rest
decreases-read_rest l = length l.numbers.now
