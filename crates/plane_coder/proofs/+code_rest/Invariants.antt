-- The measure is the length of the rest: what is behind three sets is shorter.
use lib.ListN.{length}
use Rattle.plane_coder.proofs.+code_rest.Given as goal

abbrev pub decreases-code_rest : goal.decreases-code_rest
decreases-code_rest l = length l.numbers.now
