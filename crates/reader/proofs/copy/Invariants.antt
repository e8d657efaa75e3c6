use lib.ListN.{get_or}
use Rattle.list_laws.specs.Made.{Filled}
use Rattle.reader.proofs.copy.Given as goal

abbrev pub invariant-loop-i : goal.invariant-loop-i
invariant-loop-i l = Filled 0 (λ i. get_or l.fn.from i 0) l.i l.to
