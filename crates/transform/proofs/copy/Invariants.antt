use lib.IntN.{pos}
use Rattle.paper.specs.Lists.{at}
use Rattle.list_laws.specs.Made.{Filled}
use Rattle.transform.proofs.copy.Given as goal

abbrev pub invariant-loop-i : goal.invariant-loop-i
invariant-loop-i l = Filled (pos 0) (at l.fn.numbers) l.i l.room
