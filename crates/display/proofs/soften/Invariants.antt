use lib.IntN.{pos}
use Rattle.paper.specs.Lists.{at}
use Rattle.paper.specs.Walk.{unread_at}
use Rattle.paper.specs.Softer.{half_of, moved_up}
use Rattle.list_laws.specs.Made.{Filled}
use Rattle.display.proofs.soften.Given as goal

abbrev pub invariant-loop-i : goal.invariant-loop-i
invariant-loop-i l = Filled (pos 0) (λ i. moved_up (half_of (unread_at l.fn.unfinished l.fn.place i)) (at l.fn.numbers i)) l.i l.out
