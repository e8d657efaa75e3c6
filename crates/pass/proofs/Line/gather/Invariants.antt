use lib.IntN.{pos}
use Rattle.paper.specs.Lists.{at}
use Rattle.paper.specs.Square.{place_of}
use Rattle.list_laws.specs.Made.{Filled}
use Rattle.pass.specs.Turns.{down}
use Rattle.pass.proofs.Line.gather.Given as goal

abbrev pub invariant-loop-i : goal.invariant-loop-i
invariant-loop-i l = Filled (pos 0) (λ i. at l.fn.xs (place_of l.fn.self.size (down l.fn.self.lines) l.fn.self.l i)) l.i l.out
