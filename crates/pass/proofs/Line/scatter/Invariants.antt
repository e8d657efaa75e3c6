use Rattle.pass.specs.Turns.{down, Put}
use Rattle.pass.proofs.Line.scatter.Given as goal

abbrev pub invariant-loop-i : goal.invariant-loop-i
invariant-loop-i l = Put l.fn.self.size (down l.fn.self.lines) l.fn.self.l l.i l.fn.v l.initial.xs l.xs
