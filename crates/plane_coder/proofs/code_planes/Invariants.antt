use Rattle.plane_coder.proofs.Planes.{Before}
use Rattle.plane_coder.proofs.code_planes.Given as goal

abbrev pub invariant-loop-p : goal.invariant-loop-p
invariant-loop-p l = Before l.fn.n l.fn.first l.fn.numbers l.initial.sink l.p l.sink
