use Rattle.plane_decoder.proofs.Planes.{Before}
use Rattle.plane_decoder.proofs.read_planes.Given as goal

abbrev pub invariant-loop-p : goal.invariant-loop-p
invariant-loop-p l = Before l.fn.n l.fn.first l.initial.numbers l.fn.tape l.p l.numbers l.tape
