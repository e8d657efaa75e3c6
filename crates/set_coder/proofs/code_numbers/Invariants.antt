use Rattle.set_coder.proofs.InOrder.{Before}
use Rattle.set_coder.proofs.code_numbers.Given as goal

abbrev pub invariant-loop-x : goal.invariant-loop-x
invariant-loop-x l = Before l.fn.plane l.fn.numbers l.initial.sink l.x-index l.sink
