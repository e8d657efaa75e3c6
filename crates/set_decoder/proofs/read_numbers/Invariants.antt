use Rattle.set_decoder.proofs.InOrder.{Before}
use Rattle.set_decoder.proofs.read_numbers.Given as goal

abbrev pub invariant-loop-x : goal.invariant-loop-x
invariant-loop-x l = Before l.fn.plane l.fn.numbers l.fn.tape l.x-index l.numbers l.next
