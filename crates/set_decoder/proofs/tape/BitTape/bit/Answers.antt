-- Behind a bit the place is at most one past the count.
use Rattle.bits.proofs.OneBit.{read_next}
use Rattle.set_decoder.proofs.tape.BitTape.bit.Goals as goal

pub invariant_of-self-clause-near : goal.invariant_of-self-clause-near
invariant_of-self-clause-near c = rw c.moved-self.ensures (read_next c.args.self.now.lent c.take-next.ensures).near
