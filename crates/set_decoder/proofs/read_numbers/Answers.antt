-- What holds before each number, and that it is read and stored.
use Rattle.set_decoder.proofs.InOrder.{before_first, ready, one_left, before_next, all_read}
use Rattle.set_decoder.proofs.read_numbers.Goals as goal

pub loop-x-init : goal.loop-x-init
loop-x-init c = before_first _ _ _

pub read_number-requires : goal.read_number-requires
read_number-requires c =
    let B = c.loop-x.invariant in
    record { plane_bound = ready B c.requires.room c.loop-x-test.true; fits = one_left B c.requires.room c.loop-x-test.true c.requires.fits }

pub loop-x-preserved : goal.loop-x-preserved
loop-x-preserved c = before_next c.loop-x.invariant c.requires.room c.loop-x-test.true _ _ c.read_number.ensures

pub returns : goal.returns
returns c = all_read c.loop-x.invariant c.loop-x-test.false
