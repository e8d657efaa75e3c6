-- `transform::forward` meets its contract.
use Rattle.sizes.proofs.Ranges.{size_high}
use Rattle.transform.proofs.Refusals.{forward_accepted, forward_done}
use Rattle.transform.proofs.forward.Goals as goal

pub new-requires : goal.new-requires
new-requires c = size_high _ (forward_accepted c.args.k c.args.levels c.args.picture.now c.args.numbers.now c.in_ok-judge_forward.ensures).0

pub to_numbers-requires : goal.to_numbers-requires
to_numbers-requires c =
    let a = c.args in
    let f = forward_accepted a.k a.levels a.picture.now a.numbers.now c.in_ok-judge_forward.ensures in
    rw c.new.ensures (record { levels_value = f.1.0; picture_len = f.1.1.0; numbers_len = f.1.1.1 })

pub returns : goal.returns
returns c =
    let a = c.args in
    forward_done a.k a.levels a.picture.now a.numbers.now c.in_ok-judge_forward.ensures _ _ (rw c.new.ensures at c.to_numbers.ensures.numbers_after) c.plane_count.ensures
