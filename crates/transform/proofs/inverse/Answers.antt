-- `transform::inverse` meets its contract.
use Rattle.transform.proofs.Refusals.{inverse_accepted, inverse_done}
use Rattle.transform.proofs.inverse.Goals as goal

pub new-requires : goal.new-requires
new-requires c = (inverse_accepted c.args.k c.args.levels c.args.numbers.now c.args.picture.now c.args.room.now c.in_ok-judge_inverse.ensures).0

pub rebuild-requires : goal.rebuild-requires
rebuild-requires c =
    let a = c.args in
    let f = inverse_accepted a.k a.levels a.numbers.now a.picture.now a.room.now c.in_ok-judge_inverse.ensures in
    rw c.new.ensures (record { levels_le_most_levels = f.1.0; levels_le_size = f.1.1.0; numbers_len = f.1.1.1.0; numbers_value = f.1.1.1.1.0; picture_len = f.1.1.1.1.1.0; room_len = f.1.1.1.1.1.1 })

pub returns : goal.returns
returns c = inverse_done _ _ _ _ _ c.in_ok-judge_inverse.ensures _ _ (rw c.new.ensures at c.rebuild.ensures.picture_after) (rw c.new.ensures at c.rebuild.ensures.room_after)
