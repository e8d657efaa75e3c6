-- `thumbnail::thumbnail` meets its contract.
use mathlib.Core.Path.{sym}
use lib.Seq.{length-take-le}
use native.Mathlib.Omega.{arith}
use Rattle.thumbnail.proofs.Refusals.{few, room_fits, accepted, thumbnail_done}
use Rattle.thumbnail.proofs.thumbnail.Goals as goal

pub overflow_sub-k : goal.overflow_sub-k
overflow_sub-k c = omega (arith, few _ _ _ _ _ _ c.in_ok-judge.ensures)

pub new-shown-requires : goal.new-shown-requires
new-shown-requires c = (accepted c.args.k c.args.levels c.args.halvings c.args.numbers.now c.args.picture.now c.args.room.now c.in_ok-judge.ensures).0

pub overflow_sub-left : goal.overflow_sub-left
overflow_sub-left c = (few _ _ _ _ _ _ c.in_ok-judge.ensures).0

pub slice_bounds-rebuild-end : goal.slice_bounds-rebuild-end
slice_bounds-rebuild-end c = sym (length-take-le _ _ (room_fits _ _ _ _ _ _ c.in_ok-judge.ensures))

pub rebuild-requires : goal.rebuild-requires
rebuild-requires c =
    let a = c.args in
    let f = accepted a.k a.levels a.halvings a.numbers.now a.picture.now a.room.now c.in_ok-judge.ensures in
    rw c.new-shown.ensures (record { levels_le_most_levels = f.1.0; levels_le_size = f.1.1.0; numbers_len = f.1.1.1.0; numbers_value = f.1.1.1.1.0; picture_len = f.1.1.1.1.1.0; room_len = f.1.1.1.1.1.1 })

pub returns : goal.returns
returns c = thumbnail_done _ _ _ _ _ _ c.in_ok-judge.ensures _ _ (rw c.new-shown.ensures at c.rebuild.ensures.picture_after) (rw c.new-shown.ensures at c.rebuild.ensures.room_after)
