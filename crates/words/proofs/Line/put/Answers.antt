use native.Mathlib.Omega.{arith}
use Prim.Native.Nat.{◌+◌}
use lib.ListN.{length}
use borrow.Rule.Slice.PartMut.{Post-is}
use Rattle.words.proofs.Laws.{put_there}
use Rattle.words.proofs.Line.put.Goals as goal

pub returns-then-text-room-clause-line_value : goal.returns-then-text-room-clause-line_value
returns-then-text-room-clause-line_value c =
    let at = c.args.self.now.at in
    rw (c.copy_from_slice.ensures.after, Post-is at (at + length c.args.text.now) c.args.self.now.bytes.now (omega arith)) (put_there _ _ _ (omega arith))
