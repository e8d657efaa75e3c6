-- `copy_full`. The invariant: the payload of the first i blocks stands one behind the other, and what lies behind is untouched.
use mathlib.Core.List.{[]}
use Prim.Native.Nat.{◌<◌}
use lib.ListN.{length-take}
use lib.Seq.{get_or-take}
use Rattle.reader.proofs.Turn.{block_there}
use Rattle.reader.proofs.Payload.{payload_more}
use native.Mathlib.Omega.{arith}
use mathlib.Core.Path.{◌∙◌}
use Rattle.reader.proofs.copy_full.Goals as goal

pub loop-i-preserved : goal.loop-i-preserved
loop-i-preserved c =
    let a = c.args in
    let at = c.loop-i in
    let within : at.i < a.full = omega (arith, length-take a.full c.as_chunks.result.0.now) in
    let there = get_or-take a.full c.as_chunks.result.0.now at.i [] within ∙ block_there a.blocks.now at.i _ [] c.as_chunks.ensures.front (omega arith) in
    c.put_payload.ensures ∙ payload_more a.start a.blocks.now a.room.now at.i at.room _ there (omega arith) at.invariant
