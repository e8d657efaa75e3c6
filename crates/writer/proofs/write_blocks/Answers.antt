-- `write_blocks`. The invariant: the first blocks stand one behind the other, and what lies behind them is untouched.
use Rattle.writer.proofs.Blocks.{one_written}
use Rattle.list_laws.specs.Joined.{none_joined}
use Rattle.paper.specs.Record.{block_of}
use Rattle.paper.specs.Bits.{bits}
use Rattle.paper.specs.Lists.{joined}
use lib.ListN.{take, drop}
use native.Mathlib.Omega.{arith}
use mathlib.Core.List.{◌++◌}
use Rattle.block.specs.Origins.{origin_of}
use Rattle.paper.specs.Block.{block_bytes}
use mathlib.Core.Path.{◌≡◌, ap, ◌∙◌}
use Prim.Native.Nat.{ℕ, ◌*◌}
use Rattle.writer.proofs.write_blocks.Goals as goal

pub loop-number-init : goal.loop-number-init
loop-number-init c =
    let args = c.args in
    none_joined block_bytes (block_of (origin_of args.h.origin) args.h.k args.h.levels args.h.n args.label.now (take args.b (bits args.bytes.now))) args.room.now

pub loop-number-preserved : goal.loop-number-preserved
loop-number-preserved c =
    let args = c.args in
    let at = c.loop-number in
    let put = c.put_block in
    one_written (origin_of args.h.origin) args.h.k args.h.levels args.h.n args.label.now args.bytes.now args.b at.number c.requires.label_len put.new.place at.room args.room.now at.invariant put.ensures

pub returns : goal.returns
returns c =
    let args = c.args in
    let at = c.loop-number in
    let e : at.number ≡ args.blocks = omega arith in
    at.invariant ∙ ap (λ (j : ℕ). joined j (block_of (origin_of args.h.origin) args.h.k args.h.levels args.h.n args.label.now (take args.b (bits args.bytes.now))) ++ drop (block_bytes * j) args.room.now) e
