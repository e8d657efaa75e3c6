-- `write` is the writing job: refused by its rows, or done by the blocks at the front of the room.
use Prim.Native.Nat.{◌*◌}
use mathlib.Core.Path.{◌≡◌, ap, ◌∙◌}
use mathlib.Core.List.{◌++◌}
use native.Mathlib.Omega.{arith}
use lib.ListN.{take, drop}
use Rattle.paper.specs.Lists.{joined}
use Rattle.paper.specs.Bits.{bits}
use Rattle.paper.specs.Block.{Origin, block_bytes, named}
use Rattle.paper.specs.Record.{block_of}
use Rattle.paper.specs.Jobs.{writing_refusal}
use Rattle.sizes.proofs.Ranges.{size_high, levels_few, planes_few}
use Rattle.block.specs.Origins.{origin_of}
use Rattle.block.proofs.Editions.{edition_few, named_given}
use Rattle.block.proofs.Blocks.{label_length}
use Rattle.record_laws.specs.BothJobs.{write_accepted}
use Rattle.record.proofs.Writing.{write_rows, write_done, bits_numbered, blocks_numbered}
use Rattle.record.proofs.write.Goals as goal

pub heading-h-requires : goal.heading-h-requires
heading-h-requires c =
    let a = c.args in
    let o : Origin = record { edition = a.edition; arm = a.arm; mount = a.mount } in
    let passed : writing_refusal a.k a.levels a.n o a.label.now a.bytes.now a.b a.room.now ≡ 0 = write_rows a.k a.levels a.n o a.label.now a.bytes.now a.b a.room.now c.in_ok-judge_writing.ensures in
    let ok = write_accepted a.k a.levels a.n o a.label.now a.bytes.now a.b a.room.now passed in
    record {
      k_bound = omega (arith, size_high _ ok.size);
      levels_bound = omega (arith, levels_few _ _ ok.levels);
      n_bound = omega (arith, planes_few _ ok.planes);
      edition_bound = omega (arith, edition_few _ ok.known);
      mount_value = ok.origin;
    }

pub write_blocks-requires : goal.write_blocks-requires
write_blocks-requires c =
    let a = c.args in
    let o : Origin = record { edition = a.edition; arm = a.arm; mount = a.mount } in
    let passed : writing_refusal a.k a.levels a.n o a.label.now a.bytes.now a.b a.room.now ≡ 0 = write_rows a.k a.levels a.n o a.label.now a.bytes.now a.b a.room.now c.in_ok-judge_writing.ensures in
    let ok = write_accepted a.k a.levels a.n o a.label.now a.bytes.now a.b a.room.now passed in
    let blocks = c.blocks_for-blocks.ensures in
    record {
      blocks_in_bounds = omega (arith, ok.fits, blocks);
      label_len = label_length _ ok.labelled;
      b_bound = ok.lent;
      blocks_le_numbered_blocks = omega (arith, blocks, blocks_numbered _ _ (bits_numbered ok));
    }

pub returns : goal.returns
returns c =
    let a = c.args in
    let o : Origin = record { edition = a.edition; arm = a.arm; mount = a.mount } in
    let passed : writing_refusal a.k a.levels a.n o a.label.now a.bytes.now a.b a.room.now ≡ 0 = write_rows a.k a.levels a.n o a.label.now a.bytes.now a.b a.room.now c.in_ok-judge_writing.ensures in
    let blocks = c.blocks_for-blocks in
    let h = c.heading-h in
    let written = c.write_blocks in
    let says = h.ensures in
    write_done a.k a.levels a.n o a.label.now a.bytes.now a.b a.room.now passed (origin_of h.result.origin) blocks.result written.new.room (ap (λ (o : Origin). o.edition) says.3) (ap named says.3 ∙ named_given _) blocks.ensures
    (written.ensures ∙ (λ t. joined blocks.result (block_of (origin_of h.result.origin) (says.0 t) (says.1 t) (says.2 t) a.label.now (take a.b (bits a.bytes.now))) ++ drop (block_bytes * blocks.result) a.room.now))
