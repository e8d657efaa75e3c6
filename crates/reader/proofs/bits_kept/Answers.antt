-- `bits_kept`: full blocks and the last; two bytes are below 65,536, so the sum fits.
use Prim.Native.Nat.{ℕ, ◌*◌, ◌-◌, ◌≤◌}
use mathlib.Core.Path.{◌≡◌, ap, ◌∙◌}
use mathlib.Core.List.{List, []}
use native.Mathlib.Omega.{arith}
use Rattle.paper.specs.Block.{header_bytes, payload_bits, edition_of, count_of}
use Rattle.paper.specs.Record.{start_in, bits_kept}
use Rattle.record_laws.specs.Turn.{pair_small}
use Rattle.block.proofs.Editions.{start_least, start_most}
use Rattle.reader.proofs.Payload.{bits_small}
use Rattle.reader.proofs.Turn.{block_there, bits_last}
use Rattle.reader.proofs.bits_kept.Goals as goal

pub overflow_sub-full : goal.overflow_sub-full
overflow_sub-full c = omega (arith, c.start_in.ensures, start_most (edition_of c.args.blocks.now))

-- no more bits than the largest payload's
small : (start kept : ℕ) (s : List ℕ) → start ≡ start_in s → payload_bits start * (kept - 1) ≤ payload_bits header_bytes * (kept - 1)
small start kept s there = bits_small start (omega (arith, start_least (edition_of s))) _

pub overflow_mul-result : goal.overflow_mul-result
overflow_mul-result c = omega (arith, small c.start_in.result c.args.kept c.args.blocks.now c.start_in.ensures, c.requires.kept_le_numbered_blocks)

pub overflow_add-result : goal.overflow_add-result
overflow_add-result c = record { fits = omega (arith, small c.start_in.result c.args.kept c.args.blocks.now c.start_in.ensures, c.requires.kept_le_numbered_blocks, c.pair_at.ensures ∙ ap count_of (block_there c.args.blocks.now (c.args.kept - 1) _ [] c.as_chunks.ensures.front (omega arith)), pair_small c.args.blocks.now (λ i. (c.type_inv.blocks i).fits) (c.args.kept - 1) 14) }

pub returns : goal.returns
returns c =
    let s = c.args.blocks.now in
    bits_last c.start_in.result s c.args.kept c.pair_at.result c.requires.kept_nonzero (c.pair_at.ensures ∙ ap count_of (block_there c.args.blocks.now (c.args.kept - 1) _ [] c.as_chunks.ensures.front (omega arith)))
    ∙ ap (λ (start : ℕ). bits_kept start s c.args.kept) c.start_in.ensures
