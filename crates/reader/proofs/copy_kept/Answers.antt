-- `copy_kept`: the full blocks, then the used bytes of the last.
use Prim.Native.Nat.{ℕ, suc, ◌+◌, ◌*◌, ◌-◌, ◌<◌, ◌≤◌}
use mathlib.Core.Path.{◌≡◌, sym, ap, ◌∙◌}
use mathlib.Core.List.{List, []}
use native.Mathlib.Nat.{mul-suc}
use native.Mathlib.Omega.{arith}
use Rattle.paper.specs.Lists.{over}
use Rattle.paper.specs.Block.{header_bytes, checks_start, payload_bytes, payload_bits, edition_of}
use Rattle.paper.specs.Record.{start_in, bits_kept, payload_kept}
use Rattle.block.proofs.Editions.{start_least, start_most}
use Rattle.reader.proofs.Payload.{place_small, payload_last}
use Rattle.reader.proofs.Turn.{block_there, bits_low}
use Rattle.reader.proofs.copy_kept.Goals as goal

-- where the payload starts, and the last block's place among bits and bytes
record Place (start kept bits : ℕ) : Type 0 where
  low : header_bytes ≤ start
  high : start ≤ checks_start
  before : payload_bits start * (kept - 1) ≤ bits
  behind : bits ≤ payload_bits start * (kept - 1) + payload_bits start
  within : payload_bytes start * (kept - 1) + payload_bytes start ≤ payload_bytes header_bytes * kept

place : (start kept bits : ℕ) (s : List ℕ) → 0 < kept → start ≡ start_in s → bits ≡ bits_kept (start_in s) s kept → bits ≤ payload_bits (start_in s) * kept → Place start kept bits
place start kept bits s some there value bound =
    let last = kept - 1 in
    let e : kept ≡ suc last = omega arith in
    let low : header_bytes ≤ start = omega (arith, start_least (edition_of s)) in
    let all : bits ≡ bits_kept start s kept = value ∙ ap (λ (t : ℕ). bits_kept t s kept) (sym there) in
    let most : bits ≤ payload_bits start * kept = omega (arith, ap (λ (t : ℕ). payload_bits t * kept) there) in
    record {
      low = low;
      high = omega (arith, start_most (edition_of s));
      before = omega (arith, bits_low start s kept);
      behind = omega (arith, mul-suc (payload_bits start) last, ap (λ (t : ℕ). payload_bits start * t) e);
      within = omega (arith, mul-suc (payload_bytes start) last, ap (λ (t : ℕ). payload_bytes start * t) e, place_small start low kept);
    }

pub overflow_sub-start : goal.overflow_sub-start
overflow_sub-start c = omega (arith, (place c.start_in-start.result c.args.kept c.args.bits c.args.blocks.now c.requires.kept_nonzero c.start_in-start.ensures c.requires.bits_value c.requires.bits_bound).high)

pub overflow_sub-bits : goal.overflow_sub-bits
overflow_sub-bits c = omega (arith, (place c.start_in-start.result c.args.kept c.args.bits c.args.blocks.now c.requires.kept_nonzero c.start_in-start.ensures c.requires.bits_value c.requires.bits_bound).before)

pub copy_full-requires : goal.copy_full-requires
copy_full-requires c =
    let p = place c.start_in-start.result c.args.kept c.args.bits c.args.blocks.now c.requires.kept_nonzero c.start_in-start.ensures c.requires.bits_value c.requires.bits_bound in
    record { start_le_checks_start = p.high; full_bound = omega arith; full_in_bounds = omega (arith, p.within, c.requires.blocks_in_bounds) }

pub put_payload-requires : goal.put_payload-requires
put_payload-requires c =
    let p = place c.start_in-start.result c.args.kept c.args.bits c.args.blocks.now c.requires.kept_nonzero c.start_in-start.ensures c.requires.bits_value c.requires.bits_bound in
    record { start_le_checks_start = p.high; n_in_bounds = omega (arith, p.before, p.behind, p.within, c.requires.blocks_in_bounds); n_bound = omega (arith, p.before, p.behind) }

pub returns : goal.returns
returns c =
    let args = c.args in
    let s = args.blocks.now in
    let start = c.start_in-start.result in
    let last = args.kept - 1 in
    let e : args.kept ≡ suc last = omega arith in
    let all = c.requires.bits_value ∙ (λ t. bits_kept (sym c.start_in-start.ensures t) s (e t)) in
    c.put_payload.ensures
    ∙ payload_last start s args.room.now last args.bits c.div_ceil-used.result (omega arith) all (omega (arith, (place c.start_in-start.result c.args.kept c.args.bits c.args.blocks.now c.requires.kept_nonzero c.start_in-start.ensures c.requires.bits_value c.requires.bits_bound).behind, mul-suc (payload_bits start) last)) (omega (arith, c.div_ceil-used.ensures)) c.copy_full.new.room _ (block_there s last _ [] c.as_chunks.ensures.front (omega arith)) c.copy_full.ensures
    ∙ (λ t. over (payload_kept (c.start_in-start.ensures t) s (sym e t)) args.room.now)
