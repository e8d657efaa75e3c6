-- A block put together is the record's block, and one more stands behind those that are written.
use mathlib.Core.Path.{◌≡◌, sym, ap, ◌∙◌}
use mathlib.Core.List.{List, ◌++◌}
use Prim.Native.Nat.{ℕ, ◌+◌, ◌*◌, ◌-◌, ◌≤◌, min}
use native.Mathlib.Omega.{arith}
use lib.ListN.{length, take, drop}
use lib.Seq.{length-take-le}
use Rattle.paper.specs.Lists.{joined}
use Rattle.paper.specs.Bits.{bits, packed}
use Rattle.paper.specs.Block.{Origin, block_bytes, start_of, payload_bytes, payload_bits}
use Rattle.paper.specs.Record.{made_block, bits_of_block, block_of}
use Rattle.bits.proofs.OneBit.{bits_length}
use Rattle.bits.proofs.Packing.{packed_length}
use Rattle.block.proofs.Blocks.{made_length}
use Rattle.list_laws.specs.Joined.{one_joined}
use Rattle.list_laws.specs.Parts.{behind_part}
use Rattle.record_laws.specs.Written.{length_of_block}
use Rattle.writer.proofs.Bytes.{payload_is}

module _ (o : Origin) (k L n : ℕ) (label bytes : List ℕ) (b : ℕ) where
  abbrev start : ℕ
  start = start_of o.edition

  abbrev written : ℕ → List ℕ
  written = block_of o k L n label (take b (bits bytes))

  pub block_is : (i count : ℕ) (part r : List ℕ) → b ≤ 8 * length bytes → count ≡ min (payload_bits start) (b - payload_bits start * i)
      → part ≡ packed (payload_bytes start) (drop (8 * (payload_bytes start * i)) (take b (bits bytes))) → r ≡ made_block o k L n label i count part → r ≡ written i
  unfolding block_of
  block_is i count part r h c p e =
      let l = take b (bits bytes) in
      let whole : length l ≡ b = length-take-le b (bits bytes) (omega (arith, bits_length bytes)) in
      let held : length (bits_of_block start l i) ≡ count = length_of_block start l i ∙ ap (λ a. min (payload_bits start) (a - payload_bits start * i)) whole ∙ sym c in
      e ∙ (λ t. made_block o k L n label i (sym held t) ((p ∙ payload_is start l i) t))

  -- one more block behind those that are written
  pub one_written : (i : ℕ) → length label ≡ 8 → (block out old : List ℕ) → out ≡ joined i written ++ drop (block_bytes * i) old → block ≡ written i
      → take (block_bytes * i) out ++ (block ++ drop (block_bytes * i + block_bytes - block_bytes * i) (drop (block_bytes * i) out)) ≡ joined (i + 1) written ++ drop (block_bytes * (i + 1)) old
  unfolding block_of
  one_written i eight block out old e f =
      ap (λ r. take (block_bytes * i) out ++ (block ++ r)) (behind_part (block_bytes * i) (block_bytes * i + block_bytes) out (omega arith))
      ∙ one_joined block_bytes written i (λ j h. made_length o k L n label j _ _ eight (packed_length (payload_bytes start) _)) block out old e f
