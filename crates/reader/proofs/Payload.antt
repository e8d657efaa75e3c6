-- The payload of kept blocks, laid one behind the other.
use mathlib.Core.Path.{◌≡◌, sym, ap, ◌∙◌}
use mathlib.Core.List.{List, ◌++◌}
use Prim.Native.Nat.{ℕ, suc, ◌+◌, ◌*◌, ◌-◌, ◌/◌, ◌<◌, ◌≤◌}
use native.Mathlib.Nat.{mul_assoc, mul-suc, mul-le-mul}
use native.Mathlib.Omega.{arith}
use lib.ListN.{length, take, drop, length-append, length-take, length-drop}
use lib.Seq.{take_all, take-append-add}
use Rattle.paper.specs.Lists.{joined, over}
use Rattle.paper.specs.Block.{block_bytes, header_bytes, payload_bytes, payload_bits, payload_of}
use Rattle.paper.specs.Record.{whole_blocks, block_at, bits_kept, payload_kept}
use Rattle.paper.specs.Jobs.{room_bytes}
use Rattle.list_laws.specs.Over.{laid_behind}
use Rattle.list_laws.specs.Joined.{Even, length_joined, one_joined}

pub payload_length : (start : ℕ) (s : List ℕ) (i : ℕ) → block_bytes * i + block_bytes ≤ length s → length (payload_of start (block_at s i)) ≡ payload_bytes start
unfolding payload_of
payload_length start s i h = simp (length-take, length-drop) (omega arith)

-- ---- where payloads lie in the room: close enough that 492 bytes a block hold them
module _ (start : ℕ) where
  pub place_small : header_bytes ≤ start → (i : ℕ) → payload_bytes start * i ≤ room_bytes * i
  place_small least i = mul-le-mul {m₂ = i} (omega arith) (omega arith)

  pub bits_small : header_bytes ≤ start → (i : ℕ) → payload_bits start * i ≤ payload_bits header_bytes * i
  bits_small least i = mul-le-mul {m₂ = i} (omega arith) (omega arith)

abbrev payloads : ℕ → List ℕ → ℕ → List ℕ
payloads start s = λ i. payload_of start (block_at s i)

even : (start : ℕ) (s : List ℕ) (full : ℕ) → full ≤ whole_blocks s → Even (payload_bytes start) (payloads start s) full
even start s full h i k = payload_length start s i (omega arith)

-- one full block more
pub payload_more : (start : ℕ) (s old : List ℕ) (i : ℕ) (out block : List ℕ) → block ≡ block_at s i → i < whole_blocks s → out ≡ joined i (payloads start s) ++ drop (payload_bytes start * i) old
    → take (payload_bytes start * i) out ++ (take (payload_bytes start) (payload_of start block) ++ drop (payload_bytes start * i + payload_bytes start) out) ≡ joined (i + 1) (payloads start s) ++ drop (payload_bytes start * (i + 1)) old
payload_more start s old i out block b h e =
    ap (λ block. take (payload_bytes start * i) out ++ (take (payload_bytes start) (payload_of start block) ++ drop (payload_bytes start * i + payload_bytes start) out)) b
    ∙ one_joined (payload_bytes start) (payloads start s) i (even start s i (omega arith)) (take (payload_bytes start) (payloads start s i)) out old e (take_all (payload_bytes start) (payloads start s i) (omega (arith, payload_length start s i (omega arith))))

-- the last block's used bytes
module _ (start : ℕ) (s old : List ℕ) (last bits used : ℕ) (h : suc last ≤ whole_blocks s) (b : bits ≡ bits_kept start s (suc last)) (most : bits ≤ payload_bits start * suc last) (u : used ≡ (bits - payload_bits start * last + 7) / 8) where
  abbrev full : ℕ
  full = payload_bytes start * last

  front : length (joined last (payloads start s)) ≡ full
  front = length_joined (payload_bytes start) (payloads start s) last (even start s last (omega arith))

  kept_is : payload_kept start s (suc last) ≡ joined last (payloads start s) ++ take used (payloads start s last)
  unfolding payload_kept joined bits_kept
  kept_is =
      let size : (bits_kept start s (suc last) + 7) / 8 ≡ length (joined last (payloads start s)) + used = omega (arith, front, mul_assoc 8 (payload_bytes start) last) in
      ap (λ n. take n (joined last (payloads start s) ++ payloads start s last)) size ∙ take-append-add (joined last (payloads start s)) (payloads start s last) used

  pub payload_last : (out block : List ℕ) → block ≡ block_at s last → out ≡ joined last (payloads start s) ++ drop full old
      → take full out ++ (take used (payload_of start block) ++ drop (full + used) out) ≡ over (payload_kept start s (suc last)) old
  payload_last out block b e =
      let part = take used (payloads start s last) in
      let size : length (joined last (payloads start s) ++ part) ≡ full + used = length-append (joined last (payloads start s)) part ∙ omega (arith, front, mul-suc (payload_bits start) last, length-take used (payloads start s last), payload_length start s last (omega arith)) in
      ap (λ block. take full out ++ (take used (payload_of start block) ++ drop (full + used) out)) b
      ∙ laid_behind (joined last (payloads start s)) part out old full used front e
      ∙ ap (λ a. (joined last (payloads start s) ++ part) ++ drop a old) (sym size)
      ∙ ap (λ p. over p old) (sym kept_is)
