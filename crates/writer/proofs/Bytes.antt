-- The bytes of the first b bits, one by one, and written one after the other.
use mathlib.Core.Path.{◌≡◌, refl, sym, ap, ◌∙◌}
use mathlib.Core.Bool.{Bool, false}
use mathlib.Core.List.{List, [], ◌∷◌, ◌++◌, append_assoc, append-nil}
use Prim.Native.Nat.{ℕ, zero, suc, ◌+◌, ◌*◌, ◌-◌, ◌/◌, ◌%◌, ◌<◌, ◌≤◌}
use native.Mathlib.Numerals.{add-one}
use native.Mathlib.Nat.{mul_assoc, mul-le-mul}
use native.Mathlib.Omega.{arith}
use lib.ListN.{length, take, drop, get_or, set, replicate}
use lib.Seq.{drop-drop, drop-cons, drop-length, set_at}
use Rattle.std.specs.Int.{div_ceil}
use Rattle.std.proofs.lemmas.Grind.{div_ceil_times}
use Rattle.std.proofs.lemmas.Nat.{div-mul-add}
use Rattle.paper.specs.Lists.{Bytes, parts}
use Rattle.paper.specs.Bits.{bits, byte_of, packed}
use Rattle.paper.specs.Block.{header_bytes, numbered_blocks, payload_bytes, payload_bits}
use Rattle.paper.specs.Record.{bits_of_block}
use Rattle.bits.specs.Bits.{kept, with_bit}
use Rattle.bits.proofs.Packing.{packed_length, packed_before, packed_seam, packed_after}
use Rattle.record_laws.specs.Packing.{packed_at, packed_more, packed_take}

module _ (s : List ℕ) (b at : ℕ) (w : Bytes s) (h : b ≤ 8 * length s) where
  byte_of_lem : get_or (packed (at + 1) (take b (bits s))) at 0 ≡ byte_of 8 (drop (8 * at) (take b (bits s)))
  byte_of_lem = packed_at (at + 1) at (take b (bits s)) (omega arith)

  pub byte_before : at < b / 8 → get_or s at 0 ≡ byte_of 8 (drop (8 * at) (take b (bits s)))
  byte_before k = sym (packed_before (at + 1) b s w h at (omega arith) k) ∙ byte_of_lem

  pub byte_after : b / 8 < at → 0 ≡ byte_of 8 (drop (8 * at) (take b (bits s)))
  byte_after k = sym (packed_after (at + 1) b s w h at (omega arith) k) ∙ byte_of_lem

  seam : at ≡ b / 8 → kept (b % 8) (get_or s at 0) ≡ byte_of 8 (drop (8 * at) (take b (bits s)))
  seam k = sym (packed_seam (at + 1) b s w h at (omega arith) k) ∙ byte_of_lem

  pub byte_none : at ≡ b / 8 → b % 8 ≡ 0 → 0 ≡ byte_of 8 (drop (8 * at) (take b (bits s)))
  byte_none k e = ap (λ u. kept u (get_or s at 0)) (sym e) ∙ seam k

  pub byte_seam : at ≡ b / 8 → with_bit (b % 8) false (get_or s at 0) ≡ byte_of 8 (drop (8 * at) (take b (bits s)))
  unfolding with_bit
  byte_seam k = let e : kept (b % 8) (get_or s at 0) + 0 ≡ kept (b % 8) (get_or s at 0) = omega arith in e ∙ seam k

-- no byte yet
pub filled_none : (l : List Bool) (old : List ℕ) (start : ℕ) → old ≡ packed 0 (drop (8 * start) l) ++ drop 0 old
unfolding packed
filled_none l old start = refl

-- one byte more
module _ (l : List Bool) (out old : List ℕ) (start i : ℕ) (e : out ≡ packed i (drop (8 * start) l) ++ drop i old) where
  pub filled_more : (v : ℕ) → i < length old → v ≡ byte_of 8 (drop (8 * (start + i)) l) → set out i v ≡ packed (i + 1) (drop (8 * start) l) ++ drop (i + 1) old
  unfolding packed
  filled_more v h f =
      let rest = drop (8 * start) l in
      let place : 8 * start + 8 * i ≡ 8 * (start + i) = omega arith in
      let byte : packed 1 (drop (8 * i) rest) ≡ v ∷ [] = ap (λ w. w ∷ []) (ap (byte_of 8) (drop-drop (8 * i) (8 * start) l ∙ ap (λ a. drop a l) place) ∙ sym f) in
      ap (λ o. set o i v) (e ∙ ap (λ r. packed i rest ++ r) (drop-cons old i 0 h))
      ∙ set_at (packed i rest) (get_or old i 0) (drop (suc i) old) v i (packed_length i rest)
      ∙ sym (ap (λ a. packed (i + 1) rest ++ drop a old) (add-one i) ∙ ap (λ p. p ++ drop (suc i) old) (packed_more i 1 rest ∙ ap (λ p. packed i rest ++ p) byte) ∙ append_assoc (packed i rest) (v ∷ []) (drop (suc i) old))

  pub filled : i ≡ length old → out ≡ packed (length old) (drop (8 * start) l)
  filled h = e ∙ ap (λ a. packed a (drop (8 * start) l) ++ drop a old) h ∙ ap (λ r. packed (length old) (drop (8 * start) l) ++ r) (drop-length old) ∙ append-nil (packed (length old) (drop (8 * start) l))

-- zeros behind what is written
pub zeros_left : (n m : ℕ) → drop n (replicate {A = ℕ} m 0) ≡ replicate (m - n) 0
zeros_left zero m = let e : m ≡ m - 0 = omega arith in ap (λ k. replicate k 0) e
zeros_left (suc n) zero = let e : 0 ≡ 0 - suc n = omega arith in ap (λ k. replicate k 0) e
zeros_left (suc n) (suc m) = let e : m - n ≡ suc m - suc n = omega arith in zeros_left n m ∙ ap (λ k. replicate k 0) e

-- how many parts hold a, as the library counts them
pub parts_up : (a m : ℕ) → 0 < m → div_ceil a m ≡ parts a m
parts_up a m h =
    let few = div_ceil_times a m h in
    let q : ℕ = div_ceil a m in
    let r : ℕ = a + (m - 1) - q * m in
    let e : a + (m - 1) ≡ q * m + r = omega arith in
    sym (ap (λ (n : ℕ). n / m) e ∙ div-mul-add q m r (omega arith))

-- no place in a record is beyond what numbered blocks hold
pub place_small : (size i : ℕ) → size ≤ payload_bits header_bytes → i < numbered_blocks → size * i ≤ payload_bits header_bytes * numbered_blocks
place_small size i h g = mul-le-mul {m₂ = numbered_blocks} h (omega arith)

-- the payload of block i
pub payload_is : (start : ℕ) (l : List Bool) (i : ℕ) → packed (payload_bytes start) (drop (8 * (payload_bytes start * i)) l) ≡ packed (payload_bytes start) (bits_of_block start l i)
payload_is start l i =
    ap (λ a. packed (payload_bytes start) (drop a l)) (sym (mul_assoc 8 (payload_bytes start) i))
    ∙ sym (packed_take (payload_bytes start) (payload_bits start) (drop (payload_bits start * i) l) (omega arith))
