-- A block judged in its turn, and one step of the run.
use mathlib.Core.Path.{◌≡◌, refl, sym, ap, ◌∙◌}
use mathlib.Core.Bool.{Bool, true, false, ◌&&◌}
use mathlib.Core.List.{List}
use Prim.Native.Nat.{ℕ, zero, suc, ◌+◌, ◌*◌, ◌-◌, ◌/◌, ◌<◌, ◌≤◌}
use native.Mathlib.Nat.{mul-suc, mul-zero}
use native.Mathlib.Numerals.{add-one}
use native.Mathlib.Omega.{arith}
use lib.ListN.{length, take, drop, get_or}
use lib.Seq.{drop-drop, length-take-le}
use Rattle.std.specs.Simd.{first_chunks}
use Rattle.paper.specs.Block.{block_bytes, header_bytes, start_of, payload_bits, same_bytes, edition_of, count_of, named_of}
use Rattle.paper.specs.Record.{block_at, said, turn_refusal, refusal_at, is_full, Run, run_from, start_in, run_of, bits_kept}
use Rattle.block.proofs.Blocks.{same_bytes_parts}
use Rattle.record_laws.specs.Turn.{edition_of_0}

-- ---- block i, among the whole blocks that are lent
chunk_at : (s : List ℕ) (whole i : ℕ) (d : List ℕ) → i < whole → get_or (first_chunks block_bytes whole s) i d ≡ block_at s i
chunk_at s zero i d h = absurd (omega arith)
chunk_at s (suc whole) zero d h = refl
chunk_at s (suc whole) (suc i) d h =
    chunk_at (drop block_bytes s) whole i d (omega arith)
    ∙ ap (take block_bytes) (drop-drop (block_bytes * i) block_bytes s)
    ∙ ap (λ n. take block_bytes (drop n s)) (omega (arith, mul-suc block_bytes i))

pub block_there : (s : List ℕ) (i : ℕ) (blocks : List (List ℕ)) (d : List ℕ) → blocks ≡ first_chunks block_bytes (length s / block_bytes) s → block_bytes * i + block_bytes ≤ length s
    → get_or blocks i d ≡ block_at s i
block_there s i blocks d e h = ap (λ blocks. get_or blocks i d) e ∙ chunk_at s (length s / block_bytes) i d (omega arith)

-- ---- what the blocks of a record agree in
pub named_part : (block : List ℕ) (end : ℕ) → end ≡ start_of (edition_of block) → take (end - header_bytes) (drop header_bytes block) ≡ named_of block
unfolding named_of
named_part block end e = ap (λ n. take (n - header_bytes) (drop header_bytes block)) e

-- the front, and what names arm and mount
module _ (s t : List ℕ) (long : header_bytes + 4 ≤ length s) (long' : header_bytes + 4 ≤ length t) where
  pub parted : same_bytes (said s) (said t) ≡ (same_bytes (take 12 s) (take 12 t) && same_bytes (named_of s) (named_of t))
  unfolding said
  parted = same_bytes_parts (take 12 s) (take 12 t) (named_of s) (named_of t) (length-take-le 12 s (omega arith) ∙ sym (length-take-le 12 t (omega arith)))

-- ---- block i of s judged where it lies, by what block 0 of s said
pub judged_at : (s label : List ℕ) (i : ℕ) {r : ℕ} {first block : List ℕ} → first ≡ block_at s 0 → block ≡ block_at s i
    → r ≡ turn_refusal (said first) label i block → r ≡ refusal_at s label i
judged_at s label i f b e = e ∙ (λ t. turn_refusal (said (f t)) label i (b t))

-- it is full by where the payload starts in block 0
pub full_at : (s : List ℕ) (i : ℕ) {full : Bool} {start : ℕ} {first block : List ℕ} → first ≡ block_at s 0 → block ≡ block_at s i → start ≡ start_of (edition_of first)
    → full ≡ is_full start block → is_full (start_in s) (block_at s i) ≡ full
full_at s i f b e g = sym (g ∙ (λ t. is_full ((e ∙ ap (λ first. start_of (edition_of first)) f ∙ ap start_of (edition_of_0 s)) t) (b t)))

-- ---- a step of the run
abbrev after : ℕ → (ℕ → ℕ) → List ℕ → ℕ → ℕ → ℕ → Bool → Run
after start refusal s left i r full = elim r [
  | zero ↦ elim full [ true ↦ run_from start refusal s left (suc i) | false ↦ record { kept = suc i; ended = 0 } ]
  | suc r ↦ record { kept = i; ended = suc r }
]

module _ (start : ℕ) (refusal : ℕ → ℕ) (s : List ℕ) (whole i : ℕ) (h : i < whole) where
  step : run_from start refusal s (whole - i) i ≡ after start refusal s (whole - (i + 1)) i (refusal i) (is_full start (block_at s i))
  unfolding run_from
  step = let e : whole - i ≡ suc (whole - (i + 1)) = omega arith in ap (λ left. run_from start refusal s left i) e

  pub run_fails : (r : ℕ) → r ≡ refusal i → 0 < r → run_from start refusal s (whole - i) i ≡ record { kept = i; ended = r }
  run_fails r e g = step ∙ ap (λ r. after start refusal s (whole - (i + 1)) i r (is_full start (block_at s i))) (sym e) ∙ failed r g
    where
      failed : (r : ℕ) → 0 < r → after start refusal s (whole - (i + 1)) i r (is_full start (block_at s i)) ≡ record { kept = i; ended = r }
      failed zero g = absurd (omega arith)
      failed (suc r) g = refl

  -- a block that passes
  passed : {full : Bool} → 0 ≡ refusal i → is_full start (block_at s i) ≡ full → run_from start refusal s (whole - i) i ≡ after start refusal s (whole - (i + 1)) i 0 full
  passed e f = step ∙ (λ t. after start refusal s (whole - (i + 1)) i (sym e t) (f t))

  pub run_short : 0 ≡ refusal i → is_full start (block_at s i) ≡ false → run_from start refusal s (whole - i) i ≡ record { kept = i + 1; ended = 0 }
  run_short e short = passed e short ∙ ap (λ j. record { kept = j; ended = 0 }) (sym (add-one i))

  pub run_more : 0 ≡ refusal i → is_full start (block_at s i) ≡ true → run_from start refusal s (whole - i) i ≡ run_from start refusal s (whole - (i + 1)) (i + 1)
  run_more e full = passed e full ∙ ap (run_from start refusal s (whole - (i + 1))) (sym (add-one i))

pub run_ends : (start : ℕ) (refusal : ℕ → ℕ) (s : List ℕ) (whole i : ℕ) → i ≡ whole → run_from start refusal s (whole - i) i ≡ record { kept = whole; ended = 0 }
unfolding run_from
run_ends start refusal s whole i e = let z : whole - i ≡ zero = omega arith in ap (λ left. run_from start refusal s left i) z ∙ ap (λ j. record { kept = j; ended = 0 }) e

pub run_start : (s label : List ℕ) → run_of s label ≡ run_from (start_in s) (refusal_at s label) s (length s / block_bytes - 0) 0
run_start s label = let e : length s / block_bytes ≡ length s / block_bytes - 0 = omega arith in ap (λ left. run_from (start_in s) (refusal_at s label) s left 0) e

-- ---- the bits of kept blocks
pub bits_last : (start : ℕ) (s : List ℕ) (kept count : ℕ) → 0 < kept → count ≡ count_of (block_at s (kept - 1)) → payload_bits start * (kept - 1) + count ≡ bits_kept start s kept
unfolding bits_kept
bits_last start s zero count h e = absurd (omega arith)
bits_last start s (suc last) count h e =
    let z : suc last - 1 ≡ last = omega arith in
    ap (λ c. payload_bits start * (suc last - 1) + c) e ∙ ap (λ i. payload_bits start * i + count_of (block_at s i)) z

pub bits_low : (start : ℕ) (s : List ℕ) (kept : ℕ) → payload_bits start * (kept - 1) ≤ bits_kept start s kept
unfolding bits_kept
bits_low start s zero = omega (arith, mul-zero (payload_bits start))
bits_low start s (suc last) = let z : suc last - 1 ≡ last = omega arith in rw z (omega arith)
