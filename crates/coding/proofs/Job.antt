-- The job: which row refuses it, what is right once no row does, and what it then hands over.
use mathlib.Core.Path.{◌≡◌, sym, ap, ◌∙◌}
use mathlib.Core.Bool.{Bool, true, false}
use mathlib.Core.List.{List}
use Prim.Native.Nat.{ℕ, zero, suc, ◌*◌, ◌/◌, ◌^◌, ◌<◌, ◌≤◌, min}
use native.Mathlib.Omega.{arith}
use lib.Dec.{leb, eqb}
use lib.IntN.{ℤ}
use lib.ListN.{length, take}
use borrow.Author.Tests.{eq-eqb, ne_eqb, eqb-true}
use Rattle.std.specs.Prelude.{Result, Err}
use Rattle.paper.specs.Sizes.{most_size, most_planes, numbers_in, unless}
use Rattle.paper.specs.Walk.{largest, bits_needed, plane_count, Coder, walk_planes, depth, code_of}
use Rattle.paper.specs.Bits.{laid}
use Rattle.paper.specs.Jobs.{sizes_refusal, coding_refusal, written_of, coding_job}
use Rattle.refusals.specs.declared.Refusal.{Refusal}
use Rattle.refusals.specs.Numbers.{number_of, refusal_of}
use Rattle.refusals.proofs.Numbers.{numbered}
use Rattle.sizes.proofs.Ranges.{size_high, levels_less}
use Rattle.sizes.proofs.Refusals.{row_passed, rows_left, size_accepted, levels_accepted, sizes_left, sizes_stand, sizes_leave, refused_is, done_is}
use Rattle.bits.specs.Bits.{Sink, wrote}
use Rattle.bits.specs.declared.BitSink.{BitSink}
use Rattle.bits.proofs.Written.{wrote_laid}
use Rattle.set_coder.specs.Coded.{stands, Coded}
use Rattle.coding.specs.Answers.{coding_answer}

-- ---- the rows
module _ (k L : ℕ) (xs : List ℤ) where
  pub sizes_refused : (r : Refusal) → number_of r ≡ sizes_refusal k L 0 → number_of r ≡ coding_refusal k L xs
  unfolding coding_refusal
  sizes_refused r e = e ∙ sym (sizes_stand k L _ (omega (arith, numbered r)))

  module _ (sizes_right : 0 ≡ sizes_refusal k L 0) where
    pub length_refused : (length xs ≡ 4 ^ k → ⊥) → 3 ≡ coding_refusal k L xs
    unfolding coding_refusal
    length_refused f = sym (sizes_leave k L _ (sym sizes_right) ∙ rw (ne_eqb (length xs) (4 ^ k) f))

    pub range_judged : length xs ≡ 4 ^ k → (range : Bool) → numbers_in xs ≡ range → unless 4 range 0 ≡ coding_refusal k L xs
    unfolding coding_refusal
    range_judged l range f = sym (sizes_leave k L _ (sym sizes_right) ∙ rw (eq-eqb (length xs) (4 ^ k) l, f))

-- what is right where no row applies
pub record Right (k L : ℕ) (xs : List ℤ) : Type 0 where
  pub less : L < k
  pub high : k ≤ most_size
  pub square : length xs ≡ 4 ^ k
  pub range : numbers_in xs ≡ true

pub right : (k L : ℕ) (xs : List ℤ) → 0 ≡ coding_refusal k L xs → Right k L xs
unfolding coding_refusal
right k L xs judged =
    let square = eqb (length xs) (4 ^ k) in
    let range = numbers_in xs in
    let e = sym judged in
    let rows = sizes_left k L _ e in
    record {
      less = levels_less k L (levels_accepted k L _ e);
      high = size_high k (size_accepted k L _ e);
      square = eqb-true (length xs) (4 ^ k) (row_passed 2 square _ rows);
      range = row_passed 3 range 0 (rows_left 2 square _ rows);
    }

-- ---- n and the most bits
bits_few : (most m : ℕ) → bits_needed most m ≤ most
unfolding bits_needed
bits_few zero m = omega arith
bits_few (suc most) m = go (leb 1 m) (bits_few most (m / 2))
  where
    go : (b : Bool) → bits_needed most (m / 2) ≤ most → (elim b as (λ _. ℕ) [ true ↦ suc (bits_needed most (m / 2)) | false ↦ 0 ]) ≤ suc most
    go true h = omega arith
    go false h = omega arith

pub planes_few : (xs : List ℤ) → plane_count xs ≤ most_planes
unfolding plane_count
planes_few xs = bits_few most_planes (largest xs)

-- ---- what the job hands over
module _ (k L : ℕ) (xs : List ℤ) (limit : ℕ) (bytes : List ℕ) where
  -- a refusal by the rows is the job's answer, with the bytes as they were
  pub code_unwritten : {A : Type 0} {answer : Result A Refusal} {refusal : Refusal} → answer ≡ Err refusal → refusal_of answer ≡ coding_refusal k L xs
      → coding_job k L xs limit bytes ≡ coding_answer (Err refusal) bytes
  unfolding coding_job
  code_unwritten {A} {answer} {refusal} is e = rw (sym e ∙ ap refusal_of is) (refused_is (number_of refusal) _ _ (numbered refusal))

  -- the sink begins with the bytes, at their first bit, and ends with the planes coded
  pub job_done : (n most : ℕ) (entry exit : BitSink) → 0 ≡ coding_refusal k L xs → n ≡ plane_count xs → most ≡ min limit (8 * length bytes)
      → stands entry ≡ (bytes, 0) → entry.limit ≡ most → Coded (walk_planes Coder (depth k L) L n xs) entry (xs, 0) exit
      → coding_job k L xs limit bytes ≡ record { refusal = 0; written = exit.place; n = n; bytes = exit.bytes.now }
  unfolding coding_job written_of code_of
  job_done n most entry exit e is-n is-most starts is-limit w =
      let coded : ℕ → List Bool = λ n. (walk_planes Coder (depth k L) L n xs).1 in
      let l = take most (coded n) in
      let f : l ≡ written_of k L xs limit bytes = λ i. take (is-most i) (coded (is-n i)) in
      let v : ◌≡◌ {A = Sink} (laid l bytes, length l) (stands exit) = sym (w.put ∙ (λ i. wrote (is-limit i) (coded n) (starts i)) ∙ wrote_laid most (coded n) bytes (omega arith)) in
      done_is _ _ _ (sym e)
      ∙ (λ i. record { refusal = 0; written = length (sym f i); n = sym is-n i; bytes = laid (sym f i) bytes })
      ∙ (λ i. record { refusal = 0; written = (v i).1; n = n; bytes = (v i).0 })
