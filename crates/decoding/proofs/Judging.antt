-- How a decoding is refused, row by row.
use mathlib.Core.Path.{◌≡◌, sym, ap, ◌∙◌}
use mathlib.Core.Bool.{Bool, true, false}
use mathlib.Core.List.{List}
use Prim.Native.Nat.{ℕ, ◌*◌, ◌^◌, ◌<◌, ◌≤◌}
use native.Mathlib.Omega.{arith}
use lib.Dec.{leb, eqb}
use borrow.Author.Tests.{eq-eqb, ne_eqb, leb-true, eqb-true}
use lib.IntN.{ℤ}
use Rattle.std.specs.Prelude.{Result, Err}
use lib.ListN.{length, take}
use Rattle.paper.specs.Sizes.{most_size, most_planes, planes_in, unless}
use Rattle.paper.specs.Bits.{bits}
use Rattle.paper.specs.Walk.{decode_of, Settled}
use Rattle.paper.specs.Jobs.{sizes_refusal, decoding_refusal, decoding_job, settled_job}
use Rattle.refusals.specs.declared.Refusal.{Refusal}
use Rattle.refusals.specs.Numbers.{number_of, refusal_of}
use Rattle.refusals.proofs.Numbers.{numbered}
use Rattle.decoding.specs.Answers.{decoding_answer}
use Rattle.sizes.proofs.Ranges.{size_high, levels_less, planes_few}
use Rattle.sizes.proofs.Refusals.{row_passed, rows_left, size_accepted, levels_accepted, sizes_left, sizes_stand, sizes_leave, refused_is, done_is}

-- ---- the rows
module _ (k L n : ℕ) (numbers : List ℤ) (bytes : List ℕ) (b : ℕ) where
  pub sizes_refused : (r : Refusal) → number_of r ≡ sizes_refusal k L 0 → number_of r ≡ decoding_refusal k L n numbers bytes b
  unfolding decoding_refusal
  sizes_refused r e = e ∙ sym (sizes_stand k L _ (omega (arith, numbered r)))

  module _ (sizes_right : 0 ≡ sizes_refusal k L 0) where
    pub places_refused : (length numbers ≡ 4 ^ k → ⊥) → 3 ≡ decoding_refusal k L n numbers bytes b
    unfolding decoding_refusal
    places_refused f = sym (sizes_leave k L _ (sym sizes_right) ∙ rw (ne_eqb (length numbers) (4 ^ k) f))

    module _ (places-right : length numbers ≡ 4 ^ k) where
      pub planes_refused : planes_in n ≡ false → 5 ≡ decoding_refusal k L n numbers bytes b
      unfolding decoding_refusal
      planes_refused f = sym (sizes_leave k L _ (sym sizes_right) ∙ rw (eq-eqb (length numbers) (4 ^ k) places-right, f))

      module _ (planes-right : planes_in n ≡ true) where
        pub bits_judged : (o : Bool) → leb b (8 * length bytes) ≡ o → unless 6 o 0 ≡ decoding_refusal k L n numbers bytes b
        unfolding decoding_refusal
        bits_judged o f = sym (sizes_leave k L _ (sym sizes_right) ∙ rw (eq-eqb (length numbers) (4 ^ k) places-right, planes-right, f))

-- what is right where nothing is refused
pub record Right (k L n : ℕ) (numbers : List ℤ) (bytes : List ℕ) (b : ℕ) : Type 0 where
  pub less : L < k
  pub size : k ≤ most_size
  pub planes : n ≤ most_planes
  pub places : length numbers ≡ 4 ^ k
  pub bits : b ≤ 8 * length bytes

pub right : (k L n : ℕ) (numbers : List ℤ) (bytes : List ℕ) (b : ℕ) → 0 ≡ decoding_refusal k L n numbers bytes b → Right k L n numbers bytes b
unfolding decoding_refusal
right k L n numbers bytes b judged =
    let e = sym judged in
    let e3 = sizes_left k L _ e in
    let e5 = rows_left 2 (eqb (length numbers) (4 ^ k)) _ e3 in
    let e6 = rows_left 4 (planes_in n) _ e5 in
    record {
      less = levels_less k L (levels_accepted k L _ e);
      size = size_high k (size_accepted k L _ e);
      planes = planes_few n (row_passed 4 (planes_in n) _ e5);
      places = eqb-true (length numbers) (4 ^ k) (row_passed 2 (eqb (length numbers) (4 ^ k)) _ e3);
      bits = leb-true b (8 * length bytes) (row_passed 5 (leb b (8 * length bytes)) 0 e6);
    }

-- ---- the job
module _ (k L n : ℕ) (numbers : List ℤ) (bytes : List ℕ) (b : ℕ) where
  -- a refusal by the rows is the job's answer, with the numbers as they were
  pub decode_unsettled : {A : Type 0} {answer : Result A Refusal} {refusal : Refusal} → answer ≡ Err refusal → refusal_of answer ≡ decoding_refusal k L n numbers bytes b
      → decoding_job k L n numbers bytes b ≡ decoding_answer (Err refusal) numbers
  unfolding decoding_job
  decode_unsettled {A} {answer} {refusal} is e = rw (sym e ∙ ap refusal_of is) (refused_is (number_of refusal) _ _ (numbered refusal))

  pub job_done : (s : Settled) → 0 ≡ decoding_refusal k L n numbers bytes b → decode_of k L n (take b (bits bytes)) ≡ s → decoding_job k L n numbers bytes b ≡ settled_job s
  unfolding decoding_job
  job_done s e f = done_is _ _ _ (sym e) ∙ ap settled_job f
