-- What a refusal's number says of what was given, and what a refused job and a job done leave and answer.
use mathlib.Core.Path.{◌≡◌, refl, sym, ap, ◌∙◌}
use mathlib.Core.Bool.{Bool, true, false, ◌&&◌}
use mathlib.Core.List.{List}
use Prim.Native.Nat.{ℕ, ◌^◌, ◌<◌, ◌≤◌}
use native.Mathlib.Omega.{arith}
use lib.IntN.{ℤ}
use lib.ListN.{length}
use borrow.Author.Tests.{eqb-true, eq-eqb, ne_eqb}
use mathlib.Core.Logic.{◌⊎◌, inl, inr}
use Rattle.paper.specs.Sizes.{most_size, most_levels, size_in, levels_in, numbers_in, unless, judged}
use Rattle.paper.specs.Square.{numbers_of, greys_of, pictured}
use Rattle.paper.specs.Walk.{plane_count}
use Rattle.paper.specs.Jobs.{sizes_refusal, is_square, forward_refusal, forward_job, picture_refusal, inverse_refusal, inverse_job}
use Rattle.std.specs.Prelude.{Result, Err}
use Rattle.refusals.specs.declared.Refusal.{Refusal}
use Rattle.refusals.specs.Numbers.{refusal_of}
use Rattle.refusals.proofs.Numbers.{numbered}
use Rattle.transform.specs.Answers.{forward_answer, inverse_answer}
use Rattle.sizes.proofs.Ranges.{both_first, both_second, size_high, levels_few, levels_less}
use Rattle.sizes.proofs.Refusals.{row_passed, rows_left, size_accepted, levels_accepted, sizes_left, Rows, no_row, one_row, sizes_rows, sizes_stand, sizes_leave, refused_is, done_is}

-- ---- rows 1 and 2, as `sizes::judge` judges them
pub sizes_refused : (k L later r : ℕ) → r ≡ sizes_refusal k L 0 → 0 < r → r ≡ sizes_refusal k L later
sizes_refused k L later r e h = e ∙ sym (sizes_stand k L later (rw e at h))

pub sizes_right : (k L later : ℕ) → 0 ≡ sizes_refusal k L 0 → sizes_refusal k L later ≡ later
sizes_right k L later e = sizes_leave k L later (sym e)

pub size_right : (k L : ℕ) → 0 ≡ sizes_refusal k L 0 → size_in k ≡ true
size_right k L e = size_accepted k L 0 (sym e)

-- ---- two lengths, as row 3 asks for them and as the code compares them
pub lengths_right : (k picture numbers : ℕ) → picture ≡ 4 ^ k → numbers ≡ 4 ^ k → (is_square k picture && is_square k numbers) ≡ true
lengths_right k picture numbers p n = rw (eq-eqb picture (4 ^ k) p, eq-eqb numbers (4 ^ k) n)

pub lengths_wrong : (k picture numbers places : ℕ) → places ≡ 4 ^ k → (picture ≡ places → ⊥) ⊎ ((picture ≡ places) × (numbers ≡ places → ⊥)) → (is_square k picture && is_square k numbers) ≡ false
lengths_wrong k picture numbers places e (inl p) = rw (ne_eqb picture (4 ^ k) (λ q. p (q ∙ sym e)))
lengths_wrong k picture numbers places e (inr n) = rw (ne_eqb numbers (4 ^ k) (λ q. n.1 (q ∙ sym e))) (false_second (is_square k picture))
  where
    false_second : (b : Bool) → (b && false) ≡ false
    false_second true = refl
    false_second false = refl

-- ---- a job refused by r, and a job done
pub job_refused : {A : Type 0} (refusal r : ℕ) (refused : ℕ → A) (done : A) → r ≡ refusal → 0 < r → judged refusal refused done ≡ refused r
job_refused refusal r refused done e h = rw (← e) (refused_is r refused done h)

pub job_done : {A : Type 0} (refusal : ℕ) (refused : ℕ → A) (done : A) → 0 ≡ refusal → judged refusal refused done ≡ done
job_done refusal refused done e = done_is refusal refused done (sym e)

-- a refusal by the rows is the job's answer, with what was lent as it was
pub forward_unwritten : (k L : ℕ) (picture : List ℕ) (numbers : List ℤ) {A : Type 0} {answer : Result A Refusal} {refusal : Refusal} → answer ≡ Err refusal
    → refusal_of answer ≡ forward_refusal k L picture numbers → forward_job k L picture numbers ≡ forward_answer (Err refusal) numbers
unfolding forward_job
forward_unwritten k L picture numbers {A} {answer} {refusal} is e = job_refused _ _ _ _ (sym (ap refusal_of is) ∙ e) (numbered refusal)

pub inverse_unwritten : (k L : ℕ) (numbers : List ℤ) (picture : List ℕ) (room : List ℤ) {A : Type 0} {answer : Result A Refusal} {refusal : Refusal} → answer ≡ Err refusal
    → refusal_of answer ≡ inverse_refusal k L numbers picture room → inverse_job k L numbers picture room ≡ inverse_answer {A = A} (Err refusal) picture room
unfolding inverse_job
inverse_unwritten k L numbers picture room {A} {answer} {refusal} is e = job_refused _ _ _ _ (sym (ap refusal_of is) ∙ e) (numbered refusal)

-- ---- what no refusal says, in the order in which the work asks for it
module _ (k L : ℕ) (picture : List ℕ) (numbers : List ℤ) (e : 0 ≡ forward_refusal k L picture numbers) where
  abbrev squared : Bool
  squared = is_square k (length picture) && is_square k (length numbers)

  forward_passed : sizes_refusal k L (unless 3 squared 0) ≡ 0
  unfolding forward_refusal
  forward_passed = sym e

  pub forward_accepted : (size_in k ≡ true) × ((levels_in k L ≡ true) × ((length picture ≡ 4 ^ k) × (length numbers ≡ 4 ^ k)))
  forward_accepted =
      let s = row_passed 2 squared 0 (sizes_left k L _ forward_passed) in (
        size_accepted k L _ forward_passed,
        (
          levels_accepted k L _ forward_passed,
          (
            eqb-true (length picture) (4 ^ k) (both_first (is_square k (length picture)) (is_square k (length numbers)) s),
            eqb-true (length numbers) (4 ^ k) (both_second (is_square k (length picture)) (is_square k (length numbers)) s),
          ),
        ),
      )

  pub forward_done : (new : List ℤ) (n : ℕ) → new ≡ numbers_of k L picture → n ≡ plane_count new → forward_job k L picture numbers ≡ record { refusal = 0; n = n; numbers = new }
  unfolding forward_job
  forward_done new n f g = job_done (forward_refusal k L picture numbers) _ _ e ∙ rw (g, f)

-- the lengths that row 3 asks for
pub squares_are : (k j numbers picture room : ℕ) → (is_square k numbers && is_square j picture && is_square j room) ≡ true → (numbers ≡ 4 ^ k) × (picture ≡ 4 ^ j) × (room ≡ 4 ^ j)
squares_are k j numbers picture room e =
    let first = both_first (is_square k numbers && is_square j picture) (is_square j room) e in (
      eqb-true numbers (4 ^ k) (both_first (is_square k numbers) (is_square j picture) first),
      eqb-true picture (4 ^ j) (both_second (is_square k numbers) (is_square j picture) first),
      eqb-true room (4 ^ j) (both_second (is_square k numbers && is_square j picture) (is_square j room) e),
    )

-- rows 1 to 4
pub picture_rows : (k L : ℕ) (numbers : List ℤ) (picture : List ℕ) (room : List ℤ) → Rows (picture_refusal k L numbers picture room)
picture_rows k L numbers picture room = sizes_rows k L (one_row 2 (is_square k (length numbers) && is_square k (length picture) && is_square k (length room)) (one_row 3 (numbers_in numbers) no_row))

module _ (k L : ℕ) (numbers : List ℤ) (picture : List ℕ) (room : List ℤ) (e : 0 ≡ inverse_refusal k L numbers picture room) where
  abbrev lengths : Bool
  lengths = is_square k (length numbers) && is_square k (length picture) && is_square k (length room)

  inverse_passed : sizes_refusal k L (unless 3 lengths (unless 4 (numbers_in numbers) 0)) ≡ 0
  unfolding inverse_refusal
  inverse_passed = sym e

  pub inverse_accepted : (k ≤ most_size) × ((L ≤ most_levels) × ((L ≤ k) × ((length numbers ≡ 4 ^ k) × ((numbers_in numbers ≡ true) × ((length picture ≡ 4 ^ k) × (length room ≡ 4 ^ k))))))
  inverse_accepted =
      let l = levels_accepted k L _ inverse_passed in
      let rows = sizes_left k L _ inverse_passed in
      let s = squares_are k k (length numbers) (length picture) (length room) (row_passed 2 lengths _ rows) in
      (size_high k (size_accepted k L _ inverse_passed), (levels_few k L l, (omega (arith, levels_less k L l), (s.0, (row_passed 3 (numbers_in numbers) 0 (rows_left 2 lengths _ rows), (s.1, s.2))))))

  pub inverse_done : (seen : List ℕ) (greys : List ℤ) → seen ≡ pictured k (greys_of k L numbers) → greys ≡ greys_of k L numbers → inverse_job k L numbers picture room ≡ record { refusal = 0; picture = seen; room = greys }
  unfolding inverse_job
  inverse_done seen greys f g = job_done (inverse_refusal k L numbers picture room) _ _ e ∙ rw (f, g)
