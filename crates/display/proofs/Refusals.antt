-- What a refusal says of what was given for a softer picture, and what the job then leaves and answers.
use mathlib.Core.Path.{◌≡◌, sym, ap, ◌∙◌}
use mathlib.Core.Bool.{Bool, true, false}
use mathlib.Core.List.{List}
use Prim.Native.Nat.{ℕ, ◌^◌, ◌≤◌}
use native.Mathlib.Omega.{arith}
use lib.Dec.{ltb}
use lib.IntN.{ℤ}
use lib.ListN.{length}
use Rattle.paper.specs.Sizes.{most_size, most_levels, most_planes, planes_in, numbers_in, unless}
use Rattle.paper.specs.Square.{greys_of, pictured}
use Rattle.paper.specs.Softer.{softened, softer_of}
use Rattle.paper.specs.Jobs.{inverse_refusal, display_refusal, display_job}
use Rattle.std.specs.Prelude.{Result, Err}
use Rattle.refusals.specs.declared.Refusal.{Refusal}
use Rattle.refusals.specs.Numbers.{number_of, refusal_of}
use Rattle.refusals.proofs.Numbers.{numbered}
use Rattle.transform.specs.Answers.{inverse_answer}
use Rattle.sizes.proofs.Ranges.{planes_few}
use Rattle.sizes.proofs.Refusals.{row_passed}
use Rattle.transform.proofs.Refusals.{picture_rows, inverse_accepted, job_refused, job_done}

-- rows 5 and 11
abbrev later : ℕ → ℕ → ℕ → ℕ
later k p place = unless 5 (planes_in p) (unless 11 (ltb place (4 ^ k)) 0)

-- ---- the rows, as they are judged one after the other
module _ (k L p place : ℕ) (numbers : List ℤ) (picture : List ℕ) (room : List ℤ) where
  pub picture_judged : (r : Refusal) → number_of r ≡ inverse_refusal k L numbers picture room → number_of r ≡ display_refusal k L p place numbers picture room
  unfolding inverse_refusal display_refusal
  picture_judged r e = e ∙ sym ((picture_rows k L numbers picture room).stand (later k p place) (omega (arith, e, numbered r)))

  module _ (none : 0 ≡ inverse_refusal k L numbers picture room) where
    pub planes_judged : planes_in p ≡ false → 5 ≡ display_refusal k L p place numbers picture room
    unfolding inverse_refusal display_refusal
    planes_judged f = rw ((picture_rows k L numbers picture room).leave (later k p place) (sym none), f)

    pub place_judged : planes_in p ≡ true → (b : Bool) → ltb place (length numbers) ≡ b → unless 11 b 0 ≡ display_refusal k L p place numbers picture room
    unfolding inverse_refusal display_refusal
    place_judged f b q = rw ((picture_rows k L numbers picture room).leave (later k p place) (sym none), f, ← (inverse_accepted k L numbers picture room none).1.1.1.0, q)

-- ---- what no refusal says
module _ (k L p place : ℕ) (numbers : List ℤ) (picture : List ℕ) (room : List ℤ) (passed : 0 ≡ display_refusal k L p place numbers picture room) where
  none_first : inverse_refusal k L numbers picture room ≡ 0
  unfolding inverse_refusal display_refusal
  none_first = (picture_rows k L numbers picture room).passed (later k p place) (sym passed)

  pub accepted : (k ≤ most_size) × ((L ≤ most_levels) × ((L ≤ k) × ((length numbers ≡ 4 ^ k) × ((numbers_in numbers ≡ true) × ((length picture ≡ 4 ^ k) × (length room ≡ 4 ^ k))))))
  accepted = inverse_accepted k L numbers picture room (sym none_first)

  pub planes_accepted : p ≤ most_planes
  unfolding inverse_refusal display_refusal
  planes_accepted = planes_few p (row_passed 4 (planes_in p) _ (sym ((picture_rows k L numbers picture room).leave (later k p place) none_first) ∙ sym passed))

  pub display_done : (seen : List ℕ) (greys : List ℤ) → seen ≡ pictured k (greys_of k L (softened p place numbers)) → greys ≡ greys_of k L (softened p place numbers)
      → display_job k L p place numbers picture room ≡ record { refusal = 0; picture = seen; room = greys }
  unfolding display_job softer_of
  display_done seen greys f g = job_done (display_refusal k L p place numbers picture room) _ _ passed ∙ rw (f, g)

-- a refusal by the rows is the job's answer, with what was lent as it was
pub display_unwritten : (k L p place : ℕ) (numbers : List ℤ) (picture : List ℕ) (room : List ℤ) {A : Type 0} {answer : Result A Refusal} {refusal : Refusal} → answer ≡ Err refusal
    → refusal_of answer ≡ display_refusal k L p place numbers picture room → display_job k L p place numbers picture room ≡ inverse_answer {A = A} (Err refusal) picture room
unfolding display_job
display_unwritten k L p place numbers picture room {A} {answer} {refusal} is e = job_refused _ _ _ _ (sym (ap refusal_of is) ∙ e) (numbered refusal)
