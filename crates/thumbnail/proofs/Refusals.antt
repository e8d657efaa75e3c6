-- What a refusal's number says of what was given for a thumbnail, and what the job then leaves and answers.
use mathlib.Core.Path.{◌≡◌, sym, ap, ◌∙◌}
use mathlib.Core.Bool.{Bool, true, false, ◌&&◌}
use mathlib.Core.List.{List}
use Prim.Native.Nat.{ℕ, ◌-◌, ◌^◌, ◌<◌, ◌≤◌}
use native.Mathlib.Omega.{arith}
use lib.Dec.{leb}
use lib.IntN.{ℤ}
use lib.ListN.{length, take}
use borrow.Author.Tests.{leb-true}
use Rattle.paper.specs.Sizes.{most_size, most_levels, levels_in, halvings_in, numbers_in, unless}
use Rattle.paper.specs.Square.{greys_of, pictured, thumbnail_of}
use Rattle.paper.specs.Jobs.{sizes_refusal, is_square, thumbnail_refusal, thumbnail_job}
use Rattle.std.specs.Prelude.{Result, Err}
use Rattle.refusals.specs.declared.Refusal.{Refusal}
use Rattle.refusals.specs.Numbers.{refusal_of}
use Rattle.refusals.proofs.Numbers.{numbered}
use Rattle.transform.specs.Answers.{inverse_answer}
use Rattle.sizes.proofs.Ranges.{both_second, size_high, levels_few, levels_less}
use Rattle.sizes.proofs.Refusals.{row_passed, rows_left, size_accepted, levels_accepted, sizes_left}
use Rattle.square_laws.specs.Thumbnail.{first_le, length_first_numbers}
use Rattle.transform.proofs.Refusals.{sizes_refused, sizes_right, squares_are, job_refused, job_done}

-- ---- r
pub halvings_few : (L r : ℕ) → halvings_in L r ≡ true → r ≤ L
unfolding halvings_in
halvings_few L r e = leb-true r L (both_second (leb 1 r) (leb r L) e)

-- where sizes are right too, it is below k
pub halvings_below : (k L r : ℕ) → 0 ≡ sizes_refusal k L 0 → halvings_in L r ≡ true → r < k
halvings_below k L r e f = omega (arith, halvings_few L r f, levels_less k L (levels_accepted k L 0 (sym e)))

-- where lengths are right, the room is no longer than the numbers
pub room_within : (k r numbers picture room : ℕ) → (is_square k numbers && is_square (k - r) picture && is_square (k - r) room) ≡ true → room ≤ numbers
room_within k r numbers picture room s =
    let q = squares_are k (k - r) numbers picture room s in
    omega (arith, q.0, q.2, first_le k r)

-- ---- the rows, as they are judged one after the other
module _ (k L r : ℕ) (numbers : List ℤ) (picture : List ℕ) (room : List ℤ) where
  pub sizes_judged : (n : ℕ) → n ≡ sizes_refusal k L 0 → 0 < n → n ≡ thumbnail_refusal k L r numbers picture room
  unfolding thumbnail_refusal
  sizes_judged n = sizes_refused k L _ n

  module _ (e : 0 ≡ sizes_refusal k L 0) where
    pub halvings_refused : halvings_in L r ≡ false → 13 ≡ thumbnail_refusal k L r numbers picture room
    unfolding thumbnail_refusal
    halvings_refused f = rw (sizes_right k L _ e, f)

    module _ (f : halvings_in L r ≡ true) where
      pub lengths_refused : (is_square k (length numbers) && is_square (k - r) (length picture) && is_square (k - r) (length room)) ≡ false → 3 ≡ thumbnail_refusal k L r numbers picture room
      unfolding thumbnail_refusal
      lengths_refused s = rw (sizes_right k L _ e, f, s)

      module _ (s : (is_square k (length numbers) && is_square (k - r) (length picture) && is_square (k - r) (length room)) ≡ true) where
        pub numbers_judged : (b : Bool) → numbers_in (take (length room) numbers) ≡ b → unless 4 b 0 ≡ thumbnail_refusal k L r numbers picture room
        unfolding thumbnail_refusal
        numbers_judged b q = rw (sizes_right k L _ e, f, s, ← (squares_are k (k - r) (length numbers) (length picture) (length room) s).2, q)

-- ---- what no refusal says, in the order in which the work asks for it
module _ (k L r : ℕ) (numbers : List ℤ) (picture : List ℕ) (room : List ℤ) (e : 0 ≡ thumbnail_refusal k L r numbers picture room) where
  abbrev lengths : Bool
  lengths = is_square k (length numbers) && is_square (k - r) (length picture) && is_square (k - r) (length room)

  passed : sizes_refusal k L (unless 13 (halvings_in L r) (unless 3 lengths (unless 4 (numbers_in (take (4 ^ (k - r)) numbers)) 0))) ≡ 0
  unfolding thumbnail_refusal
  passed = sym e

  levels : levels_in k L ≡ true
  levels = levels_accepted k L _ passed

  rows : unless 3 lengths (unless 4 (numbers_in (take (4 ^ (k - r)) numbers)) 0) ≡ 0
  rows = rows_left 12 (halvings_in L r) _ (sizes_left k L _ passed)

  pub few : (r ≤ L) × (L < k)
  few = (halvings_few L r (row_passed 12 (halvings_in L r) _ (sizes_left k L _ passed)), levels_less k L levels)

  squared : (length numbers ≡ 4 ^ k) × (length picture ≡ 4 ^ (k - r)) × (length room ≡ 4 ^ (k - r))
  squared = squares_are k (k - r) (length numbers) (length picture) (length room) (row_passed 2 lengths _ rows)

  pub room_fits : length room ≤ length numbers
  room_fits = room_within k r (length numbers) (length picture) (length room) (row_passed 2 lengths _ rows)

  -- the numbers of the smaller square are in its range
  pub accepted : (k - r ≤ most_size) × ((L - r ≤ most_levels) × ((L - r ≤ k - r) × ((length (take (length room) numbers) ≡ 4 ^ (k - r)) × ((numbers_in (take (length room) numbers) ≡ true) × ((length picture ≡ 4 ^ (k - r)) × (length room ≡ 4 ^ (k - r)))))))
  accepted = (
    omega (arith, size_high k (size_accepted k L _ passed)),
    (
      omega (arith, levels_few k L levels),
      (
        omega (arith, few.1),
        (
          rw squared.2 (length_first_numbers k r numbers squared.0),
          (rw squared.2 (row_passed 3 (numbers_in (take (4 ^ (k - r)) numbers)) 0 (rows_left 2 lengths _ rows)), (squared.1, squared.2)),
        ),
      ),
    ),
  )

  pub thumbnail_done : (seen : List ℕ) (greys : List ℤ) → seen ≡ pictured (k - r) (greys_of (k - r) (L - r) (take (length room) numbers)) → greys ≡ greys_of (k - r) (L - r) (take (length room) numbers)
      → thumbnail_job k L r numbers picture room ≡ record { refusal = 0; picture = seen; room = greys }
  unfolding thumbnail_job thumbnail_of
  thumbnail_done seen greys f g = job_done (thumbnail_refusal k L r numbers picture room) _ _ e ∙ rw (f, g, squared.2)

-- a refusal by the rows is the job's answer, with what was lent as it was
pub thumbnail_unwritten : (k L r : ℕ) (numbers : List ℤ) (picture : List ℕ) (room : List ℤ) {A : Type 0} {answer : Result A Refusal} {refusal : Refusal} → answer ≡ Err refusal
    → refusal_of answer ≡ thumbnail_refusal k L r numbers picture room → thumbnail_job k L r numbers picture room ≡ inverse_answer {A = A} (Err refusal) picture room
unfolding thumbnail_job
thumbnail_unwritten k L r numbers picture room {A} {answer} {refusal} is e = job_refused _ _ _ _ (sym (ap refusal_of is) ∙ e) (numbered refusal)
