-- How a refusal is judged: what each row leaves to the later ones.
use mathlib.Core.Path.{◌≡◌, refl}
use mathlib.Core.Bool.{Bool, true, false}
use Prim.Native.Nat.{ℕ, zero, suc, ◌<◌}
use native.Mathlib.Omega.{arith}
use Rattle.paper.specs.Sizes.{size_in, levels_in, unless, judged}
use Rattle.paper.specs.Jobs.{sizes_refusal}

-- where no row applies, this one doesn't, and no later one does
pub row_passed : (r : ℕ) (b : Bool) (later : ℕ) → unless (suc r) b later ≡ 0 → b ≡ true
row_passed r true later e = refl
row_passed r false later e = absurd (let z : suc r ≡ 0 = e in omega arith)

pub rows_left : (r : ℕ) (b : Bool) (later : ℕ) → unless (suc r) b later ≡ 0 → later ≡ 0
rows_left r true later e = e
rows_left r false later e = absurd (let z : suc r ≡ 0 = e in omega arith)

-- rows 1 and 2
pub sizes_passed : (k L later : ℕ) → size_in k ≡ true → levels_in k L ≡ true → sizes_refusal k L later ≡ later
unfolding sizes_refusal
sizes_passed k L later s l = rw (s, l)

pub size_refused : (k L later : ℕ) → size_in k ≡ false → sizes_refusal k L later ≡ 1
unfolding sizes_refusal
size_refused k L later s = rw s

pub levels_refused : (k L later : ℕ) → size_in k ≡ true → levels_in k L ≡ false → sizes_refusal k L later ≡ 2
unfolding sizes_refusal
levels_refused k L later s l = rw (s, l)

pub size_accepted : (k L later : ℕ) → sizes_refusal k L later ≡ 0 → size_in k ≡ true
unfolding sizes_refusal
size_accepted k L later e = row_passed 0 (size_in k) (unless 2 (levels_in k L) later) e

pub levels_accepted : (k L later : ℕ) → sizes_refusal k L later ≡ 0 → levels_in k L ≡ true
unfolding sizes_refusal
levels_accepted k L later e = row_passed 1 (levels_in k L) later (rows_left 0 (size_in k) (unless 2 (levels_in k L) later) e)

pub sizes_left : (k L later : ℕ) → sizes_refusal k L later ≡ 0 → later ≡ 0
unfolding sizes_refusal
sizes_left k L later e = rows_left 1 (levels_in k L) later (rows_left 0 (size_in k) (unless 2 (levels_in k L) later) e)

-- rows that alone decide, or leave it to the later ones
pub record Rows (f : ℕ → ℕ) : Type 0 where
  pub stand : (later : ℕ) → 0 < f 0 → f later ≡ f 0
  pub leave : (later : ℕ) → f 0 ≡ 0 → f later ≡ later
  pub passed : (later : ℕ) → f later ≡ 0 → f 0 ≡ 0

pub no_row : Rows (λ later. later)
no_row = record { stand = λ later h. absurd (omega arith); leave = λ later e. refl; passed = λ later e. refl }

pub one_row : (r : ℕ) (b : Bool) {f : ℕ → ℕ} → Rows f → Rows (λ later. unless (suc r) b (f later))
one_row r true R = R
one_row r false R = record { stand = λ later h. refl; leave = λ later e. absurd (let z : suc r ≡ 0 = e in omega arith); passed = λ later e. e }

pub sizes_rows : (k L : ℕ) {f : ℕ → ℕ} → Rows f → Rows (λ later. sizes_refusal k L (f later))
unfolding sizes_refusal
sizes_rows k L R = one_row 0 (size_in k) (one_row 1 (levels_in k L) R)

pub sizes_stand : (k L later : ℕ) → 0 < sizes_refusal k L 0 → sizes_refusal k L later ≡ sizes_refusal k L 0
sizes_stand k L = (sizes_rows k L no_row).stand

pub sizes_leave : (k L later : ℕ) → sizes_refusal k L 0 ≡ 0 → sizes_refusal k L later ≡ later
sizes_leave k L = (sizes_rows k L no_row).leave

-- a job refused, and a job done
pub refused_is : {A : Type 0} (r : ℕ) (refused : ℕ → A) (done : A) → 0 < r → judged r refused done ≡ refused r
refused_is zero refused done h = absurd (omega arith)
refused_is (suc r) refused done h = refl

pub done_is : {A : Type 0} (r : ℕ) (refused : ℕ → A) (done : A) → r ≡ 0 → judged r refused done ≡ done
done_is r refused done e = rw e

-- whatever it answers besides, a job gives the number by which it was judged
pub refusal_is : {A : Type 0} (refusalOf : A → ℕ) (r : ℕ) (refused : ℕ → A) (done : A) → ((r : ℕ) → refusalOf (refused r) ≡ r) → refusalOf done ≡ 0 → refusalOf (judged r refused done) ≡ r
refusal_is refusalOf zero refused done given none = none
refusal_is refusalOf (suc r) refused done given none = given (suc r)
