-- A number that grows in magnitude and keeps its sign, in a signed 32-bit machine number.
use mathlib.Core.Path.{◌≡◌, refl, ap, ◌∙◌}
use mathlib.Core.Bool.{true, false}
use Prim.Native.Nat.{ℕ, suc, ◌+◌, ◌^◌, ◌<◌}
use native.Mathlib.Omega.{arith}
use lib.IntN.{ℤ, pos, negsuc, neg_ℤ, nat_abs, ◌+ℤ◌, ◌-ℤ◌}
use lib.Signed.{lt_z}
use borrow.Author.Tests.{ltb-true}
use mir.Syntax.{w32}
use mir.Val.{SFits, to_z}
use mir.Facts.{to_z_pos}
use Rattle.paper.specs.Walk.{negative, signed}
use Rattle.integer_laws.specs.Difference.{◌⊖◌, pos-⊖, negsuc-⊖, split}
use Rattle.integer_laws.specs.Order.{ints, zarith}

pub weight : (t : ℕ) → t < 2 ^ 31 → to_z w32 t ≡ pos t
weight t h = to_z_pos w32 h

pub downward : (x y z : ℤ) (a t : ℕ) → x ≡ 0 ⊖ a → y ≡ t ⊖ 0 → z ≡ (a + t) ⊖ 0 → x -ℤ y ≡ neg_ℤ z
downward x y z a t e f g = rw (e, f, g) (simp ints (omega zarith))

fits : (x y : ℤ) (t : ℕ) → y ≡ t ⊖ 0 → nat_abs x + t < 2 ^ 31 → SFits w32 (x -ℤ y) × SFits w32 (x +ℤ y)
fits x y t e = rw (split x, e) (simp ints (omega zarith))

-- a number below 0 goes down, another up
pub grown_below : (x : ℤ) (t : ℕ) → nat_abs x + t < 2 ^ 31 → lt_z x (pos 0) ≡ true → SFits w32 (x -ℤ pos t) × (x -ℤ pos t ≡ signed (negative x) (nat_abs x + t))
grown_below (pos n) t h e = absurd (omega (arith, ltb-true n 0 e))
grown_below (negsuc n) t h e = (
  (fits (negsuc n) (pos t) t (pos-⊖ t) h).0,
  downward (negsuc n) (pos t) (pos (suc n + t)) (n + 1) t (negsuc-⊖ n) (pos-⊖ t) (pos-⊖ (suc n + t) ∙ ap (λ k. k ⊖ 0) (let z : suc n + t ≡ n + 1 + t = omega arith in z)),
)

pub grown_above : (x : ℤ) (t : ℕ) → nat_abs x + t < 2 ^ 31 → lt_z x (pos 0) ≡ false → SFits w32 (x +ℤ pos t) × (x +ℤ pos t ≡ signed (negative x) (nat_abs x + t))
grown_above (pos n) t h e = ((fits (pos n) (pos t) t (pos-⊖ t) h).1, refl)
grown_above (negsuc n) t h e = absurd (let z : ◌≡◌ {A = ℕ} 0 1 = cc in omega arith)
