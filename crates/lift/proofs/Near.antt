-- Steps back from numbers that differ by little give samples that differ by little. A size is a difference from 0.
use Prim.Native.Nat.{ℕ, ◌+◌, ◌-◌, ◌/◌, ◌≤◌}
use mathlib.Core.Path.{◌≡◌}
use native.Mathlib.Omega.{arith}
use lib.IntN.{ℤ, pos, ◌+ℤ◌, ◌-ℤ◌}
use Rattle.paper.specs.Line.{odd_of, even_of}
use Rattle.integer_laws.specs.Difference.{◌⊖◌, abs-⊖, split}
use Rattle.integer_laws.specs.Order.{Within, ints, zarith, le-⊖, ⊖-le}
use Rattle.lift.specs.Off.{Over, Off}

-- ---- for `omega`
sum_is : (q m B : ℕ) → (q ⊖ m) +ℤ pos B ≡ (q + B) ⊖ (m + 0)
sum_is q m B = simp ints

pub over-⊖ : (B p n q m : ℕ) → p + m ≤ q + n + B → Over B (p ⊖ n) (q ⊖ m)
over-⊖ B p n q m h = record { over = rw (sum_is q m B) (le-⊖ p n (q + B) (m + 0) (omega arith)) }

pub ⊖-over : (B p n q m : ℕ) → Over B (p ⊖ n) (q ⊖ m) → p + m ≤ q + n + B
⊖-over B p n q m h = omega (arith, ⊖-le p n (q + B) (m + 0) (rw (sum_is q m B) at h.over))

pub ruleset overs = (arith, over-⊖, ⊖-over)

-- ---- differences
wider_over : {A B : ℕ} {x y : ℤ} → A ≤ B → Over A x y → Over B x y
wider_over {A} {B} {x} {y} = rw (split x, split y) (omega overs)

pub wider : {A B : ℕ} {x y : ℤ} → Off A x y → A ≤ B → Off B x y
wider h l = record { up = wider_over l h.up; down = wider_over l h.down }

-- the size of the difference, either way
within_gap : (B p n : ℕ) → Within B (p ⊖ n) → (p - n) + (n - p) ≤ B
within_gap B p n h = rw abs-⊖ at h.size

pub gap : {B : ℕ} {x y : ℤ} → Off B x y → Within B (x -ℤ y)
gap {B} {x} {y} h = go h.up h.down
  where
    go : Over B x y → Over B y x → Within B (x -ℤ y)
    go = rw (split x, split y) (simp ints (omega (zarith, ⊖-over)))

pub off : {B : ℕ} (x y : ℤ) → Within B (x -ℤ y) → Off B x y
off {B} x y h = record { up = (go x y h).0; down = (go x y h).1 }
  where
    go : (x y : ℤ) → Within B (x -ℤ y) → Over B x y × Over B y x
    go x y = rw (split x, split y) (simp ints (omega (overs, within_gap)))

-- what is within B is off 0 by at most B, and what is off 0 by at most B is within B
pub off_zero : {B : ℕ} (x : ℤ) → Within B x → Off B x (pos 0)
off_zero {B} x h = record { up = (go x h).0; down = (go x h).1 }
  where
    go : (x : ℤ) → Within B x → Over B x (pos 0) × Over B (pos 0) x
    go x = rw (split x) (simp ints (omega (zarith, overs)))

pub zero_off : {B : ℕ} (x y : ℤ) → Within 0 y → Off B x y → Within B x
zero_off {B} x y h o = go x y h o.up o.down
  where
    go : (x y : ℤ) → Within 0 y → Over B x y → Over B y x → Within B x
    go x y = rw (split x, split y) (omega (zarith, overs))

-- ---- the steps back
even_over : {a e : ℕ} {l l' p p' q q' : ℤ} → Over a l l' → Over e p' p → Over e q' q → Over (a + (e + 1) / 2) (even_of l p q) (even_of l' p' q')
unfolding even_of
even_over {a} {e} {l} {l'} {p} {p'} {q} {q'} = rw (split l, split l', split p, split p', split q, split q') (simp ints (omega overs))

pub even_near : {a e : ℕ} {l l' p p' q q' : ℤ} → Off a l l' → Off e p p' → Off e q q' → Off (a + (e + 1) / 2) (even_of l p q) (even_of l' p' q')
even_near L P Q = record { up = even_over L.up P.down Q.down; down = even_over L.down P.up Q.up }

odd_over : {b e : ℕ} {h h' l l' r r' : ℤ} → Over e h h' → Over b l l' → Over b r r' → Over (e + b) (odd_of h l r) (odd_of h' l' r')
unfolding odd_of
odd_over {b} {e} {h} {h'} {l} {l'} {r} {r'} = rw (split h, split h', split l, split l', split r, split r') (simp ints (omega overs))

pub odd_near : {b e : ℕ} {h h' l l' r r' : ℤ} → Off e h h' → Off b l l' → Off b r r' → Off (e + b) (odd_of h l r) (odd_of h' l' r')
odd_near H L R = record { up = odd_over H.up L.up R.up; down = odd_over H.down L.down R.down }
