-- What the laws of a square ask of the rule of its lines. A line has 2 h numbers: h lows, then h highs, once transformed.
use Rattle.std.specs.Prelude.{◌≡◌, List, ℕ, ◌+◌, ◌*◌, ◌/◌, ◌<◌, ◌≤◌, length, ℤ}
use Rattle.paper.specs.Lists.{at}
use Rattle.lift.specs.Off.{Off}
use Rattle.line.specs.Each.{Each}

-- the first n numbers differ by at most a, and those from there up to m by at most e
pub record Near (n m a e : ℕ) (xs ys : List ℤ) : Type 0 where
  pub low : (i : ℕ) → i < n → Off a (at xs i) (at ys i)
  pub rest : (i : ℕ) → n ≤ i → i < m → Off e (at xs i) (at ys i)

-- A line forward and back. Forward, numbers within M are within 2 M after. Back, zeros stay zeros, and two lines whose lows
-- differ by at most a and whose highs differ by at most e differ by at most a + e + ceil (e / 2) after.
pub record Rule : Type 0 where
  pub forward : List ℤ → List ℤ
  pub back : List ℤ → List ℤ
  pub grows : (M h : ℕ) (x : List ℤ) → length x ≡ 2 * h → Each M x → Each (2 * M) (forward x)
  pub zeros : (h : ℕ) (y : List ℤ) → length y ≡ 2 * h → Each 0 y → Each 0 (back y)
  pub near : (h a e : ℕ) (xs ys : List ℤ) → length xs ≡ 2 * h → length ys ≡ 2 * h → Near h (2 * h) a e xs ys
      → (i : ℕ) → i < 2 * h → Off (a + e + (e + 1) / 2) (at (back xs) i) (at (back ys) i)

-- the way back undoes the way forward, which keeps a line's length
pub record Undoes (R : Rule) : Type 0 where
  pub keeps : (h : ℕ) (x : List ℤ) → length x ≡ 2 * h → length (R.forward x) ≡ 2 * h
  pub undone : (h : ℕ) (x : List ℤ) → length x ≡ 2 * h → R.back (R.forward x) ≡ x
