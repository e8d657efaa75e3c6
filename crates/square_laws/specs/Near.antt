-- The error law of the square, up to the columns of a level, and what levels make of an error: a level adds 7 E to what its upper
-- left quarter brings, the line law for the columns, then for the rows. proofs/Near.antt goes on from here.
use Rattle.std.specs.Prelude.{◌≡◌, Bool, List, ℤ}
use Rattle.std.proofs.Common.{◌∙◌, arith, add-mul}
use Rattle.std.proofs.Math.Bool.{true}
use Prim.Native.Nat.{ℕ, zero, suc, ◌+◌, ◌*◌, ◌/◌, ◌^◌, ◌<◌, ◌≤◌}
use Rattle.std.proofs.Math.Decide.{dec_lt}
use Rattle.std.proofs.Math.Nat.{pow-suc}
use Rattle.paper.specs.Lists.{at}
use Rattle.paper.specs.Square.{place_of, line, along}
use Rattle.places.proofs.Interleaving.{interleaved_below, upper_left, outside}
use Rattle.lift.specs.Off.{Off}
use Rattle.lift.proofs.Near.{wider}
use Rattle.line.specs.Rule.{Near, Rule}
use Rattle.square_laws.specs.Grid.{by_lines, length_line, at_line, at_along}

-- ---- a pass back along the lines
module _ (R : Rule) (j : ℕ) (down : Bool) (l a e : ℕ) (xs ys : List ℤ) (h : l < 2 ^ suc j)
    (low : (i : ℕ) → i < 2 ^ j → Off a (at xs (place_of (suc j) down l i)) (at ys (place_of (suc j) down l i)))
    (rest : (i : ℕ) → 2 ^ j ≤ i → i < 2 ^ suc j → Off e (at xs (place_of (suc j) down l i)) (at ys (place_of (suc j) down l i))) where
  double : 2 ^ suc j ≡ 2 * 2 ^ j
  double = omega (arith, pow-suc 2 j)

  near_line : Near (2 ^ j) (2 * 2 ^ j) a e (line (suc j) down xs l) (line (suc j) down ys l)
  near_line = record {
    low = λ i k. let b : i < 2 ^ suc j = omega (arith, double) in rw (at_line (suc j) down xs l i b, at_line (suc j) down ys l i b) (low i k);
    rest = λ i g k. let b : i < 2 ^ suc j = omega (arith, double) in rw (at_line (suc j) down xs l i b, at_line (suc j) down ys l i b) (rest i g b);
  }

  pub along_near : (i : ℕ) → i < 2 ^ suc j → Off (a + e + (e + 1) / 2) (at (along R.back (suc j) down xs) (place_of (suc j) down l i)) (at (along R.back (suc j) down ys) (place_of (suc j) down l i))
  along_near i k = rw (at_along R.back (suc j) down xs l i h k, at_along R.back (suc j) down ys l i h k)
      (R.near (2 ^ j) a e _ _ (length_line (suc j) down xs l ∙ double) (length_line (suc j) down ys l ∙ double) near_line i (omega (arith, double)))

-- ---- a level
three : (a e : ℕ) → (a + e + (e + 1) / 2 ≤ a + 3 * e) × (e + e + (e + 1) / 2 ≤ a + 3 * e)
three a zero = omega arith
three a (suc e) = omega arith

pub seven : (a e : ℕ) → a + e + (e + 1) / 2 + (e + e + (e + 1) / 2) + (e + e + (e + 1) / 2 + 1) / 2 ≤ a + 7 * e
seven a zero = omega arith
seven a (suc e) = omega arith

module _ (R : Rule) (j a e : ℕ) (xs ys : List ℤ) (N : Near (4 ^ j) (4 ^ suc j) a e xs ys) where
  abbrev pub us : List ℤ
  us = along R.back (suc j) true xs

  abbrev pub vs : List ℤ
  vs = along R.back (suc j) true ys

  pub left_column : (c : ℕ) → c < 2 ^ j → (r : ℕ) → r < 2 ^ suc j → Off (a + e + (e + 1) / 2) (at us (place_of (suc j) true c r)) (at vs (place_of (suc j) true c r))
  unfolding place_of
  left_column c h = along_near R j true c a e xs ys (omega (arith, pow-suc 2 j))
      (λ r k. N.low (place_of (suc j) true c r) (upper_left j r c k h))
      (λ r g k. N.rest (place_of (suc j) true c r) (outside j r c k (omega (arith, pow-suc 2 j)) (omega arith)) (interleaved_below (suc j) r c))

  pub right_column : (c : ℕ) → 2 ^ j ≤ c → c < 2 ^ suc j → (r : ℕ) → r < 2 ^ suc j → Off (e + e + (e + 1) / 2) (at us (place_of (suc j) true c r)) (at vs (place_of (suc j) true c r))
  unfolding place_of
  right_column c g h = along_near R j true c e e xs ys h
      (λ r k. beyond r (omega (arith, pow-suc 2 j)))
      (λ r f k. beyond r k)
    where
      beyond : (r : ℕ) → r < 2 ^ suc j → Off e (at xs (place_of (suc j) true c r)) (at ys (place_of (suc j) true c r))
      beyond r k = N.rest (place_of (suc j) true c r) (outside j r c k h (omega arith)) (interleaved_below (suc j) r c)

  -- after the columns
  pub columns_near : (z : ℕ) → z < 4 ^ suc j → Off (a + 3 * e) (at (along R.back (suc j) true xs) z) (at (along R.back (suc j) true ys) z)
  columns_near = by_lines (λ z. Off (a + 3 * e) (at us z) (at vs z)) (suc j) true (λ c r h k. go c r h k (dec_lt c (2 ^ j)))
    where
      go : (c r : ℕ) → c < 2 ^ suc j → r < 2 ^ suc j → Dec (c < 2 ^ j) → Off (a + 3 * e) (at us (place_of (suc j) true c r)) (at vs (place_of (suc j) true c r))
      go c r h k (yes l) = wider (left_column c l r k) (three a e).0
      go c r h k (no l) = wider (right_column c (omega arith) h r k) (three a e).1

-- ---- levels
-- what L levels make of an error of E
unfoldable pub grown : ℕ → ℕ → ℕ
grown E zero = E
grown E (suc L) = grown E L + 7 * E

pub grown_is : (E L : ℕ) → grown E L ≡ (7 * L + 1) * E
unfolding grown
grown_is E zero = omega arith
grown_is E (suc L) =
    let r : 7 * suc L + 1 ≡ (7 * L + 1) + 7 = omega arith in
    rw (r, add-mul, grown_is E L)
