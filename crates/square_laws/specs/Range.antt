-- How large the numbers of a square become on the way back. A size is a difference from 0, so this is the error law again:
-- the upper left quarter may be larger than the rest, which no level has touched yet. proofs/Range.antt goes on to whole levels.
use Rattle.std.specs.Prelude.{◌≡◌, Bool, true, List, [], ℕ, zero, suc, ◌+◌, ◌*◌, ◌^◌, ◌<◌, ◌≤◌, length, take, ℤ}
use Rattle.std.proofs.Common.{◌∙◌, arith, pow-suc}
use Rattle.std.proofs.Math.Bool.{false}
use Rattle.std.proofs.Math.Decide.{dec_lt}
use Rattle.paper.specs.Lists.{at}
use Rattle.paper.specs.Square.{along, level_back, on_first}
use Rattle.integer_laws.specs.Order.{Within}
use Rattle.lift.proofs.Steps.{grow, zero_within}
use Rattle.lift.proofs.Near.{off_zero, zero_off}
use Rattle.line.specs.Each.{Each}
use Rattle.line.proofs.Sized.{each_below}
use Rattle.line.specs.Rule.{Near, Rule}
use Rattle.square_laws.specs.Grid.{length_along, first_low, first_rest}
use Rattle.square_laws.specs.Sizes.{along_each}
use Rattle.square_laws.specs.Near.{columns_near, grown}

-- the first n numbers are within a, the rest within e
pub record Sized (n a e : ℕ) (xs : List ℤ) : Type 0 where
  pub low : (z : ℕ) → z < n → Within a (at xs z)
  pub rest : (z : ℕ) → n ≤ z → Within e (at xs z)

-- both together are within the larger
pub sized_each : {n a e : ℕ} {xs : List ℤ} → Sized n a e xs → e ≤ a → Each a xs
sized_each {n} {a} {e} {xs} S l z = go (dec_lt z n)
  where
    go : Dec (z < n) → Within a (at xs z)
    go (yes h) = S.low z h
    go (no h) = grow (S.rest z (omega arith)) l

pub first_sized : {a e : ℕ} (n : ℕ) (f : List ℤ → List ℤ) (xs : List ℤ) → length (f (take n xs)) ≡ n → Each a (f (take n xs)) → ((z : ℕ) → n ≤ z → Within e (at xs z)) → Sized n a e (on_first n f xs)
first_sized n f xs e F R = record { low = λ z h. rw (first_low n f xs z e h) (F z); rest = λ z h. rw (first_rest n f xs z e h) (R z h) }

-- ---- a level
module _ (R : Rule) (j : ℕ) where
  -- zeros stay zeros
  pub zeros : (down : Bool) (ys : List ℤ) → Each 0 ys → Each 0 (along R.back (suc j) down ys)
  zeros down ys = along_each R.back (suc j) down ys (λ vs e. R.zeros (2 ^ j) vs (e ∙ omega (arith, pow-suc 2 j)))

  pub columns_zero : Each 0 (along R.back (suc j) true [])
  columns_zero = zeros true [] (λ z. zero_within 0)

  pub level_zero : Each 0 (level_back R.back (suc j) [])
  unfolding level_back
  level_zero = zeros false _ columns_zero

module _ (R : Rule) (j a e : ℕ) (xs : List ℤ) (S : Sized (4 ^ j) a e xs) where
  pub near_zero : Near (4 ^ j) (4 ^ suc j) a e xs []
  near_zero = record { low = λ z h. off_zero (at xs z) (S.low z h); rest = λ z g h. off_zero (at xs z) (S.rest z g) }

  -- after the columns
  pub columns_range : Each (a + 3 * e) (along R.back (suc j) true xs)
  columns_range = each_below (along R.back (suc j) true xs)
      (λ z h. zero_off _ _ (columns_zero R j z) (columns_near R j a e xs [] near_zero z (omega (arith, length_along R.back (suc j) true xs))))

-- ---- levels
pub grown_least : (E L : ℕ) → E ≤ grown E L
unfolding grown
grown_least E zero = omega arith
grown_least E (suc L) = omega (arith, grown_least E L)
