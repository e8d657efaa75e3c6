-- How large the numbers of a square become on the way back, after a level and after L of them.
use Rattle.std.specs.Prelude.{◌≡◌, List, [], ℕ, zero, suc, ◌+◌, ◌*◌, ◌-◌, ◌^◌, ◌≤◌, length, take, ℤ}
use Rattle.std.proofs.Common.{arith, pow-suc, not-suc-le-zero, le_of_suc-le-suc, mul-le-mul_right, length-take-le}
use Rattle.paper.specs.Square.{level_back, on_first, levels_back}
use Rattle.lift.proofs.Near.{zero_off}
use Rattle.line.specs.Each.{Each}
use Rattle.line.proofs.Sized.{each_below}
use Rattle.line.specs.Rule.{Rule}
use Rattle.square_laws.specs.Undone.{length_level_back, length_levels_back}
use Rattle.square_laws.specs.Sizes.{take_each}
use Rattle.square_laws.specs.Near.{grown, grown_is}
use Rattle.square_laws.specs.Range.{Sized, first_sized, level_zero, near_zero}
use Rattle.square_laws.proofs.Near.{level_near}

-- ---- a level
module _ (R : Rule) (j a e : ℕ) (xs : List ℤ) (S : Sized (4 ^ j) a e xs) where
  -- after the columns, and then the rows
  pub level_range : Each (a + 7 * e) (level_back R.back (suc j) xs)
  level_range = each_below (level_back R.back (suc j) xs)
      (λ z h. zero_off _ _ (level_zero R j z) (level_near R j a e xs [] (near_zero R j a e xs S) z (omega (arith, length_level_back R.back (suc j) xs))))

-- ---- levels
pub levels_range : (R : Rule) (E L k : ℕ) (ys : List ℤ) → L ≤ k → length ys ≡ 4 ^ k → Each E ys → Each (grown E L) (levels_back R.back L k ys)
unfolding levels_back grown
levels_range R E zero k ys h p N = N
levels_range R E (suc L) zero ys h p N = absurd (not-suc-le-zero h)
levels_range R E (suc L) (suc k) ys h p N =
    let r : suc k - 1 ≡ k = omega arith in
    let short : length (take (4 ^ k) ys) ≡ 4 ^ k = length-take-le (4 ^ k) ys (omega (arith, pow-suc 4 k)) in
    rw r (level_range R k (grown E L) E (on_first (4 ^ k) (levels_back R.back L k) ys)
    (first_sized (4 ^ k) (levels_back R.back L k) ys (length_levels_back R.back L k _ short) (levels_range R E L k (take (4 ^ k) ys) (le_of_suc-le-suc h) short (take_each (4 ^ k) ys N)) (λ z b. N z)))

pub grown_most : (E L m : ℕ) → L ≤ m → grown E L ≤ (7 * m + 1) * E
grown_most E L m h = rw grown_is (mul-le-mul_right E (omega arith))
