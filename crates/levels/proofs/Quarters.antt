-- One level, and the levels of its upper left quarter.
use mathlib.Core.Path.{◌≡◌, refl, sym, ◌∙◌}
use mathlib.Core.Bool.{true, false}
use mathlib.Core.List.{List, ◌++◌}
use Prim.Native.Nat.{ℕ, zero, suc, ◌+◌, ◌*◌, ◌-◌, ◌/◌, ◌^◌, ◌<◌, ◌≤◌}
use native.Mathlib.Omega.{arith}
use native.Mathlib.Nat.{pow-suc, mul_comm, mul_assoc}
use lib.ListN.{length, take, drop}
use lib.Seq.{length-take-le}
use lib.IntN.{ℤ}
use Rattle.paper.specs.Square.{along, level_forward, level_back, on_first, levels_forward, levels_back}
use Rattle.lift.proofs.Steps.{grow}
use Rattle.line.specs.Each.{Each, line_limit}
use Rattle.line.specs.Rule.{Rule}
use Rattle.square_laws.specs.Undone.{length_levels_back}
use Rattle.square_laws.specs.Sizes.{take_each, pass_each, level_each, le_mul_pow}
use Rattle.square_laws.specs.Near.{grown}
use Rattle.square_laws.specs.Range.{Sized, first_sized, sized_each, columns_range, grown_least}
use Rattle.square_laws.proofs.Range.{levels_range}
use Rattle.levels.specs.Level.{Fitting, forth}

on_is : (n : ℕ) (f : List ℤ → List ℤ) (xs : List ℤ) → on_first n f xs ≡ f (take n xs) ++ drop n xs
unfolding on_first
on_is n f xs = refl

-- a quarter of the places
pub quarter : (k n : ℕ) → 0 < k → n ≡ 4 ^ k → n / 4 ≡ 4 ^ (k - 1)
quarter zero n h e = omega arith
quarter (suc k) n h e =
    let r : suc k - 1 ≡ k = omega arith in
    rw r (omega (arith, pow-suc 4 k))

-- the first n numbers, where n is known by another name
pub part : (n m : ℕ) (xs : List ℤ) → n ≡ m → n ≤ length xs → length (take n xs) ≡ m
part n m xs e h = length-take-le n xs h ∙ e

-- ---- forward
-- one level fits, and leaves numbers that fit through the levels after it
module _ (R : Rule) (k L : ℕ) (xs : List ℤ) (h : 0 < k) (l : 0 < L) (F : Fitting forth L xs) where
  four : 4 * F.most * 4 ^ (L - 1) ≡ F.most * 4 ^ L
  four =
      let r : L ≡ suc (L - 1) = omega arith in
      rw (mul_comm 4 F.most, mul_assoc F.most 4 (4 ^ (L - 1)), mul_comm 4 (4 ^ (L - 1)), ← pow-suc 4 (L - 1), ← r)

  pub forward_fits : Each line_limit xs × Each line_limit (along R.forward k false xs)
  forward_fits =
      let s = F.small in
      ((λ z. grow (F.each z) (omega (arith, le_mul_pow F.most L))), (λ z. grow (pass_each R k false xs h F.each z) (omega (arith, four, le_mul_pow (4 * F.most) (L - 1)))))

  pub forward_left : (n : ℕ) (new : List ℤ) → new ≡ level_forward R.forward k xs → Fitting forth (L - 1) (take n new)
  forward_left n new e = record { most = 4 * F.most; each = take_each n new (rw e (level_each R k xs h F.each)); small = omega (arith, four, F.small) }

pub forward_is : (f : List ℤ → List ℤ) (k L : ℕ) (xs mid new : List ℤ) (n : ℕ) → 0 < L → n ≡ 4 ^ (k - 1) → mid ≡ level_forward f k xs → new ≡ levels_forward f (L - 1) (k - 1) (take n mid) → new ++ drop n mid ≡ levels_forward f L k xs
unfolding levels_forward on_first
forward_is f k zero xs mid new n l q e r = absurd (omega arith)
forward_is f k (suc L) xs mid new n l q e r =
    let d : suc L - 1 ≡ L = omega arith in
    rw (r, d, q, e)

-- ---- back
module _ (k L : ℕ) (xs : List ℤ) (l : 0 < L) (F : Fitting grown L xs) where
  less : grown F.most (L - 1) + 7 * F.most ≤ line_limit
  unfolding grown
  less = go L l F.small
    where
      go : (L : ℕ) → 0 < L → grown F.most L ≤ line_limit → grown F.most (L - 1) + 7 * F.most ≤ line_limit
      go zero l s = absurd (omega arith)
      go (suc L) l s =
          let r : suc L - 1 ≡ L = omega arith in
          rw r s

  pub back_left : (n : ℕ) → Fitting grown (L - 1) (take n xs)
  back_left n = record { most = F.most; each = take_each n xs F.each; small = omega (arith, less) }

-- the quarter brought back, with the rest as it was, fits through the level that was first
pub back_fits : (R : Rule) (k L : ℕ) (xs mid new : List ℤ) (n : ℕ) → 0 < L → L ≤ k → length xs ≡ 4 ^ k → n ≡ 4 ^ (k - 1) → Fitting grown L xs
    → new ≡ levels_back R.back (L - 1) (k - 1) (take n xs) → mid ≡ new ++ drop n xs → Each line_limit mid × Each line_limit (along R.back k true mid)
back_fits R zero L xs mid new n l h e q F f g = absurd (omega arith)
back_fits R (suc j) L xs mid new n l h e q F f g = (
  (λ z. grow (sized_each S (grown_least F.most (L - 1)) z) (omega (arith, less (suc j) L xs l F))),
  (λ z. grow (columns_range R j (grown F.most (L - 1)) F.most mid S z) (omega (arith, less (suc j) L xs l F))),
)
  where
    r : suc j - 1 ≡ j
    r = omega arith

    short : length (take (4 ^ j) xs) ≡ 4 ^ j
    short = length-take-le (4 ^ j) xs (omega (arith, pow-suc 4 j))

    is : mid ≡ on_first (4 ^ j) (levels_back R.back (L - 1) j) xs
    is = g ∙ rw (f, q, r) (sym (on_is (4 ^ j) (levels_back R.back (L - 1) j) xs))

    S : Sized (4 ^ j) (grown F.most (L - 1)) F.most mid
    S = rw is (first_sized (4 ^ j) (levels_back R.back (L - 1) j) xs (length_levels_back R.back (L - 1) j _ short) (levels_range R F.most (L - 1) j (take (4 ^ j) xs) (omega arith) short (take_each (4 ^ j) xs F.each)) (λ z b. F.each z))

pub back_is : (g : List ℤ → List ℤ) (k L : ℕ) (xs mid new last : List ℤ) (n : ℕ) → 0 < L → n ≡ 4 ^ (k - 1) → new ≡ levels_back g (L - 1) (k - 1) (take n xs) → mid ≡ new ++ drop n xs → last ≡ level_back g k mid → last ≡ levels_back g L k xs
unfolding levels_back on_first
back_is g k zero xs mid new last n l q e f r = absurd (omega arith)
back_is g k (suc L) xs mid new last n l q e f r =
    let d : suc L - 1 ≡ L = omega arith in
    rw (r, f, e, d, q)
