-- Thumbnails. The first numbers of L levels are the other L - r levels of the low band that r of them leave: so undone, they give
-- that low band back. proofs/Thumbnail.antt says how near two of them are.
use Rattle.std.specs.Prelude.{◌≡◌, refl, List, [], ◌∷◌, ℕ, zero, suc, ◌-◌, ◌^◌, ◌≤◌, leb, length, take, drop, ℤ, nat_abs, true}
use Rattle.std.proofs.Common.{ap, ◌∙◌, arith, not-suc-le-zero, lit<, take_all, length-take-le}
use Rattle.std.proofs.Math.Nat.{pow-le-pow_right}
use Rattle.std.proofs.lemmas.List.{take-append-le}
use Rattle.paper.specs.Sizes.{number_limit, numbers_in}
use Rattle.paper.specs.Square.{level_forward, on_first, levels_forward, levels_back, lowered, raised, numbers_of, greys_of, low_band, low_greys_of, thumbnail_of}
use Rattle.list_laws.specs.Parts.{cut, from}
use Rattle.sizes.proofs.Ranges.{both_second}
use Rattle.line.specs.Rule.{Rule, Undoes}
use Rattle.line.proofs.FiveThree.{five_three_undoes}
use Rattle.square_laws.specs.Grid.{quarter_le}
use Rattle.square_laws.specs.Undone.{length_level, length_levels, levels_undone}
use Rattle.square_laws.specs.Sizes.{take_each}
use Rattle.square_laws.specs.Numbers.{in_each, each_in, length_lowered}

-- ---- the first (S / 2 ^ r)² numbers
pub first_le : (k r : ℕ) → 4 ^ (k - r) ≤ 4 ^ k
first_le k r = pow-le-pow_right {n = 4} (lit< tt) {i = k - r} {j = k} (omega arith)

pub length_first_numbers : (k r : ℕ) (xs : List ℤ) → length xs ≡ 4 ^ k → length (take (4 ^ (k - r)) xs) ≡ 4 ^ (k - r)
length_first_numbers k r xs e = length-take-le (4 ^ (k - r)) xs (omega (arith, first_le k r))

pub first_in : (n : ℕ) (xs : List ℤ) → numbers_in xs ≡ true → numbers_in (take n xs) ≡ true
first_in n xs e = each_in (take n xs) (take_each n xs (in_each xs e))

-- and the others
pub numbers_drop : (n : ℕ) (xs : List ℤ) → numbers_in xs ≡ true → numbers_in (drop n xs) ≡ true
unfolding numbers_in
numbers_drop zero xs e = e
numbers_drop (suc n) [] e = refl
numbers_drop (suc n) (x ∷ xs) e = numbers_drop n xs (both_second (leb (nat_abs x) number_limit) (numbers_in xs) e)

pub cut_in : (a z : ℕ) (xs : List ℤ) → numbers_in xs ≡ true → numbers_in (cut a z xs) ≡ true
cut_in a z xs e = first_in (z - a) (drop a xs) (numbers_drop a xs e)

pub from_in : (a : ℕ) (xs : List ℤ) → numbers_in xs ≡ true → numbers_in (from a xs) ≡ true
from_in a xs e = first_in (length xs - a) (drop a xs) (numbers_drop a xs e)

-- ---- the low band
pub length_low_band : (f : List ℤ → List ℤ) (r k : ℕ) (xs : List ℤ) → length xs ≡ 4 ^ k → length (low_band f r k xs) ≡ 4 ^ (k - r)
unfolding low_band
length_low_band f r k xs e = length_first_numbers k r (levels_forward f r k xs) (length_levels f r k xs e)

-- the first of the numbers changed are those of what was changed
front_first : (m n : ℕ) (g : List ℤ → List ℤ) (ys : List ℤ) → m ≤ length (g (take n ys)) → take m (on_first n g ys) ≡ take m (g (take n ys))
unfolding on_first
front_first m n g ys h = take-append-le m (g (take n ys)) (drop n ys) h

pub low_band_levels : (f : List ℤ → List ℤ) (r L k : ℕ) (xs : List ℤ) → r ≤ L → L ≤ k → length xs ≡ 4 ^ k
    → take (4 ^ (k - r)) (levels_forward f L k xs) ≡ levels_forward f (L - r) (k - r) (low_band f r k xs)
unfolding low_band levels_forward
low_band_levels f zero L k xs h l e =
    let a : k - 0 ≡ k = omega arith in
    let b : L - 0 ≡ L = omega arith in
    rw (a, b, take_all (4 ^ k) (levels_forward f L k xs) (omega (arith, length_levels f L k xs e)), take_all (4 ^ k) xs (omega arith))
low_band_levels f (suc r) zero k xs h l e = absurd (not-suc-le-zero h)
low_band_levels f (suc r) (suc L) k xs h l e =
    let ys = level_forward f k xs in
    let n = 4 ^ (k - 1) in
    let short : length (take n ys) ≡ n = length-take-le n ys (omega (arith, quarter_le k, length_level f k xs)) in
    let a : k - suc r ≡ k - 1 - r = omega arith in
    let b : suc L - suc r ≡ L - r = omega arith in
    rw (
      a,
      b,
      front_first (4 ^ (k - 1 - r)) n (levels_forward f L (k - 1)) ys (omega (arith, first_le (k - 1) r, length_levels f L (k - 1) (take n ys) short)),
      front_first (4 ^ (k - 1 - r)) n (levels_forward f r (k - 1)) ys (omega (arith, first_le (k - 1) r, length_levels f r (k - 1) (take n ys) short)),
    )
    (low_band_levels f r L (k - 1) (take n ys) (omega arith) (omega arith) short)

-- L levels, undone early, give the r-level low band
pub low_band_back : {R : Rule} → Undoes R → (r L k : ℕ) → r ≤ L → L ≤ k → (xs : List ℤ) → length xs ≡ 4 ^ k
    → levels_back R.back (L - r) (k - r) (take (4 ^ (k - r)) (levels_forward R.forward L k xs)) ≡ low_band R.forward r k xs
low_band_back {R} U r L k h l xs e =
    ap (levels_back R.back (L - r) (k - r)) (low_band_levels R.forward r L k xs h l e)
    ∙ levels_undone U (L - r) (k - r) (omega arith) (low_band R.forward r k xs) (length_low_band R.forward r k xs e)

-- ---- what the paper asks of a thumbnail
-- the very numbers of a picture give its r-level low band, and 128
pub thumbnail_whole : (r L k : ℕ) (picture : List ℕ) → r ≤ L → L ≤ k → thumbnail_of k L r (numbers_of k L picture) ≡ low_greys_of k r picture
unfolding thumbnail_of greys_of numbers_of low_greys_of
thumbnail_whole r L k picture h l = ap (raised (k - r)) (low_band_back five_three_undoes r L k h l (lowered k picture) (length_lowered k picture))

-- at r = L it is the smallest band, and 128
pub thumbnail_smallest : (k L : ℕ) (numbers : List ℤ) → thumbnail_of k L L numbers ≡ raised (k - L) (take (4 ^ (k - L)) numbers)
unfolding thumbnail_of greys_of levels_back
thumbnail_smallest k L numbers = let z : L - L ≡ 0 = omega arith in rw z
