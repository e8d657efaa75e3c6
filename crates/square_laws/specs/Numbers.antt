-- A picture's wavelet numbers are within the limit, and wavelet numbers within the limit give greys of 32 bits.
use Rattle.std.specs.Prelude.{◌≡◌, refl, true, List, [], ◌∷◌, ℕ, zero, suc, ◌^◌, ◌<◌, ◌≤◌, leb, length, ℤ, pos, nat_abs, ◌-ℤ◌}
use Rattle.std.proofs.Common.{arith, lit<, leb-true, le-leb}
use Rattle.std.proofs.Math.Nat.{pow-le-pow_right}
use Rattle.paper.specs.Sizes.{most_levels, number_limit, numbers_in}
use Rattle.paper.specs.Lists.{Bytes}
use Rattle.paper.specs.Places.{raster_of}
use Rattle.paper.specs.Line.{line_forward}
use Rattle.paper.specs.Square.{levels_forward, lowered, raised, numbers_of, greys_of}
use Rattle.integer_laws.specs.Difference.{sub-⊖}
use Rattle.integer_laws.specs.Order.{Within, zarith}
use Rattle.sizes.proofs.Ranges.{both_first, both_second}
use Rattle.lift.proofs.Steps.{grow, zero_within}
use Rattle.line.specs.Each.{Each}
use Rattle.line.specs.Rule.{Rule}
use Rattle.list_laws.specs.Made.{length_made}
use Rattle.line.proofs.Sized.{each_made}
use Rattle.line.proofs.FiveThree.{five_three}
use Rattle.square_laws.specs.Undone.{length_levels}
use Rattle.square_laws.specs.Sizes.{levels_each}

-- ---- no number beyond the limit
pub in_each : (xs : List ℤ) → numbers_in xs ≡ true → Each number_limit xs
unfolding numbers_in
in_each [] e i = zero_within number_limit
in_each (x ∷ xs) e zero = record { size = leb-true (nat_abs x) number_limit (both_first (leb (nat_abs x) number_limit) (numbers_in xs) e) }
in_each (x ∷ xs) e (suc i) = in_each xs (both_second (leb (nat_abs x) number_limit) (numbers_in xs) e) i

pub each_in : (xs : List ℤ) → Each number_limit xs → numbers_in xs ≡ true
unfolding numbers_in
each_in [] E = refl
each_in (x ∷ xs) E = rw (le-leb (nat_abs x) number_limit (E 0).size) (each_in xs (λ i. E (suc i)))

-- ---- a picture is bytes
lowered_within : (g : ℕ) → g < 256 → Within 128 (pos g -ℤ pos 128)
lowered_within g h = rw (sub-⊖ g 128) (omega zarith)

pub length_lowered : (k : ℕ) (picture : List ℕ) → length (lowered k picture) ≡ 4 ^ k
unfolding lowered
length_lowered k picture = length_made (4 ^ k) _

pub lowered_each : (k : ℕ) (picture : List ℕ) → Bytes picture → Each 128 (lowered k picture)
unfolding lowered
lowered_each k picture B = each_made (4 ^ k) _ (λ z h. lowered_within _ (B (raster_of k z)))

-- the levels of a picture stay within the limit
pub levels_in_lem : (R : Rule) (L k : ℕ) (picture : List ℕ) → L ≤ most_levels → L ≤ k → Bytes picture → numbers_in (levels_forward R.forward L k (lowered k picture)) ≡ true
levels_in_lem R L k picture l h B = each_in _ (λ z. grow (levels_each R 128 L k (lowered k picture) h (length_lowered k picture) (lowered_each k picture B) z) (omega (arith, pow-le-pow_right {n = 4} (lit< tt) {i = L} {j = most_levels} l)))

pub numbers_in_lem : (L k : ℕ) (picture : List ℕ) → L ≤ most_levels → L ≤ k → Bytes picture → numbers_in (numbers_of k L picture) ≡ true
unfolding numbers_of
numbers_in_lem = levels_in_lem five_three

pub length_numbers : (L k : ℕ) (picture : List ℕ) → length (numbers_of k L picture) ≡ 4 ^ k
unfolding numbers_of
length_numbers L k picture = length_levels line_forward L k _ (length_lowered k picture)

-- ---- and back
pub length_greys : (k L : ℕ) (numbers : List ℤ) → length (greys_of k L numbers) ≡ 4 ^ k
unfolding greys_of raised
length_greys k L numbers = length_made (4 ^ k) _
