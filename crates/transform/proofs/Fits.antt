-- What a picture and wavelet numbers within the limit bring into the levels, and what comes out of those back.
use mathlib.Core.Path.{◌≡◌, ◌∙◌}
use mathlib.Core.Bool.{true}
use mathlib.Core.List.{List}
use Prim.Native.Nat.{ℕ, ◌^◌, ◌≤◌}
use native.Mathlib.Omega.{arith}
use native.Mathlib.Nat.{pow-le-pow_right}
use lib.Dec.{lit<}
use lib.IntN.{ℤ, pos, ◌+ℤ◌}
use lib.ListN.{length}
use Rattle.paper.specs.Sizes.{most_levels, number_limit, levels_in, numbers_in}
use Rattle.paper.specs.Lists.{made, at, Bytes}
use Rattle.paper.specs.Line.{line_back}
use Rattle.paper.specs.Square.{levels_back, lowered, raised, greys_of}
use Rattle.sizes.proofs.Ranges.{levels_few}
use Rattle.lift.proofs.Steps.{grow}
use Rattle.line.specs.Each.{Each, line_limit}
use Rattle.line.proofs.FiveThree.{five_three}
use Rattle.square_laws.specs.Undone.{length_levels_back}
use Rattle.square_laws.specs.Near.{grown}
use Rattle.square_laws.proofs.Range.{levels_range, grown_most}
use Rattle.square_laws.specs.Numbers.{in_each, lowered_each}
use Rattle.levels.specs.Level.{Fitting, forth}

pub picture_fits : (k L : ℕ) (picture : List ℕ) → levels_in k L ≡ true → Bytes picture → Fitting forth L (lowered k picture)
picture_fits k L picture l B = record {
  most = 128;
  each = lowered_each k picture B;
  small = omega (arith, pow-le-pow_right {n = 4} (lit< tt) {i = L} {j = most_levels} (levels_few k L l));
}

pub numbers_fit : (L : ℕ) (numbers : List ℤ) → L ≤ most_levels → numbers_in numbers ≡ true → Fitting grown L numbers
numbers_fit L numbers l N = record {
  most = number_limit;
  each = in_each numbers N;
  small = omega (arith, grown_most number_limit L most_levels l);
}

-- what fits comes back as numbers that a line may hold
pub shown_each : (L k : ℕ) (xs : List ℤ) → L ≤ k → length xs ≡ 4 ^ k → Fitting grown L xs → Each line_limit (levels_back line_back L k xs)
shown_each L k xs h e F z = grow (levels_range five_three F.most L k xs h e F.each z) F.small

-- and, raised, are the greys
pub raised_greys : (k L : ℕ) (xs ys zs : List ℤ) → length xs ≡ 4 ^ k → ys ≡ levels_back line_back L k xs → zs ≡ made (length ys) (λ z. at ys z +ℤ pos 128) → zs ≡ greys_of k L xs
unfolding greys_of raised
raised_greys k L xs ys zs h e f = f ∙ rw (e, length_levels_back line_back L k xs h)
