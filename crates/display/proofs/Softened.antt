-- The numbers shown may pass the limit; that they fit 32 bits on the way to greys.
use mathlib.Core.Path.{◌≡◌, refl, sym}
use mathlib.Core.Bool.{Bool, true, false}
use mathlib.Core.List.{List}
use Prim.Native.Nat.{ℕ, zero, suc, ◌+◌, ◌*◌, ◌-◌, ◌/◌, ◌%◌, ◌^◌, ◌<◌, ◌≤◌}
use native.Mathlib.Omega.{arith}
use native.Mathlib.Nat.{pow-succ'}
use lib.Pow.{pow_mono}
use lib.ListN.{length}
use lib.Dec.{eqb}
use lib.IntN.{ℤ, pos, negsuc, nat_abs}
use Rattle.paper.specs.Sizes.{most_levels, most_planes, number_limit, numbers_in}
use Rattle.paper.specs.Lists.{pick}
use Rattle.paper.specs.Walk.{negative, signed, unread_at}
use Rattle.paper.specs.Softer.{half_of, moved_up, softened}
use Rattle.integer_laws.specs.Order.{Within}
use Rattle.line.proofs.Sized.{each_made}
use Rattle.square_laws.specs.Near.{grown}
use Rattle.square_laws.proofs.Range.{grown_most}
use Rattle.square_laws.specs.Numbers.{in_each}
use Rattle.levels.specs.Level.{Fitting}
use Rattle.walk_laws.specs.Cleared.{nat_abs_signed}
use Rattle.walk_laws.specs.Decoded.{unread_most}
use Rattle.walk_laws.specs.Softer.{moved_up_is}

-- the most that a number is moved up by
abbrev pub most_half : ℕ
most_half = 2 ^ (most_planes - 1)

pub half_most : (u : ℕ) → u ≤ most_planes → half_of u ≤ most_half
unfolding half_of
half_most zero h = omega arith
half_most (suc u) h = let l : u ≤ most_planes - 1 = omega arith in pow_mono l

pub moved_within : (h : ℕ) (x : ℤ) → h ≤ most_half → Within number_limit x → Within (number_limit + most_half) (moved_up h x)
unfolding moved_up
moved_within h x l w = go (eqb (nat_abs x) 0)
  where
    go : (b : Bool) → Within (number_limit + most_half) (pick b x (signed (negative x) (nat_abs x + h)))
    go true = record { size = omega (arith, w.size) }
    go false = record { size = omega (arith, nat_abs_signed (negative x) (nat_abs x + h), w.size) }

-- ---- the half, and a number moved, as the code has them
pub half_is : (u : ℕ) → u ≤ most_planes → 1 * 2 ^ u % 2 ^ 32 / 2 ≡ half_of u
unfolding half_of
half_is zero h = refl
half_is (suc u) h =
    let l : 2 ^ u ≤ 2 ^ 17 = pow_mono (let k : u ≤ 17 = omega arith in k) in
    rw (pow-succ' 2 u) (omega arith)

pub moved_grown : (h : ℕ) (x : ℤ) → (x ≡ pos 0 → ⊥) → signed (negative x) (nat_abs x + h) ≡ moved_up h x
moved_grown h x k = sym (moved_up_is h x (some x k))
  where
    some : (x : ℤ) → (x ≡ pos 0 → ⊥) → 0 < nat_abs x
    some (pos zero) k = absurd (k refl)
    some (pos (suc m)) k = omega arith
    some (negsuc m) k = omega arith

pub grown_fits : (h : ℕ) (x : ℤ) → h ≤ most_half → Within number_limit x → nat_abs x + h < 2 ^ 31
grown_fits h x l w = omega (arith, w.size)

pub softened_fit : (p place L : ℕ) (numbers : List ℤ) → p ≤ most_planes → L ≤ most_levels → numbers_in numbers ≡ true → Fitting grown L (softened p place numbers)
unfolding softened
softened_fit p place L numbers h l N = record {
  most = number_limit + most_half;
  each = each_made (length numbers) _ (λ i b. moved_within _ _ (half_most (unread_at p place i) (omega (arith, unread_most p place i))) (in_each numbers N i));
  small = omega (arith, grown_most (number_limit + most_half) L most_levels l);
}
