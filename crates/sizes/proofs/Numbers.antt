-- Laws of numbers within the limit, of the largest magnitude and of the bits that it needs.
use mathlib.Core.Path.{◌≡◌, refl, ap}
use mathlib.Core.Bool.{Bool, true, false}
use mathlib.Core.List.{List, [], ◌∷◌}
use Prim.Native.Nat.{ℕ, zero, suc, ◌+◌, ◌*◌, ◌-◌, ◌/◌, ◌^◌, ◌<◌, ◌≤◌, max}
use native.Mathlib.Omega.{arith}
use native.Mathlib.Nat.{pow-suc}
use native.Mathlib.Numerals.{add-one}
use lib.Count.{count_leading_zeros}
use lib.Dec.{leb}
use lib.IntN.{ℤ, pos, nat_abs}
use lib.ListN.{length, drop}
use Rattle.std.specs.Int.Count.{leading_unique}
use Rattle.std.specs.List.{list_all}
use lib.Seq.{drop-cons, drop-length}
use borrow.Author.Tests.{leb-true, le-leb}
use Rattle.paper.specs.Sizes.{planes_in, numbers_in, number_limit, most_planes}
use Rattle.paper.specs.Lists.{at}
use Rattle.paper.specs.Walk.{largest, bits_needed, plane_count}
use Rattle.sizes.proofs.Ranges.{both_first, both_second}

-- ---- numbers in order
next : (xs : List ℤ) (i : ℕ) → i < length xs → drop i xs ≡ at xs i ∷ drop (i + 1) xs
next xs i h = rw (add-one i) (drop-cons xs i (pos 0) h)

-- each is within the limit
pub in_each : (xs : List ℤ) → list_all (λ x. leb (nat_abs x) number_limit) xs ≡ numbers_in xs
unfolding numbers_in
in_each [] = refl
in_each (x ∷ xs) = rw (in_each xs)

-- the largest from i on
pub largest_next : (xs : List ℤ) (i : ℕ) → i < length xs → largest (drop i xs) ≡ max (nat_abs (at xs i)) (largest (drop (i + 1) xs))
unfolding largest
largest_next xs i h = ap largest (next xs i h)

pub largest_all : (xs : List ℤ) (i : ℕ) → i ≡ length xs → largest (drop i xs) ≡ 0
unfolding largest
largest_all xs i e = rw (e, drop-length xs)

-- the largest is within the limit where all are
pub largest_in : (xs : List ℤ) → numbers_in xs ≡ true → largest xs ≤ number_limit
unfolding numbers_in largest
largest_in [] e = omega arith
largest_in (x ∷ xs) e =
    omega (arith, leb-true (nat_abs x) number_limit (both_first (leb (nat_abs x) number_limit) (numbers_in xs) e), largest_in xs (both_second (leb (nat_abs x) number_limit) (numbers_in xs) e))

-- ---- bits
pub none_needed : (f : ℕ) → bits_needed f 0 ≡ 0
unfolding bits_needed
none_needed zero = refl
none_needed (suc f) = refl

-- one bit more than half the magnitude needs
pub one_needed : (f m : ℕ) → 0 < m → bits_needed (suc f) m ≡ suc (bits_needed f (m / 2))
unfolding bits_needed
one_needed f m h = ap (λ (b : Bool). elim b as (λ _. ℕ) [ true ↦ suc (bits_needed f (m / 2)) | false ↦ 0 ]) (le-leb 1 m h)

-- no magnitude needs more bits than there are planes
bits_most : (f m : ℕ) → bits_needed f m ≤ f
unfolding bits_needed
bits_most zero m = omega arith
bits_most (suc f) m = go (leb 1 m) (bits_most f (m / 2))
  where
    go : (b : Bool) → bits_needed f (m / 2) ≤ f → (elim b as (λ _. ℕ) [ true ↦ suc (bits_needed f (m / 2)) | false ↦ 0 ]) ≤ suc f
    go true h = omega arith
    go false h = omega arith

-- the power of two above a magnitude, and the next one below it
abbrev Length : ℕ → ℕ → Type 0
Length m n = (m < 2 ^ n) × (0 < m → 2 ^ n ≤ 2 * m)

halved : (m n : ℕ) → 0 < m → (m / 2 ≡ 0 → n ≡ 0) → Length (m / 2) n → Length m (suc n)
halved m n h zeroed l = go (m / 2) refl
  where
    go : (q : ℕ) → m / 2 ≡ q → Length m (suc n)
    go zero e = let n0 = zeroed e in rw n0 (omega arith, λ z. omega arith)
    go (suc q) e = let p : 2 ^ suc n ≡ 2 ^ n * 2 = pow-suc 2 n in let u = l.1 (omega arith) in (omega (arith, l.0), λ z. omega arith)

needed : (f m : ℕ) → m < 2 ^ f → Length m (bits_needed f m)
unfolding bits_needed
needed zero m h = (h, λ z. omega arith)
needed (suc f) zero h = rw (none_needed (suc f)) (omega arith, λ z. absurd (omega arith))
needed (suc f) (suc m) h =
    let p : 2 ^ suc f ≡ 2 ^ f * 2 = pow-suc 2 f in
    rw (one_needed f (suc m) (omega arith)) (halved (suc m) (bits_needed f (suc m / 2)) (omega arith) (λ e. rw e (none_needed f)) (needed f (suc m / 2) (omega arith)))

-- the bits of a word less its leading zeros
pub needed_is : (m : ℕ) → m ≤ number_limit → 32 - count_leading_zeros 32 m ≡ bits_needed most_planes m
needed_is m h =
    let l = needed most_planes m (omega arith) in
    let b = bits_most most_planes m in
    let top : 2 ^ bits_needed most_planes m ≤ 2 * m + 1 = tall m (bits_needed most_planes m) refl l.1 in
    omega (arith, leading_unique 32 m (32 - bits_needed most_planes m) (bits_needed most_planes m) (omega arith) l.0 top)
  where
    tall : (m n : ℕ) → n ≡ bits_needed most_planes m → (0 < m → 2 ^ n ≤ 2 * m) → 2 ^ n ≤ 2 * m + 1
    tall zero n e u = rw (e, none_needed most_planes) (omega arith)
    tall (suc m) n e u = omega (arith, u (omega arith))

pub count_in : (xs : List ℤ) → planes_in (plane_count xs) ≡ true
unfolding planes_in plane_count
count_in xs = le-leb (bits_needed most_planes (largest xs)) most_planes (bits_most most_planes (largest xs))
