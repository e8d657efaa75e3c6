-- What it means that a size is in its range, and that a row of the refusal table does not apply.
use mathlib.Core.Path.{◌≡◌, refl}
use mathlib.Core.Bool.{Bool, true, false, ◌&&◌}
use Prim.Native.Nat.{ℕ, ◌*◌, ◌-◌, ◌^◌, ◌<◌, ◌≤◌, min}
use native.Mathlib.Omega.{arith}
use native.Mathlib.Nat.{mul-le-mul, pow-le-pow_right}
use lib.Dec.{leb}
use borrow.Author.Tests.{leb-true}
use Rattle.paper.specs.Sizes.{least_size, most_size, most_levels, most_planes, size_in, levels_in, planes_in, most_bits}

-- ---- both of two tests
pub both_first : (a b : Bool) → (a && b) ≡ true → a ≡ true
both_first true b e = refl
both_first false b e = e

pub both_second : (a b : Bool) → (a && b) ≡ true → b ≡ true
both_second true b e = e
both_second false true e = refl
both_second false false e = e

-- ---- k
pub size_high : (k : ℕ) → size_in k ≡ true → k ≤ most_size
unfolding size_in
size_high k e = leb-true k most_size (both_second (leb least_size k) (leb k most_size) e)

-- the places of a picture are at most those of the largest
pub area_most : (k : ℕ) → size_in k ≡ true → 4 ^ k ≤ 4 ^ most_size
area_most k e = pow-le-pow_right {n = 4} (omega arith) {i = k} {j = most_size} (size_high k e)

-- ---- L
pub levels_few : (k L : ℕ) → levels_in k L ≡ true → L ≤ most_levels
unfolding levels_in
levels_few k L e = omega (arith, leb-true L (min most_levels (k - 1)) (both_second (leb 1 L) (leb L (min most_levels (k - 1))) e))

pub levels_less : (k L : ℕ) → levels_in k L ≡ true → L < k
unfolding levels_in
levels_less k L e = omega (arith, leb-true L (min most_levels (k - 1)) (both_second (leb 1 L) (leb L (min most_levels (k - 1))) e), leb-true 1 L (both_first (leb 1 L) (leb L (min most_levels (k - 1))) e))

-- ---- n
pub planes_few : (n : ℕ) → planes_in n ≡ true → n ≤ most_planes
unfolding planes_in
planes_few n e = leb-true n most_planes e

pub planes_is : (n : ℕ) → leb n most_planes ≡ planes_in n
unfolding planes_in
planes_is n = refl

-- ---- the most bits of a coding grow with side and planes
pub most_bits_grow : (k n K N : ℕ) → k ≤ K → n ≤ N → most_bits k n ≤ most_bits K N
unfolding most_bits
most_bits_grow k n K N h g =
    let area : 4 ^ k ≤ 4 ^ K = pow-le-pow_right {n = 4} (omega arith) {i = k} {j = K} h in
    let tests : n * (4 * 4 ^ k - 1) ≤ N * (4 * 4 ^ K - 1) = mul-le-mul {m₂ = 4 * 4 ^ K - 1} g (omega arith) in
    omega arith
