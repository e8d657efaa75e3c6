-- Powers of 4 as the machine has them, and how large the most bits can be.
use mathlib.Core.Path.{◌≡◌, refl}
use Prim.Native.Nat.{ℕ, zero, suc, ◌*◌, ◌%◌, ◌^◌, ◌≤◌}
use native.Mathlib.Omega.{arith}
use native.Mathlib.Nat.{pow-suc, pow-le-pow_right, mod-eq_of_lt, mul-le-mul_right, one-mul}
use Rattle.paper.specs.Sizes.{most_planes}

-- 2 ^ (2 * k) is 4 ^ k
pub square_power : (k : ℕ) → 2 ^ (2 * k) ≡ 4 ^ k
square_power zero = refl
square_power (suc k) =
    let e : 2 * suc k ≡ suc (suc (2 * k)) = omega arith in
    rw e (omega (arith, pow-suc 2 (suc (2 * k)), pow-suc 2 (2 * k), pow-suc 4 k, square_power k))

-- `1usize << (2 * k)`
pub area_shifted : (k : ℕ) → k ≤ 31 → 1 * 2 ^ (2 * k) % 18446744073709551616 ≡ 4 ^ k
area_shifted k h =
    let b : 4 ^ k ≤ 4 ^ 31 = pow-le-pow_right {n = 4} (omega arith) h in
    rw (one-mul (2 ^ (2 * k)), square_power k) (mod-eq_of_lt (omega arith))

-- a picture has a place
pub area_some : (k : ℕ) → 1 ≤ 4 ^ k
area_some k = pow-le-pow_right {n = 4} (omega arith) {i = 0} {j = k} (omega arith)

-- n times what a plane has, at most as much as all planes have
pub planes_times : (n m : ℕ) → n ≤ most_planes → n * m ≤ most_planes * m
planes_times n m h = mul-le-mul_right m h
