-- Where the limit on greys passes 255, and that below that nothing overflows.
use mathlib.Core.Path.{◌≡◌}
use Prim.Native.Nat.{ℕ, ◌+◌, ◌*◌, ◌-◌, ◌%◌, ◌^◌, ◌<◌, ◌≤◌, min}
use native.Mathlib.Omega.{arith}
use native.Mathlib.Nat.{pow-le-pow_right, mod-eq_of_lt, mul-le-mul, one-mul}
use Rattle.paper.specs.Sizes.{grey_limit}

abbrev product : ℕ → ℕ → ℕ
product L p = (7 * L + 1) * (2 ^ p - 1)

pub grey_exact : (L p : ℕ) → p ≡ 0 → 0 ≡ grey_limit L p
unfolding grey_limit
grey_exact L p e = rw e (omega (arith, zero_product (7 * L + 1)))
  where
    zero_product : (n : ℕ) → n * 0 ≡ 0
    zero_product n = omega arith

capped : (L p : ℕ) → 255 ≤ product L p → 255 ≡ grey_limit L p
unfolding grey_limit
capped L p h = omega (arith, h)

-- eight planes are enough
pub grey_many_planes : (L p : ℕ) → 8 ≤ p → 255 ≡ grey_limit L p
grey_many_planes L p h =
    let a : 2 ^ 8 ≤ 2 ^ p = pow-le-pow_right {n = 2} (omega arith) h in
    let b : 1 * 255 ≤ product L p = mul-le-mul {n₁ = 1} {m₁ = 255} {n₂ = 7 * L + 1} {m₂ = 2 ^ p - 1} (omega arith) (omega arith) in
    capped L p b

-- and so are 37 levels
pub grey_many_levels : (L p : ℕ) → (p ≡ 0 → ⊥) → 37 ≤ L → 255 ≡ grey_limit L p
grey_many_levels L p some h =
    let a : 2 ^ 1 ≤ 2 ^ p = pow-le-pow_right {n = 2} (omega arith) {i = 1} {j = p} (omega arith) in
    let b : 260 * 1 ≤ product L p = mul-le-mul {n₁ = 260} {m₁ = 1} {n₂ = 7 * L + 1} {m₂ = 2 ^ p - 1} (omega arith) (omega arith) in
    capped L p (omega (arith, b))

-- up to 7 planes, as the machine has them
pub record Few (L p : ℕ) : Type 0 where
  pub power : 1 * 2 ^ p % 4294967296 ≡ 2 ^ p
  pub some : 1 ≤ 2 ^ p
  pub fits : product L p ≤ 33020

pub grey_few : (L p : ℕ) → p < 8 → L < 37 → Few L p
grey_few L p h l =
    let a : 2 ^ p ≤ 2 ^ 7 = pow-le-pow_right {n = 2} (omega arith) {i = p} {j = 7} (omega arith) in
    let b : 2 ^ 0 ≤ 2 ^ p = pow-le-pow_right {n = 2} (omega arith) {i = 0} {j = p} (omega arith) in
    record {
      power = rw (one-mul (2 ^ p)) (mod-eq_of_lt (omega (arith, a)));
      some = b;
      fits = mul-le-mul {n₁ = 7 * L + 1} {m₁ = 2 ^ p - 1} {n₂ = 260} {m₂ = 127} (omega arith) (omega (arith, a));
    }

-- the product as the machine has it
abbrev machine : ℕ → ℕ → ℕ
machine L p = (7 * L + 1) * (1 * 2 ^ p % 4294967296 - 1)

pub grey_capped : (L p : ℕ) → Few L p → (limit : ℕ) → limit ≡ min (machine L p) 255 → limit ≡ grey_limit L p
unfolding grey_limit
grey_capped L p f limit = rw f.power (λ e. omega (arith, e))
