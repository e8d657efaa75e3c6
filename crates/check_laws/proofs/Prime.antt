-- So a sum that moved by a product of two small numbers did move: 65,521, the modulus of both checks, is prime.
use Rattle.std.specs.Prelude.{◌≡◌, refl, ℕ, zero, suc, ◌+◌, ◌*◌, ◌-◌, ◌/◌, ◌%◌, ◌<◌, ◌≤◌}
use Rattle.std.proofs.Common.{sym, ap, ◌∙◌, inl, inr, mul-add, mul-le-mul, mul-pos, arith}
use Rattle.std.proofs.Math.Decide.{dec_lt}
use Rattle.paper.specs.Block.{modulus}
use Rattle.check_laws.specs.Prime.{modulus_prime, Small}

-- it moved by a multiple of the modulus
multiple : (x p : ℕ) → (x + p) % modulus ≡ x % modulus → p ≡ modulus * ((x + p) / modulus - x / modulus)
multiple x p same = omega arith

-- and a product of two numbers below a prime is no multiple of it, unless it is 0
unmoved : (x c d : ℕ) {top : ℕ} → Small c top → d ≤ top → (x + c * d) % modulus ≡ x % modulus → d ≡ 0
unmoved x c zero S h same = refl
unmoved x c (suc d) {top} S h same =
    let least : 0 < c * suc d = mul-pos S.some (omega arith) in
    let bound : c * suc d ≤ c * top = mul-le-mul {n₁ = c} {n₂ = c} (omega arith) h in
    let e : c * suc d ≡ modulus = omega (arith, multiple x (c * suc d) same, S.product) in
    absurd (elim (modulus_prime.1 c (suc d) e) [
      | inl one ↦ let z : 1 * suc d ≡ modulus = ap (λ c. c * suc d) (sym one) ∙ e in omega (arith, S.most)
      | inr one ↦ let z : c * 1 ≡ modulus = ap (λ d. c * d) (sym one) ∙ e in omega (arith, S.weight)
    ])

-- it was x and is y, because u became v: then v is u
risen : (x y c u v : ℕ) {top : ℕ} → Small c top → v ≤ top → u ≤ v → y + c * u ≡ x + c * v → y % modulus ≡ x % modulus → v ≡ u
risen x y c u v S h up moved same =
    let split : c * v ≡ c * u + c * (v - u) = ap (λ v. c * v) (let e : v ≡ u + (v - u) = omega arith in e) ∙ mul-add c u (v - u) in
    let e : y ≡ x + c * (v - u) = omega arith in
    let none : v - u ≡ 0 = unmoved x c (v - u) S (omega arith) (ap (λ y. y % modulus) (sym e) ∙ same) in
    omega arith

pub moved_back : (x y c u v : ℕ) {top : ℕ} → Small c top → u ≤ top → v ≤ top → y + c * u ≡ x + c * v → y % modulus ≡ x % modulus → v ≡ u
moved_back x y c u v S h k moved same = elim (dec_lt u v) [
  | yes up ↦ risen x y c u v S k (omega arith) moved same
  | no down ↦ sym (risen y x c v u S h (omega arith) (sym moved) (sym same))
]
