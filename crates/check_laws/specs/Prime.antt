-- 65,521, the modulus of both checks, is prime. So a sum that moved by a product of two small numbers did move (proofs/Prime.antt).
use Rattle.std.specs.Prelude.{◌≡◌, refl, Bool, true, false, ◌&&◌, not, ◌⊎◌, ℕ, zero, suc, ◌*◌, ◌%◌, ◌<◌, ◌≤◌, eqb}
use Rattle.std.proofs.Common.{sym, ap, ◌∙◌, inl, inr, mul_comm, mul-le-mul, arith, eq-eqb}
use Rattle.std.proofs.Math.Bool.{and-eq-true_iff}
use Rattle.std.proofs.Math.Nat.{mul-mod_left}
use Rattle.std.proofs.Math.Decide.{dec_lt}
use Rattle.paper.specs.Block.{modulus, checks_start}

-- above 1, and one of any two factors is 1
abbrev pub Prime : ℕ → Type 0
Prime m = (1 < m) × ((c d : ℕ) → c * d ≡ m → (c ≡ 1) ⊎ (d ≡ 1))

-- none of 2, 3, .., n + 1 divides m
unfoldable undivided : ℕ → ℕ → Bool
undivided m zero = true
undivided m (suc n) = not (eqb (m % suc (suc n)) 0) && undivided m n

undivided_below : (m n d : ℕ) → undivided m n ≡ true → d < n → m % suc (suc d) ≡ 0 → ⊥
unfolding undivided
undivided_below m zero d all h e = omega arith
undivided_below m (suc n) d all h e =
    let (here, below) = (and-eq-true_iff (not (eqb (m % suc (suc n)) 0)) (undivided m n)).0 all in
    elim (dec_lt d n) [
      | yes k ↦ undivided_below m n d below k e
      | no k ↦
          let at : n ≡ d = omega arith in
          let z : false ≡ true = ap not (sym (eq-eqb (m % suc (suc n)) 0 (ap (λ d. m % suc (suc d)) at ∙ e))) ∙ here in
          let w : ◌≡◌ {A = ℕ} 0 1 = cc in omega arith
    ]

-- two factors of a number below 256 times 256 are not both 256 or more
module _ (m : ℕ) (tried : undivided m 254 ≡ true) (some : 1 < m) (most : m < 256 * 256) where
  small_factor : (c d : ℕ) → c < 256 → d * c ≡ m → c ≡ 1
  small_factor zero d h e = absurd (omega (arith, e))
  small_factor (suc zero) d h e = refl
  small_factor (suc (suc c)) d h e = absurd (undivided_below m 254 c tried (omega arith) (ap (λ m. m % suc (suc c)) (sym e) ∙ mul-mod_left d (suc (suc c))))

  factors : (c d : ℕ) → c * d ≡ m → (c ≡ 1) ⊎ (d ≡ 1)
  factors c d e = elim (dec_lt c 256) [
    | yes h ↦ inl (small_factor c d h (mul_comm d c ∙ e))
    | no h ↦ elim (dec_lt d 256) [
      | yes k ↦ inr (small_factor d c k e)
      | no k ↦ absurd (let z : 256 * 256 ≤ c * d = mul-le-mul {n₁ = 256} {m₁ = 256} (omega arith) (omega arith) in omega arith)
    ]
  ]

  prime : Prime m
  prime = (some, factors)

pub modulus_prime : Prime modulus
unfolding undivided
modulus_prime = prime _ refl (omega arith) (omega arith)

-- ---- a sum that moved, and leaves the same: proofs/Prime.antt
-- what weighs c and is at most `top` moves a sum by less than twice the modulus
pub record Small (c top : ℕ) : Type 0 where
  pub some : 0 < c
  pub weight : c < modulus
  pub most : top < modulus
  pub product : c * top < 2 * modulus

-- in A everything weighs 1: one byte, or two together
pub in_a : Small 1 510
in_a = record { some = omega arith; weight = omega arith; most = omega arith; product = omega arith }

-- in B a byte has its place's weight, and two of which one rose as far as the other fell weigh the way between them
pub in_b : (c : ℕ) → 0 < c → c ≤ checks_start → Small c 255
in_b c some most = record { some = omega arith; weight = omega arith; most = omega arith; product = omega arith }
