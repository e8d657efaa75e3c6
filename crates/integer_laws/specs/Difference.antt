-- An integer as a difference of two naturals, so that `omega`, which counts in naturals, reads it: `p ⊖ n` is p - n.
-- Each operation on differences gives a difference again, with linear parts; the rules stand in Order.antt.
use Rattle.std.specs.Prelude.{◌≡◌, refl, Bool, true, false, not, cond, ℕ, zero, suc, ◌+◌, ◌*◌, ◌-◌, ◌/◌, ◌<◌, ◌≤◌, min, T, ltb, ℤ, pos, negsuc, neg_ℤ, nat_abs, ◌+ℤ◌, ◌*ℤ◌}
use Rattle.std.proofs.Common.{sym, ap, ◌∙◌, arith, mul-add, ltb→lt, nltb→le}
use Rattle.std.proofs.Math.IntN.{sub_ℕ}
use Rattle.std.specs.Int.Signed.{mag, shr_z}

infix 60 ◌⊖◌
unfoldable pub ◌⊖◌ : ℕ → ℕ → ℤ
p ⊖ n = sub_ℕ p n

cond_ind : (c : Bool) (x y : ℤ) (P : ℤ → Type 0) → (T c → P x) → (T (not c) → P y) → P (cond c x y)
cond_ind true x y P f g = f tt
cond_ind false x y P f g = g tt

-- what holds of p - n where n ≤ p, and of -(n - p) where p < n, holds of the difference
pub ⊖-cases : (P : ℤ → Type 0) (p n : ℕ) → (n ≤ p → P (pos (p - n))) → (p < n → P (negsuc (n - suc p))) → P (p ⊖ n)
unfolding ◌⊖◌
⊖-cases P p n f g = cond_ind (ltb p n) (negsuc (n - suc p)) (pos (p - n)) P (λ t. g (ltb→lt p n t)) (λ t. f (nltb→le p n t))

pub ⊖-pos : (p n : ℕ) → n ≤ p → p ⊖ n ≡ pos (p - n)
⊖-pos p n h = ⊖-cases (λ z. z ≡ pos (p - n)) p n (λ k. refl) (λ k. absurd (clash p n h k))
  where
    clash : (p n : ℕ) → n ≤ p → p < n → ⊥
    clash p n h k = omega arith

pub ⊖-neg : (p n : ℕ) → p < n → p ⊖ n ≡ negsuc (n - suc p)
⊖-neg p n h = ⊖-cases (λ z. z ≡ negsuc (n - suc p)) p n (λ k. absurd (clash p n h k)) (λ k. refl)
  where
    clash : (p n : ℕ) → p < n → n ≤ p → ⊥
    clash p n h k = omega arith

-- two differences of one value
pub ⊖-eq : (p n q m : ℕ) → p + m ≡ q + n → p ⊖ n ≡ q ⊖ m
⊖-eq p n q m e = ⊖-cases (λ z. z ≡ q ⊖ m) p n
    (λ h. sym (⊖-pos q m (omega arith) ∙ ap pos (omega arith)))
    (λ h. sym (⊖-neg q m (omega arith) ∙ ap negsuc (omega arith)))

pub pos-⊖ : (n : ℕ) → pos n ≡ n ⊖ 0
pos-⊖ n = sym (⊖-pos n 0 (omega arith) ∙ ap pos (omega arith))

pub negsuc-⊖ : (n : ℕ) → negsuc n ≡ 0 ⊖ (n + 1)
negsuc-⊖ n = sym (⊖-neg 0 (n + 1) (omega arith) ∙ ap negsuc (omega arith))

neg_pos : (k : ℕ) → neg_ℤ (pos k) ≡ 0 ⊖ k
neg_pos zero = pos-⊖ 0
neg_pos (suc k) = negsuc-⊖ k ∙ ⊖-eq 0 (k + 1) 0 (suc k) (omega arith)

pub neg-⊖ : (p n : ℕ) → neg_ℤ (p ⊖ n) ≡ n ⊖ p
neg-⊖ p n = ⊖-cases (λ z. neg_ℤ z ≡ n ⊖ p) p n (λ h. neg_pos (p - n) ∙ ⊖-eq 0 (p - n) n p (omega arith)) (λ h. pos-⊖ (suc (n - suc p)) ∙ ⊖-eq (suc (n - suc p)) 0 n p (omega arith))

-- what `pos a -ℤ pos b` computes to
pub sub-⊖ : (a b : ℕ) → sub_ℕ a b ≡ a ⊖ b
unfolding ◌⊖◌
sub-⊖ a b = refl

pub add-⊖ : (p n q m : ℕ) → (p ⊖ n) +ℤ (q ⊖ m) ≡ (p + q) ⊖ (n + m)
add-⊖ p n q m = ⊖-cases (λ z. z +ℤ (q ⊖ m) ≡ (p + q) ⊖ (n + m)) p n
    (λ h. ⊖-cases (λ z. pos (p - n) +ℤ z ≡ (p + q) ⊖ (n + m)) q m
    (λ k. pos-⊖ (p - n + (q - m)) ∙ ⊖-eq _ _ _ _ (omega arith))
    (λ k. sub-⊖ (p - n) (suc (m - suc q)) ∙ ⊖-eq (p - n) (suc (m - suc q)) _ _ (omega arith)))
    (λ h. ⊖-cases (λ z. negsuc (n - suc p) +ℤ z ≡ (p + q) ⊖ (n + m)) q m
    (λ k. sub-⊖ (q - m) (suc (n - suc p)) ∙ ⊖-eq (q - m) (suc (n - suc p)) _ _ (omega arith))
    (λ k. negsuc-⊖ (suc (n - suc p + (m - suc q))) ∙ ⊖-eq _ _ _ _ (omega arith)))

pub shr2-⊖ : (p n : ℕ) → shr_z (p ⊖ n) 2 ≡ ((p + n) / 2) ⊖ n
shr2-⊖ p n = ⊖-cases (λ z. shr_z z 2 ≡ ((p + n) / 2) ⊖ n) p n
    (λ h. pos-⊖ ((p - n) / 2) ∙ ⊖-eq _ _ _ _ (omega arith))
    (λ h. negsuc-⊖ ((n - suc p) / 2) ∙ ⊖-eq _ _ _ _ (omega arith))

pub shr4-⊖ : (p n : ℕ) → shr_z (p ⊖ n) 4 ≡ ((p + 3 * n) / 4) ⊖ n
shr4-⊖ p n = ⊖-cases (λ z. shr_z z 4 ≡ ((p + 3 * n) / 4) ⊖ n) p n
    (λ h. pos-⊖ ((p - n) / 4) ∙ ⊖-eq _ _ _ _ (omega arith))
    (λ h. negsuc-⊖ ((n - suc p) / 4) ∙ ⊖-eq _ _ _ _ (omega arith))

pub abs-⊖ : (p n : ℕ) → nat_abs (p ⊖ n) ≡ (p - n) + (n - p)
abs-⊖ p n = ⊖-cases (λ z. nat_abs z ≡ (p - n) + (n - p)) p n (λ h. omega arith) (λ h. omega arith)

pub mag-⊖ : (p n : ℕ) → mag (p ⊖ n) ≡ (p - n) + (n - suc p)
mag-⊖ p n = ⊖-cases (λ z. mag z ≡ (p - n) + (n - suc p)) p n (λ h. omega arith) (λ h. omega arith)

-- ---- a variable is a difference: its parts above and below 0. `rw (split a, split b)` puts the parts of a and b for a and b.
pub up : ℤ → ℕ
up (pos n) = n
up (negsuc n) = 0

pub dn : ℤ → ℕ
dn (pos n) = 0
dn (negsuc n) = n + 1

pub split : (z : ℤ) → z ≡ up z ⊖ dn z
unfolding up dn
split (pos n) = pos-⊖ n
split (negsuc n) = negsuc-⊖ n

-- one of the parts is 0, for a fact that turns on it: `omega (zarith, apart a)`
pub apart : (z : ℤ) → min (up z) (dn z) ≡ 0
unfolding up dn
apart (pos n) = omega arith
apart (negsuc n) = omega arith

pub abs_is : (z : ℤ) → nat_abs z ≡ up z + dn z
unfolding up dn
abs_is (pos n) = omega arith
abs_is (negsuc n) = omega arith

pub up-⊖ : (p n : ℕ) → up (p ⊖ n) ≡ p - n
unfolding up
up-⊖ p n = ⊖-cases (λ z. up z ≡ p - n) p n (λ h. refl) (λ h. omega arith)

pub dn-⊖ : (p n : ℕ) → dn (p ⊖ n) ≡ n - p
unfolding dn
dn-⊖ p n = ⊖-cases (λ z. dn z ≡ n - p) p n (λ h. omega arith) (λ h. omega arith)

pub abs_split : (z : ℤ) → nat_abs (up z ⊖ dn z) ≡ up z + dn z
abs_split z = ap nat_abs (sym (split z)) ∙ abs_is z

-- ---- a multiple
mul_pos : (k p n : ℕ) → pos k *ℤ (p ⊖ n) ≡ (k * p) ⊖ (k * n)
mul_pos k p n = ⊖-cases (λ z. pos k *ℤ z ≡ (k * p) ⊖ (k * n)) p n
    (λ h. pos-⊖ (k * (p - n)) ∙ ⊖-eq _ _ _ _ (back k p n h))
    (λ h. neg_pos (k * suc (n - suc p)) ∙ ⊖-eq _ _ _ _ (fore k p n h))
  where
    back : (k p n : ℕ) → n ≤ p → k * (p - n) + k * n ≡ k * p + 0
    back k p n h = let e : (p - n) + n ≡ p = omega arith in omega (arith, sym (mul-add k (p - n) n) ∙ ap (λ (x : ℕ). k * x) e)

    fore : (k p n : ℕ) → p < n → 0 + k * n ≡ k * p + k * suc (n - suc p)
    fore k p n h = let e : p + suc (n - suc p) ≡ n = omega arith in omega (arith, sym (mul-add k p (suc (n - suc p))) ∙ ap (λ (x : ℕ). k * x) e)

-- stated of `k ⊖ 0`, since `simp` puts that for `pos k` first
pub mul-⊖ : (k p n : ℕ) → (k ⊖ 0) *ℤ (p ⊖ n) ≡ (k * p) ⊖ (k * n)
mul-⊖ k p n = ap (λ z. z *ℤ (p ⊖ n)) (sym (pos-⊖ k)) ∙ mul_pos k p n
