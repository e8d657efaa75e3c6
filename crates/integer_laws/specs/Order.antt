-- Sizes and orders of integers as facts about naturals, and the two rulesets: `ints` for `simp`, `zarith` for `omega`.
-- With them nearly every fact over ℤ is one line: rw (split x, split y) (simp ints (omega zarith)).
use Rattle.std.specs.Prelude.{◌≡◌, Bool, true, false, not, ℕ, suc, ◌+◌, ◌-◌, ◌^◌, ◌<◌, ◌≤◌, T, ℤ, pos, negsuc, nat_abs, ◌≤ℤ◌, ◌<ℤ◌}
use Rattle.std.proofs.Common.{sym, ap, ◌∙◌, subst, arith, lt→ltb, le→leb, leb→le, ltb→lt}
use Rattle.std.specs.Int.Signed.{lt_z, le_z, le_z_yes, lt_z_yes, lt_z_no, non_neg}
use Rattle.std.specs.Int.{Width}
use mir.Val.{SFits, hbits}
use Rattle.integer_laws.specs.Difference.{◌⊖◌, ⊖-cases, ⊖-pos, ⊖-eq, pos-⊖, negsuc-⊖, neg-⊖, add-⊖, shr2-⊖, shr4-⊖, abs-⊖, mag-⊖, mul-⊖, up, dn, split, up-⊖, dn-⊖, abs_split}

-- z is at most B in size. A record, so that B and z are inferred from a proof of it, as `SFits` is.
pub record Within (B : ℕ) (z : ℤ) : Type 0 where
  pub size : nat_abs z ≤ B

pub within-⊖ : (B p n : ℕ) → (p - n) + (n - p) ≤ B → Within B (p ⊖ n)
within-⊖ B p n h = record { size = rw abs-⊖ h }

pub within_split : (B : ℕ) (z : ℤ) → Within B (up z ⊖ dn z) → up z + dn z ≤ B
within_split B z h = rw abs_split at h.size

-- ---- for `omega`: goals and facts on differences, as goals and facts on naturals
pub sfits-⊖ : (w : Width) (p n : ℕ) → (p - n) + (n - suc p) < 2 ^ hbits w → SFits w (p ⊖ n)
sfits-⊖ w p n h = record { sfits = rw mag-⊖ h }

pub le-⊖ : (p n q m : ℕ) → p + m ≤ q + n → p ⊖ n ≤ℤ q ⊖ m
le-⊖ p n q m h = le_z_yes (⊖-cases (λ z. T (le_z z (q ⊖ m))) p n
    (λ j. ⊖-cases (λ z. T (le_z (pos (p - n)) z)) q m (λ k. le→leb (p - n) (q - m) (omega arith)) (λ k. absurd (no p n q m h j k)))
    (λ j. ⊖-cases (λ z. T (le_z (negsuc (n - suc p)) z)) q m (λ k. tt) (λ k. le→leb (m - suc q) (n - suc p) (omega arith))))
  where
    no : (p n q m : ℕ) → p + m ≤ q + n → n ≤ p → q < m → ⊥
    no p n q m h j k = omega arith

pub lt-⊖ : (p n q m : ℕ) → p + m < q + n → p ⊖ n <ℤ q ⊖ m
lt-⊖ p n q m h = lt_z_yes (⊖-cases (λ z. T (lt_z z (q ⊖ m))) p n
    (λ j. ⊖-cases (λ z. T (lt_z (pos (p - n)) z)) q m (λ k. lt→ltb (p - n) (q - m) (omega arith)) (λ k. absurd (no p n q m h j k)))
    (λ j. ⊖-cases (λ z. T (lt_z (negsuc (n - suc p)) z)) q m (λ k. tt) (λ k. lt→ltb (m - suc q) (n - suc p) (omega arith))))
  where
    no : (p n q m : ℕ) → p + m < q + n → n ≤ p → q < m → ⊥
    no p n q m h j k = omega arith

pub ⊖-le : (p n q m : ℕ) → p ⊖ n ≤ℤ q ⊖ m → p + m ≤ q + n
⊖-le p n q m h = ⊖-cases (λ z. T (le_z z (q ⊖ m)) → p + m ≤ q + n) p n
    (λ j. ⊖-cases (λ z. T (le_z (pos (p - n)) z) → p + m ≤ q + n) q m (λ k t. omega (arith, leb→le (p - n) (q - m) t)) (λ k t. absurd t))
    (λ j. ⊖-cases (λ z. T (le_z (negsuc (n - suc p)) z) → p + m ≤ q + n) q m (λ k t. omega arith) (λ k t. omega (arith, leb→le (m - suc q) (n - suc p) t)))
    h.le

pub ⊖-lt : (p n q m : ℕ) → p ⊖ n <ℤ q ⊖ m → p + m < q + n
⊖-lt p n q m h = ⊖-cases (λ z. T (lt_z z (q ⊖ m)) → p + m < q + n) p n
    (λ j. ⊖-cases (λ z. T (lt_z (pos (p - n)) z) → p + m < q + n) q m (λ k t. omega (arith, ltb→lt (p - n) (q - m) t)) (λ k t. absurd t))
    (λ j. ⊖-cases (λ z. T (lt_z (negsuc (n - suc p)) z) → p + m < q + n) q m (λ k t. omega arith) (λ k t. omega (arith, ltb→lt (m - suc q) (n - suc p) t)))
    h.lt

-- a test's flag, as a condition leaves it
pub lt_z-⊖ : (p n q m : ℕ) → lt_z (p ⊖ n) (q ⊖ m) ≡ true → p + m < q + n
lt_z-⊖ p n q m e = ⊖-lt p n q m (lt_z_yes (subst T (sym e) tt))

pub nlt_z-⊖ : (p n q m : ℕ) → lt_z (p ⊖ n) (q ⊖ m) ≡ false → q + n ≤ p + m
nlt_z-⊖ p n q m e = ⊖-le q m p n (lt_z_no (subst (λ (b : Bool). T (not b)) (sym e) tt))

pub non_neg-⊖ : (p n : ℕ) → n ≤ p → T (non_neg (p ⊖ n))
non_neg-⊖ p n h = rw ⊖-pos tt

-- ---- the rulesets
pub ruleset ints = (abs_split, up-⊖, dn-⊖, pos-⊖, negsuc-⊖, neg-⊖, add-⊖, shr2-⊖, shr4-⊖, mul-⊖, abs-⊖, mag-⊖)

pub ruleset zarith = (arith, ⊖-eq, sfits-⊖, within-⊖, le-⊖, lt-⊖, ⊖-le, ⊖-lt, within_split, lt_z-⊖, nlt_z-⊖, non_neg-⊖)
