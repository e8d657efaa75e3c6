-- A number with its low p bits cleared, and what one bit more makes of it.
use Rattle.std.specs.Prelude.{◌≡◌, refl, Bool, true, false, List, [], ◌∷◌, map, ℕ, zero, suc, ◌+◌, ◌*◌, ◌-◌, ◌/◌, ◌%◌, ◌^◌, ◌≤◌, ◌<◌, leb, eqb, ℤ, pos, negsuc, nat_abs}
use Rattle.std.proofs.Common.{sym, ap, ◌∙◌, pow-suc, div-add-mod', add-mul, mul_assoc, mul_comm, one-mul, zero-mul, div-mul-le_self, le-div_iff_mul-le, mul-le-mul_right, div-one, mul-one, add-zero, add-suc, add-sub_of_le, arith, pow_pos, leb-true, leb-false, le-leb}
use Rattle.std.proofs.Math.Nat.{div-div-eq-div-mul, div-eq_of_lt, div-eq_of_lt-le, two-pow-succ, lt-div-mul-add}
use Rattle.std.proofs.lemmas.Bool.{lt-leb}
use Rattle.paper.specs.Walk.{negative, signed, bit_of, worth, reaches}

-- a magnitude, and a number, with the low p bits cleared
unfoldable pub high : ℕ → ℕ → ℕ
high p m = m / 2 ^ p * 2 ^ p

unfoldable pub cleared : ℕ → ℤ → ℤ
cleared p x = signed (negative x) (high p (nat_abs x))

-- ---- magnitudes
bit_worth : (r p : ℕ) → r < 2 → worth (eqb r 1) p ≡ r * 2 ^ p
bit_worth zero p h = sym (zero-mul (2 ^ p))
bit_worth (suc zero) p h = sym (one-mul (2 ^ p))
bit_worth (suc (suc r)) p h = absurd (omega arith)

-- the bits above plane p, and the plane's own
pub high_step : (p m : ℕ) → high p m ≡ high (suc p) m + worth (bit_of p m) p
unfolding high bit_of
high_step p m =
    let K = 2 ^ p in
    let a = m / K in
    let h : m / 2 ^ suc p ≡ a / 2 = ap (λ k. m / k) (pow-suc 2 p) ∙ sym (div-div-eq-div-mul m K 2) in
    let e : a * K ≡ (a / 2 * 2 + a % 2) * K = ap (λ k. k * K) (sym (div-add-mod' a 2)) in
    let f : a / 2 * 2 * K ≡ m / 2 ^ suc p * 2 ^ suc p = mul_assoc (a / 2) 2 K ∙ ap (λ k. a / 2 * k) (mul_comm 2 K ∙ sym (pow-suc 2 p)) ∙ ap (λ k. k * 2 ^ suc p) (sym h) in
    e ∙ add-mul (a / 2 * 2) (a % 2) K ∙ ap (λ k. k + a % 2 * K) f ∙ ap (λ k. m / 2 ^ suc p * 2 ^ suc p + k) (sym (bit_worth (a % 2) p (omega arith)))

pub high_le : (p m : ℕ) → high p m ≤ m
unfolding high
high_le p m = div-mul-le_self m (2 ^ p)

pub lt_high : (p m : ℕ) → m < high p m + 2 ^ p
unfolding high
lt_high p m = lt-div-mul-add (pow_pos p)

-- the fewer bits are cleared, the more is left
more_left : (r t m : ℕ) → high (r + t) m ≤ high r m
more_left r zero m = omega (arith, ap (λ k. high k m) (add-zero r))
more_left r (suc t) m = omega (arith, more_left r t m, high_step (r + t) m, ap (λ k. high k m) (add-suc r t))

pub high_mono : (r q m : ℕ) → r ≤ q → high q m ≤ high r m
high_mono r q m h = omega (arith, more_left r (q - r) m, ap (λ k. high k m) (add-sub_of_le h))

-- whether a magnitude reaches 2 ^ p can be seen from its high bits
leb_high : (p m : ℕ) → leb (2 ^ p) (high p m) ≡ leb (2 ^ p) m
unfolding high
leb_high p m = go (leb (2 ^ p) m) refl
  where
    go : (b : Bool) → leb (2 ^ p) m ≡ b → leb (2 ^ p) (m / 2 ^ p * 2 ^ p) ≡ b
    go true e =
        let one : 1 ≤ m / 2 ^ p = (le-div_iff_mul-le (pow_pos p)).1 (omega (arith, leb-true (2 ^ p) m e, one-mul (2 ^ p))) in
        le-leb (2 ^ p) (m / 2 ^ p * 2 ^ p) (omega (arith, mul-le-mul_right (2 ^ p) one, one-mul (2 ^ p)))
    go false e = lt-leb (2 ^ p) (m / 2 ^ p * 2 ^ p) (omega (arith, leb-false (2 ^ p) m e, div-mul-le_self m (2 ^ p)))

-- ---- sign and magnitude
pub nat_abs_signed : (s : Bool) (m : ℕ) → nat_abs (signed s m) ≡ m
nat_abs_signed false m = refl
nat_abs_signed true zero = refl
nat_abs_signed true (suc m) = refl

pub negative_signed : (s : Bool) (m : ℕ) → 0 < m → negative (signed s m) ≡ s
negative_signed false m h = refl
negative_signed true zero h = absurd (omega arith)
negative_signed true (suc m) h = refl

pub signed_self : (x : ℤ) → signed (negative x) (nat_abs x) ≡ x
signed_self (pos m) = refl
signed_self (negsuc m) = refl

pub signed_zero : (s : Bool) → signed s 0 ≡ pos 0
signed_zero false = refl
signed_zero true = refl

-- ---- numbers
pub nat_abs_cleared : (p : ℕ) (x : ℤ) → nat_abs (cleared p x) ≡ high p (nat_abs x)
unfolding cleared
nat_abs_cleared p x = nat_abs_signed (negative x) (high p (nat_abs x))

pub cleared_none : (x : ℤ) → cleared 0 x ≡ x
unfolding cleared high
cleared_none x = ap (signed (negative x)) (ap (λ k. k * 1) (div-one (nat_abs x)) ∙ mul-one (nat_abs x)) ∙ signed_self x

pub cleared_small : (p : ℕ) (x : ℤ) → nat_abs x < 2 ^ p → cleared p x ≡ pos 0
unfolding cleared high
cleared_small p x h = ap (signed (negative x)) (ap (λ k. k * 2 ^ p) (div-eq_of_lt h) ∙ zero-mul (2 ^ p)) ∙ signed_zero (negative x)

pub leb_cleared : (p : ℕ) (x : ℤ) → leb (2 ^ p) (nat_abs (cleared p x)) ≡ leb (2 ^ p) (nat_abs x)
leb_cleared p x = ap (leb (2 ^ p)) (nat_abs_cleared p x) ∙ leb_high p (nat_abs x)

-- one more bit of a number of magnitude 2T or more
pub cleared_refined : (p : ℕ) (x : ℤ) → 2 ^ suc p ≤ nat_abs x
    → signed (negative (cleared (suc p) x)) (nat_abs (cleared (suc p) x) + worth (bit_of p (nat_abs x)) p) ≡ cleared p x
unfolding cleared
cleared_refined p x h =
    let m = nat_abs x in
    let s = negative x in
    let e : leb (2 ^ suc p) (high (suc p) m) ≡ true = leb_high (suc p) m ∙ le-leb (2 ^ suc p) m h in
    let g : 0 < high (suc p) m = omega (arith, leb-true (2 ^ suc p) (high (suc p) m) e, pow_pos (suc p)) in
    λ i. signed (negative_signed s (high (suc p) m) g i) ((ap (λ k. k + worth (bit_of p m) p) (nat_abs_signed s (high (suc p) m)) ∙ sym (high_step p m)) i)

-- the first one bit of a number
pub cleared_begun : (p : ℕ) (x : ℤ) → nat_abs x < 2 ^ suc p → 2 ^ p ≤ nat_abs x → signed (negative x) (2 ^ p) ≡ cleared p x
unfolding cleared high
cleared_begun p x h k =
    let one : nat_abs x / 2 ^ p ≡ 1 = div-eq_of_lt-le {k = 1} (2 ^ p) {m = nat_abs x} (omega (arith, one-mul (2 ^ p))) (omega (arith, two-pow-succ p)) in
    ap (signed (negative x)) (sym (ap (λ j. j * 2 ^ p) one ∙ one-mul (2 ^ p)))

-- a number below T: the plane changes nothing
pub cleared_still : (p : ℕ) (x : ℤ) → nat_abs x < 2 ^ p → cleared (suc p) x ≡ cleared p x
cleared_still p x h = cleared_small (suc p) x (omega (arith, two-pow-succ p)) ∙ sym (cleared_small p x h)

-- ---- a set of numbers
pub reaches_cleared : (p : ℕ) (xs : List ℤ) → reaches (2 ^ p) (map (cleared p) xs) ≡ reaches (2 ^ p) xs
unfolding reaches
reaches_cleared p [] = refl
reaches_cleared p (x ∷ xs) = λ i. elim (leb_cleared p x i) [ true ↦ true | false ↦ reaches_cleared p xs i ]

-- where nothing reaches T, the plane changes nothing
pub closed_still : (p : ℕ) (xs : List ℤ) → reaches (2 ^ p) xs ≡ false → map (cleared (suc p)) xs ≡ map (cleared p) xs
unfolding reaches
closed_still p [] e = refl
closed_still p (x ∷ xs) e = go (leb (2 ^ p) (nat_abs x)) refl e (λ h. closed_still p xs h)
  where
    go : (b : Bool) → leb (2 ^ p) (nat_abs x) ≡ b → ◌≡◌ {A = Bool} (elim b [ true ↦ true | false ↦ reaches (2 ^ p) xs ]) false
        → (reaches (2 ^ p) xs ≡ false → map (cleared (suc p)) xs ≡ map (cleared p) xs) → map (cleared (suc p)) (x ∷ xs) ≡ map (cleared p) (x ∷ xs)
    go true l h ih = absurd (let z : ◌≡◌ {A = ℕ} 0 1 = cc in omega arith)
    go false l h ih = λ i. cleared_still p x (leb-false (2 ^ p) (nat_abs x) l) i ∷ ih h i
