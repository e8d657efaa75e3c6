-- What a softer number is worth: the true one with its unread bits cleared and, if that isn't zero, moved up by half of what they leave
-- unknown.
use Rattle.std.specs.Prelude.{◌≡◌, refl, Bool, true, false, List, [], ◌∷◌, ℕ, zero, suc, ◌+◌, ◌-◌, ◌*◌, ◌/◌, ◌^◌, ◌<◌, ◌≤◌, ltb, eqb, ℤ, pos, nat_abs, ◌-ℤ◌, length}
use Rattle.std.proofs.Common.{sym, ap, ◌∙◌, add-zero, add-mul, one-mul, mul-le-mul_right, div-mul-le_self, arith, pow-add, pow_pos, ne_eqb, ltb-true, ltb-false}
use Rattle.std.proofs.Math.Nat.{two-pow-succ}
use Rattle.std.proofs.Math.Decide.{dec_lt}
use Rattle.std.proofs.Math.ListN.{get_or-eq_default}
use Rattle.paper.specs.Lists.{at, pick}
use Rattle.paper.specs.Walk.{negative, signed, largest, unread_at}
use Rattle.paper.specs.Softer.{half_of, moved_up, softened}
use Rattle.list_laws.specs.Made.{length_made, get_d_made, made_is}
use Rattle.walk_laws.specs.Cleared.{high, cleared, high_le, nat_abs_cleared, nat_abs_signed, negative_signed, signed_zero, signed_self}
use Rattle.walk_laws.specs.Decoded.{gap, unread_most}

-- y, shown for the stored number z, against the true number x of which u low bits are unread
pub record Softer (u : ℕ) (x z y : ℤ) : Type 0 where
  pub exact : u ≡ 0 → y ≡ x
  pub near : 1 ≤ u → (z ≡ pos 0 → ⊥) → nat_abs (x -ℤ y) ≤ 2 ^ (u - 1)
  pub still : z ≡ pos 0 → y ≡ pos 0
  pub right_sign : (y ≡ pos 0 → ⊥) → negative y ≡ negative x
  pub within : nat_abs (x -ℤ y) ≤ 2 ^ u - 1

-- ---- one number
pub moved_zero : (h : ℕ) (x : ℤ) → x ≡ pos 0 → moved_up h x ≡ x
unfolding moved_up
moved_zero h x e = rw e

pub moved_up_is : (h : ℕ) (x : ℤ) → 0 < nat_abs x → moved_up h x ≡ signed (negative x) (nat_abs x + h)
unfolding moved_up
moved_up_is h x k = rw (ne_eqb (nat_abs x) 0 (λ e. omega arith))

moved_signed : (h : ℕ) (s : Bool) (m : ℕ) → moved_up h (signed s (suc m)) ≡ signed s (suc m + h)
moved_signed h s m = moved_up_is h (signed s (suc m)) (omega (arith, nat_abs_signed s (suc m))) ∙ rw (negative_signed s (suc m) (omega arith), nat_abs_signed s (suc m))

-- a magnitude from c on and below c + 2 ^ u, shown as c and half of that
half_near : (u m c : ℕ) → 1 ≤ u → c ≤ m → m < c + 2 ^ u → (m - (c + half_of u)) + (c + half_of u - m) ≤ 2 ^ (u - 1)
unfolding half_of
half_near zero m c h a b = omega arith
half_near (suc u) m c h a b = let e : suc u - 1 ≡ u = omega arith in rw e (omega (arith, two-pow-succ u))

half_within : (u m c : ℕ) → c ≤ m → m < c + 2 ^ u → (m - (c + half_of u)) + (c + half_of u - m) ≤ 2 ^ u - 1
unfolding half_of
half_within zero m c a b = omega arith
half_within (suc u) m c a b = omega (arith, two-pow-succ u, pow_pos u)

half_exact : (u m c : ℕ) → u ≡ 0 → c ≤ m → m < c + 2 ^ u → c + half_of u ≡ m
unfolding half_of
half_exact zero m c e a b = omega arith
half_exact (suc u) m c e a b = absurd (omega arith)

pub softer_signed : (u : ℕ) (s : Bool) (m c : ℕ) → c ≤ m → m < c + 2 ^ u → Softer u (signed s m) (signed s c) (moved_up (half_of u) (signed s c))
softer_signed u s m zero a b = rw (moved_zero (half_of u) (signed s 0) (signed_zero s)) (record {
  exact = λ e. ap (signed s) (let z : 0 ≡ m = omega (arith, ap (λ u. 2 ^ u) e) in z);
  near = λ h k. absurd (k (signed_zero s));
  still = λ e. e;
  right_sign = λ k. absurd (k (signed_zero s));
  within = rw (gap s m 0) (omega arith);
})
softer_signed u s m (suc c) a b = rw (moved_signed (half_of u) s c) (record {
  exact = λ e. ap (signed s) (half_exact u m (suc c) e a b);
  near = λ h k. rw (gap s m (suc c + half_of u)) (half_near u m (suc c) h a b);
  still = λ e. absurd (let z : suc c ≡ 0 = sym (nat_abs_signed s (suc c)) ∙ ap nat_abs e in omega arith);
  right_sign = λ k. negative_signed s (suc c + half_of u) (omega arith) ∙ sym (negative_signed s m (omega arith));
  within = rw (gap s m (suc c + half_of u)) (half_within u m (suc c) a b);
})

-- a number below 2 ^ n is shown below 2 ^ n
high_below : (u n m : ℕ) → u ≤ n → m < 2 ^ n → high u m + 2 ^ u ≤ 2 ^ n
unfolding high
high_below u n m h l = go (ltb (m / 2 ^ u) (2 ^ (n - u))) refl
  where
    parts : 2 ^ n ≡ 2 ^ (n - u) * 2 ^ u
    parts = ap (λ k. 2 ^ k) (let e : n ≡ n - u + u = omega arith in e) ∙ pow-add 2 (n - u) u

    go : (b : Bool) → ltb (m / 2 ^ u) (2 ^ (n - u)) ≡ b → m / 2 ^ u * 2 ^ u + 2 ^ u ≤ 2 ^ n
    go true e = omega (arith, parts, mul-le-mul_right {m = suc (m / 2 ^ u)} {n = 2 ^ (n - u)} (2 ^ u) (ltb-true (m / 2 ^ u) (2 ^ (n - u)) e), add-mul 1 (m / 2 ^ u) (2 ^ u), one-mul (2 ^ u), ap (λ k. k * 2 ^ u) (let s : 1 + m / 2 ^ u ≡ suc (m / 2 ^ u) = omega arith in s))
    go false e = absurd (omega (arith, parts, div-mul-le_self m (2 ^ u), mul-le-mul_right {m = 2 ^ (n - u)} {n = m / 2 ^ u} (2 ^ u) (ltb-false (m / 2 ^ u) (2 ^ (n - u)) e)))

half_below : (u : ℕ) → half_of u < 2 ^ u
unfolding half_of
half_below zero = omega arith
half_below (suc u) = omega (arith, two-pow-succ u, pow_pos u)

pub softer_below : (u n : ℕ) (x : ℤ) → u ≤ n → nat_abs x < 2 ^ n → nat_abs (moved_up (half_of u) (cleared u x)) < 2 ^ n
unfolding moved_up
softer_below u n x h l = go (eqb (nat_abs (cleared u x)) 0)
  where
    z : ℤ
    z = cleared u x

    go : (b : Bool) → nat_abs (pick b z (signed (negative z) (nat_abs z + half_of u))) < 2 ^ n
    go true = omega (arith, nat_abs_cleared u x, high_le u (nat_abs x))
    go false = omega (arith, nat_abs_signed (negative z) (nat_abs z + half_of u), nat_abs_cleared u x, high_below u n (nat_abs x) h l, half_below u)

-- ---- the numbers shown
pub length_softened : (p place : ℕ) (xs : List ℤ) → length (softened p place xs) ≡ length xs
unfolding softened
length_softened p place xs = length_made (length xs) _

pub at_softened : (p place : ℕ) (xs : List ℤ) (i : ℕ) → at (softened p place xs) i ≡ moved_up (half_of (unread_at p place i)) (at xs i)
unfolding softened moved_up
at_softened p place xs i = go (dec_lt i (length xs))
  where
    go : Dec (i < length xs) → at (softened p place xs) i ≡ moved_up (half_of (unread_at p place i)) (at xs i)
    go (yes h) = get_d_made (length xs) _ i (pos 0) h
    go (no h) =
        get_or-eq_default (softened p place xs) (pos 0) {n = i} (omega (arith, length_softened p place xs))
        ∙ rw (get_or-eq_default xs (pos 0) {n = i} (omega arith))

-- where no plane is unfinished nothing is moved
moved_none : (x : ℤ) → moved_up 0 x ≡ x
unfolding moved_up
moved_none x = go (eqb (nat_abs x) 0)
  where
    go : (b : Bool) → pick b x (signed (negative x) (nat_abs x + 0)) ≡ x
    go true = refl
    go false = ap (signed (negative x)) (add-zero (nat_abs x)) ∙ signed_self x

pub softened_none : (place : ℕ) (xs : List ℤ) → softened 0 place xs ≡ xs
unfolding softened half_of
softened_none place xs = sym (made_is (pos 0) (length xs) _ xs refl (λ i h. let u : unread_at 0 place i ≡ 0 = omega (arith, unread_most 0 place i) in sym (ap (λ u. moved_up (half_of u) (at xs i)) u ∙ moved_none (at xs i))))

pub at_most : (xs : List ℤ) (i : ℕ) → nat_abs (at xs i) ≤ largest xs
unfolding largest
at_most [] i = omega arith
at_most (x ∷ xs) zero = omega arith
at_most (x ∷ xs) (suc i) = omega (arith, at_most xs i)
