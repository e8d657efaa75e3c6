-- What the coding of numbers decodes to: all of it, and any first part of it.
use Rattle.std.specs.Prelude.{◌≡◌, refl, Bool, true, List, [], ◌∷◌, ◌++◌, map, ℕ, zero, suc, ◌+◌, ◌-◌, ◌/◌, ◌^◌, ◌≤◌, ◌<◌, leb, ltb, ℤ, pos, neg_ℤ, nat_abs, ◌-ℤ◌, replicate}
use Rattle.std.proofs.Math.Path.{sym, ap}
use Rattle.std.proofs.Common.{◌∙◌, append-nil, pow_mono, leb-false, lt-ltb, ltb-true, ltb-false, take_all}
use Rattle.std.proofs.Math.Bool.{false}
use Rattle.std.proofs.Math.Nat.{two-pow-succ}
use native.Mathlib.Omega.{arith}
use Rattle.std.proofs.Math.ListN.{length, take, length-append}
use Rattle.paper.specs.Sizes.{numbers_in, most_planes}
use Rattle.paper.specs.Lists.{at, pick}
use Rattle.paper.specs.Walk.{negative, signed, largest, bits_needed, plane_count, Decoder, Tape, walk_planes, depth, code_of, decode_of, Settled, unread_at}
use Rattle.sizes.proofs.Numbers.{largest_in}
use Rattle.integer_laws.specs.Difference.{◌⊖◌, split, pos-⊖}
use Rattle.integer_laws.specs.Order.{ints, zarith}
use Rattle.walk_laws.specs.Cleared.{high, cleared, nat_abs_cleared, high_le, lt_high, negative_signed, signed_zero, signed_self, cleared_none, cleared_small}
use Rattle.walk_laws.specs.Asks.{square_sized}
use Rattle.walk_laws.specs.Together.{tape}
use Rattle.walk_laws.specs.Read.{decoded_as}
use Rattle.walk_laws.specs.Planes.{unsettled, settled_at, Stopped, run, run_whole}

-- ---- one number
-- z, from which p planes are unfinished, against the true number x
pub record Truthful (p : ℕ) (x z : ℤ) : Type 0 where
  pub not_above : nat_abs z ≤ nat_abs x
  pub not_short : nat_abs x - nat_abs z ≤ 2 ^ p - 1
  pub right_sign : (z ≡ pos 0 → ⊥) → negative z ≡ negative x

pub cleared_truthful : (q p : ℕ) (x : ℤ) → q ≤ p → Truthful p x (cleared q x)
unfolding cleared
cleared_truthful q p x h = record {
  not_above = omega (arith, nat_abs_cleared q x, high_le q (nat_abs x));
  not_short = omega (arith, nat_abs_cleared q x, lt_high q (nat_abs x), high_le q (nat_abs x), pow_mono h);
  right_sign = go (high q (nat_abs x)) refl;
}
  where
    go : (m : ℕ) → high q (nat_abs x) ≡ m → (signed (negative x) (high q (nat_abs x)) ≡ pos 0 → ⊥) → negative (signed (negative x) (high q (nat_abs x))) ≡ negative x
    go zero e k = absurd (k (ap (signed (negative x)) e ∙ signed_zero (negative x)))
    go (suc m) e k = negative_signed (negative x) (high q (nat_abs x)) (omega arith)

-- at most p bits of a number are unread, and p - 1 before the place
pub unread_before : (p z i : ℕ) → i < z → unread_at p z i ≡ p - 1
unfolding unread_at
unread_before p z i h = ap (λ b. pick b (p - 1) p) (lt-ltb i z h)

pub unread_most : (p z i : ℕ) → unread_at p z i ≤ p
unfolding unread_at
unread_most p z i = go (ltb i z)
  where
    go : (b : Bool) → pick b (p - 1) p ≤ p
    go true = omega arith
    go false = omega arith

-- how far a number with cleared bits is from the truth
turned_gap : (x y : ℤ) → nat_abs (neg_ℤ x -ℤ neg_ℤ y) ≡ nat_abs (x -ℤ y)
turned_gap x y = rw (split x, split y) (simp ints (omega zarith))

upward_gap : (x y : ℤ) (a b : ℕ) → x ≡ a ⊖ 0 → y ≡ b ⊖ 0 → nat_abs (x -ℤ y) ≡ (a - b) + (b - a)
upward_gap x y a b e f = rw (e, f) (simp ints (omega arith))

pub gap : (s : Bool) (a b : ℕ) → nat_abs (signed s a -ℤ signed s b) ≡ (a - b) + (b - a)
gap false a b = upward_gap (pos a) (pos b) a b (pos-⊖ a) (pos-⊖ b)
gap true a b = turned_gap (pos a) (pos b) ∙ upward_gap (pos a) (pos b) a b (pos-⊖ a) (pos-⊖ b)

pub cleared_gap : (q : ℕ) (x : ℤ) → nat_abs (x -ℤ cleared q x) ≡ nat_abs x - high q (nat_abs x)
unfolding cleared
cleared_gap q x =
    ap (λ z. nat_abs (z -ℤ signed (negative x) (high q (nat_abs x)))) (sym (signed_self x)) ∙ gap (negative x) (nat_abs x) (high q (nat_abs x)) ∙ omega (arith, high_le q (nat_abs x))

pub no_gap : (x : ℤ) → nat_abs (x -ℤ x) ≡ 0
no_gap x = rw (split x) (simp ints (omega arith))

-- ---- the plane count fits
fits_bits : (most m : ℕ) → m < 2 ^ most → m < 2 ^ bits_needed most m
unfolding bits_needed
fits_bits zero m h = h
fits_bits (suc most) m h = go (leb 1 m) refl (λ j. fits_bits most (m / 2) j)
  where
    go : (b : Bool) → leb 1 m ≡ b → (m / 2 < 2 ^ most → m / 2 < 2 ^ bits_needed most (m / 2)) → m < 2 ^ (elim b as (λ _. ℕ) [ true ↦ suc (bits_needed most (m / 2)) | false ↦ 0 ])
    go true e ih = omega (arith, ih (omega (arith, two-pow-succ most)), two-pow-succ (bits_needed most (m / 2)))
    go false e ih = omega (arith, leb-false 1 m e)

-- every bit of every number is below plane n, n the plane count
pub count_fits : (xs : List ℤ) → numbers_in xs ≡ true → largest xs < 2 ^ plane_count xs
unfolding plane_count
count_fits xs e = fits_bits most_planes (largest xs) (omega (arith, largest_in xs e))

all_cleared : (n : ℕ) (xs : List ℤ) → largest xs < 2 ^ n → map (cleared n) xs ≡ replicate (length xs) (pos 0)
unfolding largest
all_cleared n [] h = refl
all_cleared n (x ∷ xs) h = λ i. cleared_small n x (omega arith) i ∷ all_cleared n xs (omega arith) i

none_cleared : (xs : List ℤ) → map (cleared 0) xs ≡ xs
none_cleared [] = refl
none_cleared (x ∷ xs) = λ i. cleared_none x i ∷ none_cleared xs i

-- ---- what the first bits decode to
-- the first b bits of the coding
abbrev pub decoded_first : ℕ → ℕ → List ℤ → ℕ → Settled
decoded_first k L xs b = decode_of k L (plane_count xs) (take b (code_of k L xs))

module _ (k L : ℕ) (xs : List ℤ) (levels : L < k) (square : length xs ≡ 4 ^ k) (numbers_in_lem : numbers_in xs ≡ true) where
  abbrev d : ℕ
  d = depth k L

  abbrev n : ℕ
  n = plane_count xs

  abbrev code : List Bool
  code = code_of k L xs

  abbrev sized : length xs ≡ 4 ^ (suc d + L)
  sized = square_sized k L xs levels square

  pub start_cleared : map (cleared n) xs ≡ replicate (4 ^ k) (pos 0)
  start_cleared = all_cleared n xs (count_fits xs numbers_in_lem) ∙ ap (λ j. replicate j (pos 0)) square

  pub decoded : (l : List Bool) {v : List ℤ × ℕ} {t : Tape} → run d L xs sized n l ≡ (v, t)
      → decode_of k L n l ≡ record { numbers = v.0; unfinished = v.1; read = length l - length t.left; place = t.place }
  decoded l e = decoded_as k L n l (ap (λ z. walk_planes Decoder d L n z (tape l false 0)) (sym start_cleared) ∙ e)

  -- The whole coding, whatever stands behind it, decodes to the numbers, and no bit behind it is read.
  pub coding_decoded : (r : List Bool) → decode_of k L n (code ++ r) ≡ record { numbers = xs; unfinished = 0; read = length code; place = 0 }
  unfolding code_of
  coding_decoded r =
      decoded (code ++ r) (run_whole d L xs sized n r)
      ∙ (λ i. record { numbers = none_cleared xs i; unfinished = 0; read = (let e : length (code ++ r) - length r ≡ length code = omega (arith, length-append code r) in e) i; place = 0 })

  pub all_bits : (b : ℕ) → length code ≤ b → decoded_first k L xs b ≡ record { numbers = xs; unfinished = 0; read = length code; place = 0 }
  all_bits b h = ap (decode_of k L n) (take_all b code h ∙ sym (append-nil code)) ∙ coding_decoded []

  -- number i, where the decoder stops in a plane
  pub stopped_at : (b i : ℕ) {p j : ℕ} → Stopped xs n p j (run d L xs sized n (take b code))
      → at (decoded_first k L xs b).numbers i ≡ cleared (unsettled p j i) (at xs i)
  stopped_at b i {p = p} {j = j} S = ap (λ (s : Settled). at s.numbers i) (decoded (take b code) S.is) ∙ settled_at p j xs i

  pub split_bits : (b : ℕ) (A : Type 0) → (length code ≤ b → A) → (b < length code → A) → A
  split_bits b A f g = go (ltb b (length code)) refl
    where
      go : (o : Bool) → ltb b (length code) ≡ o → A
      go true e = g (ltb-true b (length code) e)
      go false e = f (ltb-false b (length code) e)
