-- How a set, the rest and the whole square are cut: which parts are sets again, and which is the next rest. A part is
-- known by its length alone.
use mathlib.Core.Path.{◌≡◌, refl, sym, ap, ◌∙◌}
use mathlib.Core.List.{List}
use Prim.Native.Nat.{ℕ, zero, suc, ◌+◌, ◌*◌, ◌-◌, ◌/◌, ◌%◌, ◌^◌, ◌<◌, ◌≤◌}
use native.Mathlib.Nat.{pow-suc, mul-div_cancel, pow-le-pow_right, add-zero}
use native.Mathlib.Omega.{arith}
use lib.IntN.{ℤ}
use lib.ListN.{length, take, length-take}
use Rattle.paper.specs.Sizes.{most_size}
use Rattle.paper.specs.Walk.{depth}
use Rattle.sizes.proofs.Counts.{area_shifted}
use Rattle.shapes.specs.Shapes.{IsSet, IsRest, IsSquare}

-- ---- powers of 4
pow_some : (d : ℕ) → 0 < 4 ^ d
pow_some d = pow-le-pow_right {n = 4} (omega arith) {i = 0} {j = d} (omega arith)

pow_once : (a b : ℕ) → 4 ^ a ≡ 4 ^ b → a ≡ b
pow_once zero zero e = refl
pow_once zero (suc b) e = absurd (omega (arith, pow-suc 4 b, pow_some b))
pow_once (suc a) zero e = absurd (omega (arith, pow-suc 4 a, pow_some a))
pow_once (suc a) (suc b) e = ap suc (pow_once a b (omega (arith, pow-suc 4 a, pow-suc 4 b)))

-- ---- three sets of length q, and what lies behind them
pub record Cut (xs : List ℤ) (q : ℕ) : Type 0 where
  pub d : ℕ
  pub is : q ≡ 4 ^ suc d
  pub some : 0 < q
  pub three : q * 3 ≤ length xs

module _ {xs : List ℤ} {q : ℕ} (C : Cut xs q) where
  abbrev pub part_set : {part : List ℤ} → length part ≡ q → IsSet part
  part_set s = record { d = C.d; is = s ∙ C.is }

  pub first_part : length (take q xs) ≡ q
  first_part = omega (arith, length-take q xs, C.three)

  pub behind_shorter : (n : ℕ) {t : ℕ} → n + (q + q + q) ≡ length xs → length xs ≡ t → n < t
  behind_shorter n s e = omega (arith, C.some)

-- ---- a set longer than 4, by its quarters
pub record Quarters (xs : List ℤ) : Type 0 where
  pub cut : Cut xs (length xs / 4)
  pub all : length xs ≡ length xs / 4 * 4

quarters_of : (xs : List ℤ) (d : ℕ) → length xs ≡ 4 ^ suc (suc d) → Quarters xs
quarters_of xs d s =
    let q : length xs / 4 ≡ 4 ^ suc d = ap (λ m. m / 4) (s ∙ pow-suc 4 (suc d)) ∙ mul-div_cancel (4 ^ suc d) {n = 4} (omega arith) in
    let all : length xs ≡ length xs / 4 * 4 = s ∙ pow-suc 4 (suc d) ∙ ap (λ m. m * 4) (sym q) in
    record { cut = record { d = d; is = q; some = omega (arith, pow_some (suc d)); three = omega arith }; all = all }

pub quarters : (xs : List ℤ) → IsSet xs → (length xs ≡ 4 → ⊥) → Quarters xs
quarters xs S k = go S.d S.is
  where
    go : (d : ℕ) → length xs ≡ 4 ^ suc d → Quarters xs
    go zero h = absurd (k h)
    go (suc d) h = quarters_of xs d h

module _ {xs : List ℤ} (Q : Quarters xs) where
  pub quarter_shorter : {n t : ℕ} → n ≡ length xs / 4 → length xs ≡ t → n < t
  quarter_shorter s e = omega (arith, Q.all, Q.cut.some)

  pub last_quarter : (n : ℕ) → n + (length xs / 4 + length xs / 4 + length xs / 4) ≡ length xs → n ≡ length xs / 4
  last_quarter n s = omega (arith, Q.all)

-- the depth of a set is settled by its length
pub four_depth : {xs : List ℤ} (S : IsSet xs) → length xs ≡ 4 → S.d ≡ 0
four_depth S n = let e : suc S.d ≡ 1 = pow_once (suc S.d) 1 (sym S.is ∙ n) in omega arith

pub quarters_depth : {xs : List ℤ} (Q : Quarters xs) (S : IsSet xs) → S.d ≡ suc Q.cut.d
quarters_depth Q S =
    let e : suc S.d ≡ suc (suc Q.cut.d) = pow_once (suc S.d) (suc (suc Q.cut.d)) (omega (arith, S.is, Q.all, Q.cut.is, pow-suc 4 (suc Q.cut.d))) in
    omega arith

-- ---- a rest that has numbers
pub record Onward (xs : List ℤ) (q : ℕ) : Type 0 where
  pub cut : Cut xs q
  pub left : ℕ
  pub sized : length xs + q ≡ 4 ^ (suc cut.d + suc left)

onward_of : (xs : List ℤ) (q d left : ℕ) → q ≡ 4 ^ suc d → length xs + q ≡ 4 ^ (suc d + suc left) → Onward xs q
onward_of xs q d left is s = record {
  cut = record { d = d; is = is; some = omega (arith, pow_some (suc d)); three = omega (arith, pow-le-pow_right {n = 4} (omega arith) {i = suc (suc d)} {j = suc d + suc left} (omega arith), pow-suc 4 (suc d)) };
  left = left;
  sized = s;
}

none_left : (n q d : ℕ) → q ≡ 4 ^ suc d → n + q ≡ 4 ^ (suc d + 0) → n ≡ 0
none_left n q d is s = omega (arith, ap (λ k. 4 ^ k) (add-zero (suc d)))

pub onward : (xs : List ℤ) (q : ℕ) → IsRest xs q → (length xs ≡ 0 → ⊥) → Onward xs q
onward xs q K k = go K.left K.sized
  where
    go : (left : ℕ) → length xs + q ≡ 4 ^ (suc K.d + left) → Onward xs q
    go zero s = absurd (k (none_left (length xs) q K.d K.is s))
    go (suc left) s = onward_of xs q K.d left K.is s

-- the rest behind three sets
abbrev pub rest_behind : {xs : List ℤ} {q : ℕ} (O : Onward xs q) {part : List ℤ} → length part + (q + q + q) ≡ length xs → IsRest part (q + q + q + q)
rest_behind {xs} {q} O {part} s = record {
  d = suc O.cut.d;
  left = O.left;
  is = omega (arith, O.cut.is, pow-suc 4 (suc O.cut.d));
  sized = (let z : length part + (q + q + q + q) ≡ length xs + q = omega arith in z) ∙ O.sized ∙ ap (λ k. 4 ^ k) (let z : suc O.cut.d + suc O.left ≡ suc (suc O.cut.d) + O.left = omega arith in z);
}

-- how often it grows is settled by the lengths
pub onward_depth : {xs : List ℤ} {q : ℕ} (O : Onward xs q) (K : IsRest xs q) → (K.d ≡ O.cut.d) × (K.left ≡ suc O.left)
onward_depth O K =
    let e : suc K.d ≡ suc O.cut.d = pow_once (suc K.d) (suc O.cut.d) (sym K.is ∙ O.cut.is) in
    let f : suc K.d + K.left ≡ suc O.cut.d + suc O.left = pow_once (suc K.d + K.left) (suc O.cut.d + suc O.left) (sym K.sized ∙ O.sized) in
    (omega arith, omega arith)

pub none_depth : {xs : List ℤ} {q : ℕ} (K : IsRest xs q) → length xs ≡ 0 → K.left ≡ 0
none_depth K n =
    let f : suc K.d + K.left ≡ suc K.d = pow_once (suc K.d + K.left) (suc K.d) (omega (arith, K.is, K.sized)) in
    omega arith

-- ---- the first set of the whole square, and the rest behind it
module _ {xs : List ℤ} {q : ℕ} (K : IsSquare xs q) where
  pub first_fits : q ≤ length xs
  first_fits = omega (arith, K.is, K.sized, pow-le-pow_right {n = 4} (omega arith) {i = suc K.d} {j = suc K.d + K.L} (omega arith))

  pub first_long : length (take q xs) ≡ q
  first_long = omega (arith, length-take q xs, first_fits)

  abbrev pub square_set : {part : List ℤ} → length part ≡ q → IsSet part
  square_set s = record { d = K.d; is = s ∙ K.is }

  abbrev pub square_rest : {part : List ℤ} → length part + q ≡ length xs → IsRest part q
  square_rest s = record { d = K.d; left = K.L; is = K.is; sized = s ∙ K.sized }

-- other numbers, as many
abbrev pub square_same : {xs ys : List ℤ} {q : ℕ} → length ys ≡ length xs → IsSquare xs q → IsSquare ys q
square_same s K = record { d = K.d; L = K.L; is = K.is; sized = s ∙ K.sized }

-- the sizes' first set, and S² numbers
pub shifted_set : (k L : ℕ) → L < k → k ≤ most_size → 1 * 2 ^ (2 * (k - L)) % 18446744073709551616 ≡ 4 ^ suc (depth k L)
shifted_set k L h g = area_shifted (k - L) (omega arith) ∙ ap (λ j. 4 ^ j) (let z : k - L ≡ suc (k - suc L) = omega arith in z)

abbrev pub square_of : {k L q : ℕ} {xs : List ℤ} → L < k → length xs ≡ 4 ^ k → q ≡ 4 ^ suc (depth k L) → IsSquare xs q
square_of {k} {L} h n e = record { d = depth k L; L = L; is = e; sized = n ∙ ap (λ j. 4 ^ j) (let z : k ≡ suc (depth k L) + L = omega arith in z) }
