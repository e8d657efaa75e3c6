-- Parts of a list: cut twice, what lies behind a part, and parts cut one behind the other, in a list that stays as it is
-- and in one that each part comes back to before the next is cut.
use Rattle.std.specs.Prelude.{◌≡◌, ℕ, zero, suc, ◌+◌, ◌*◌, ◌-◌, ◌≤◌, length, take, drop, get_or, set}
use Rattle.std.proofs.Math.Path.{refl, sym, ap}
use Rattle.std.proofs.Common.{◌∙◌, arith, length-take, length-drop, take-append-drop, drop-drop, take_all, take-take, take_at, drop_at, get_or-take, get_or-drop}
use mathlib.Core.List.{List, [], ◌∷◌, ◌++◌, append-nil, append_assoc}
use Rattle.std.proofs.Math.Nat.{sub-zero}
use Rattle.std.proofs.Math.Decide.{dec_lt}
use Rattle.std.proofs.Math.ListN.{length-append, get_or-eq_default}
use Rattle.std.proofs.Math.Seq.{take-nil}
use borrow.Rule.Slice.PartMut.{put_mid, post_of}
use Rattle.paper.specs.Lists.{Bytes}

pub drop_take : {A : Type 0} (n m : ℕ) (l : List A) → n ≤ m → drop n (take m l) ≡ take (m - n) (drop n l)
drop_take zero m l h = let e : m - 0 ≡ m = omega arith in rw e
drop_take (suc n) zero l h = absurd (omega arith)
drop_take (suc n) (suc m) [] h = sym (take-nil (suc m - suc n))
drop_take (suc n) (suc m) (a ∷ l) h = let e : suc m - suc n ≡ m - n = omega arith in rw e (drop_take n m l (omega arith))

-- a part that lies within the front
pub part_of_front : {A : Type 0} (a b m : ℕ) (l : List A) → a + b ≤ m → take b (drop a (take m l)) ≡ take b (drop a l)
part_of_front a b m l h = ap (take b) (drop_take a m l (omega arith)) ∙ take-take b (m - a) (drop a l) (omega arith)

-- a part of bytes is bytes, and none stand behind it
pub part_bytes : (m n : ℕ) (s : List ℕ) → Bytes s → Bytes (take m (drop n s))
part_bytes m n s bytes j = elim (dec_lt j m) [
  | yes h ↦ rw (get_or-take m (drop n s) j 0 h, get_or-drop n s j 0) (bytes (n + j))
  | no h ↦ rw (get_or-eq_default (take m (drop n s)) 0 (let e : length (take m (drop n s)) ≤ j = omega (arith, length-take m (drop n s)) in e)) (omega arith)
]

-- what lies behind a part that was lent, from a to e
pub behind_part : {A : Type 0} (a e : ℕ) (s : List A) → a ≤ e → drop (e - a) (drop a s) ≡ drop e s
behind_part a e s h = let z : a + (e - a) ≡ e = omega arith in drop-drop (e - a) a s ∙ ap (λ i. drop i s) z

-- a part in the middle, written over and read
put_at : {A : Type 0} (p x z u : List A) (a k : ℕ) → length p ≡ a → length x ≡ k → put_mid a k (p ++ (x ++ u)) z ≡ p ++ (z ++ u)
put_at p x z u a k h g = λ i. take_at p (x ++ u) a h i ++ (z ++ (ap (drop k) (drop_at p (x ++ u) a h) ∙ drop_at x u k g) i)

mid_at : {A : Type 0} (p x u : List A) (a k : ℕ) → length p ≡ a → length x ≡ k → take k (drop a (p ++ (x ++ u))) ≡ x
mid_at p x u a k h g = ap (take k) (drop_at p (x ++ u) a h) ∙ take_at x u k g

-- ---- a part from a to e, and a list's end from a on, as slices are cut
abbrev pub cut : {A : Type 0} → ℕ → ℕ → List A → List A
cut a e xs = take (e - a) (drop a xs)

abbrev pub from : {A : Type 0} → ℕ → List A → List A
from a xs = take (length xs - a) (drop a xs)

pub from_is : {A : Type 0} (a : ℕ) (xs : List A) → from a xs ≡ drop a xs
from_is a xs = take_all (length xs - a) (drop a xs) (omega (arith, length-drop a xs))

pub first_is : {A : Type 0} (q : ℕ) (xs : List A) → cut 0 q xs ≡ take q xs
first_is q xs = ap (λ k. take k xs) (sub-zero q)

-- ---- cut at q: the first q places, and those behind them
module _ {A : Type 0} (q : ℕ) (xs : List A) (fits : q ≤ length xs) where
  pub first_long : length (cut 0 q xs) ≡ q
  first_long = length-take (q - 0) xs ∙ omega arith

  pub from_long : length (from q xs) + q ≡ length xs
  from_long = omega (arith, ap length (from_is q xs), length-drop q xs)

-- ---- cut at q, 2q and 3q
-- the parts as walks have them
abbrev pub second : {A : Type 0} → ℕ → List A → List A
second q xs = take q (drop q xs)

abbrev pub third : {A : Type 0} → ℕ → List A → List A
third q xs = take q (drop q (drop q xs))

abbrev pub fourth : {A : Type 0} → ℕ → List A → List A
fourth q xs = drop q (drop q (drop q xs))

module _ {A : Type 0} (q : ℕ) (xs : List A) (fits : q * 3 ≤ length xs) where
  len1 : length (take q xs) ≡ q
  len1 = length-take q xs ∙ omega arith

  len2 : length (second q xs) ≡ q
  len2 = length-take q (drop q xs) ∙ omega (arith, length-drop q xs)

  len3 : length (third q xs) ≡ q
  len3 = length-take q (drop q (drop q xs)) ∙ omega (arith, length-drop q xs, length-drop q (drop q xs))

  len4 : length (fourth q xs) + (q + q + q) ≡ length xs
  len4 = omega (arith, length-drop q xs, length-drop q (drop q xs), length-drop q (drop q (drop q xs)))

  pub joined_again : take q xs ++ (second q xs ++ (third q xs ++ fourth q xs)) ≡ xs
  joined_again = rw (take-append-drop q (drop q (drop q xs)), take-append-drop q (drop q xs)) (take-append-drop q xs)

  -- ---- in a list that stays as it is
  pub cut2_is : cut q (q + q) xs ≡ second q xs
  cut2_is = ap (λ k. take k (drop q xs)) (let z : q + q - q ≡ q = omega arith in z)

  pub cut3_is : cut (q + q) (q + q + q) xs ≡ third q xs
  cut3_is = λ i. take ((let z : q + q + q - (q + q) ≡ q = omega arith in z) i) (sym (drop-drop q q xs) i)

  pub cut4_is : from (q + q + q) xs ≡ fourth q xs
  cut4_is = from_is (q + q + q) xs ∙ sym (drop-drop q (q + q) xs) ∙ ap (drop q) (sym (drop-drop q q xs))

  pub cut1_long : length (cut 0 q xs) ≡ q
  cut1_long = ap length (first_is q xs) ∙ len1

  pub cut2_long : length (cut q (q + q) xs) ≡ q
  cut2_long = ap length cut2_is ∙ len2

  pub cut3_long : length (cut (q + q) (q + q + q) xs) ≡ q
  cut3_long = ap length cut3_is ∙ len3

  pub cut4_long : length (from (q + q + q) xs) + (q + q + q) ≡ length xs
  cut4_long = ap (λ l. length l + (q + q + q)) cut4_is ∙ len4

-- ---- in a list that each part comes back to, as z1, z2, z3 and z4: the list then, and the part that is cut next
abbrev pub after1 : {A : Type 0} → ℕ → List A → List A → List A
after1 q xs z1 = z1 ++ post_of 0 (q - 0) xs

abbrev pub after2 : {A : Type 0} → ℕ → List A → List A → List A → List A
after2 q xs z1 z2 = put_mid q (q + q - q) (after1 q xs z1) z2

abbrev pub after3 : {A : Type 0} → ℕ → List A → List A → List A → List A → List A
after3 q xs z1 z2 z3 = put_mid (q + q) (q + q + q - (q + q)) (after2 q xs z1 z2) z3

abbrev pub after4 : {A : Type 0} → ℕ → List A → List A → List A → List A → List A → List A
after4 q xs z1 z2 z3 z4 = put_mid (q + q + q) (length (after3 q xs z1 z2 z3) - (q + q + q)) (after3 q xs z1 z2 z3) z4

abbrev pub part1 : {A : Type 0} → ℕ → List A → List A
part1 q xs = cut 0 q xs

abbrev pub part2 : {A : Type 0} → ℕ → List A → List A → List A
part2 q xs z1 = cut q (q + q) (after1 q xs z1)

abbrev pub part3 : {A : Type 0} → ℕ → List A → List A → List A → List A
part3 q xs z1 z2 = cut (q + q) (q + q + q) (after2 q xs z1 z2)

abbrev pub part4 : {A : Type 0} → ℕ → List A → List A → List A → List A → List A
part4 q xs z1 z2 z3 = from (q + q + q) (after3 q xs z1 z2 z3)

module _ {A : Type 0} (q : ℕ) (xs : List A) (fits : q * 3 ≤ length xs) (z1 : List A) (k1 : length z1 ≡ length (part1 q xs)) where
  abbrev x2 : List A
  x2 = second q xs

  abbrev x3 : List A
  x3 = third q xs

  abbrev x4 : List A
  x4 = fourth q xs

  now1 : after1 q xs z1 ≡ z1 ++ (x2 ++ (x3 ++ x4))
  now1 = ap (λ l. z1 ++ l) (ap (λ k. drop k xs) (sub-zero q) ∙ sym (take-append-drop q (drop q xs)) ∙ ap (λ l. x2 ++ l) (sym (take-append-drop q (drop q (drop q xs)))))

  h1 : length z1 ≡ q
  h1 = k1 ∙ cut1_long q xs fits

  pub part2_is : part2 q xs z1 ≡ x2
  part2_is = ap (cut q (q + q)) now1 ∙ mid_at z1 x2 (x3 ++ x4) q (q + q - q) h1 (len2 q xs fits ∙ omega arith)

  pub part2_long : length (part2 q xs z1) ≡ q
  part2_long = ap length part2_is ∙ len2 q xs fits

  module _ (z2 : List A) (k2 : length z2 ≡ length (part2 q xs z1)) where
    now2 : after2 q xs z1 z2 ≡ (z1 ++ z2) ++ (x3 ++ x4)
    now2 = ap (λ l. put_mid q (q + q - q) l z2) now1 ∙ put_at z1 x2 z2 (x3 ++ x4) q (q + q - q) h1 (len2 q xs fits ∙ omega arith) ∙ sym (append_assoc z1 z2 (x3 ++ x4))

    two : length (z1 ++ z2) ≡ q + q
    two = length-append z1 z2 ∙ omega (arith, h1, k2, part2_long)

    pub part3_is : part3 q xs z1 z2 ≡ x3
    part3_is = ap (cut (q + q) (q + q + q)) now2 ∙ mid_at (z1 ++ z2) x3 x4 (q + q) (q + q + q - (q + q)) two (len3 q xs fits ∙ omega arith)

    pub part3_long : length (part3 q xs z1 z2) ≡ q
    part3_long = ap length part3_is ∙ len3 q xs fits

    module _ (z3 : List A) (k3 : length z3 ≡ length (part3 q xs z1 z2)) where
      front : List A
      front = (z1 ++ z2) ++ z3

      now3 : after3 q xs z1 z2 z3 ≡ front ++ (x4 ++ [])
      unfolding front
      now3 =
          ap (λ l. put_mid (q + q) (q + q + q - (q + q)) l z3) now2 ∙ put_at (z1 ++ z2) x3 z3 x4 (q + q) (q + q + q - (q + q)) two (len3 q xs fits ∙ omega arith)
          ∙ sym (append_assoc (z1 ++ z2) z3 x4) ∙ ap (λ l. front ++ l) (sym (append-nil x4))

      three : length front ≡ q + q + q
      unfolding front
      three = length-append (z1 ++ z2) z3 ∙ omega (arith, two, k3, part3_long)

      pub after3_long : length (after3 q xs z1 z2 z3) ≡ length xs
      after3_long = ap length now3 ∙ length-append front (x4 ++ []) ∙ omega (arith, three, len4 q xs fits, ap length (append-nil x4))

      left : length (after3 q xs z1 z2 z3) - (q + q + q) ≡ length x4
      left = omega (arith, after3_long, len4 q xs fits)

      pub part4_is : part4 q xs z1 z2 z3 ≡ x4
      part4_is = (λ i. take (left i) (drop (q + q + q) (now3 i))) ∙ mid_at front x4 [] (q + q + q) (length x4) three refl

      pub part4_long : length (part4 q xs z1 z2 z3) + (q + q + q) ≡ length xs
      part4_long = ap (λ l. length l + (q + q + q)) part4_is ∙ len4 q xs fits

      module _ (z4 : List A) where
        pub after4_is : after4 q xs z1 z2 z3 z4 ≡ z1 ++ (z2 ++ (z3 ++ z4))
        unfolding front
        after4_is =
            (λ i. put_mid (q + q + q) (left i) (now3 i) z4) ∙ put_at front x4 z4 [] (q + q + q) (length x4) three refl
            ∙ ap (λ l. front ++ l) (append-nil z4) ∙ append_assoc (z1 ++ z2) z3 z4 ∙ append_assoc z1 z2 (z3 ++ z4)

        pub after4_long : length z4 ≡ length (part4 q xs z1 z2 z3) → length (after4 q xs z1 z2 z3 z4) ≡ length xs
        after4_long k4 =
            ap length after4_is ∙ omega (arith, length-append z1 (z2 ++ (z3 ++ z4)), length-append z2 (z3 ++ z4), length-append z3 z4, h1, k2, part2_long, k3, part3_long, k4, part4_long)

-- ---- the same for the first q places and those behind them
abbrev pub rest : {A : Type 0} → ℕ → List A → List A → List A
rest q xs z1 = from q (after1 q xs z1)

abbrev pub after_rest : {A : Type 0} → ℕ → List A → List A → List A → List A
after_rest q xs z1 z2 = put_mid q (length (after1 q xs z1) - q) (after1 q xs z1) z2

module _ {A : Type 0} (q : ℕ) (xs : List A) (fits : q ≤ length xs) (z1 : List A) (k1 : length z1 ≡ length (part1 q xs)) where
  g1 : length z1 ≡ q
  g1 = k1 ∙ first_long q xs fits

  first_now : after1 q xs z1 ≡ z1 ++ (drop q xs ++ [])
  first_now = ap (λ l. z1 ++ l) (ap (λ k. drop k xs) (sub-zero q) ∙ sym (append-nil (drop q xs)))

  pub after1_long : length (after1 q xs z1) ≡ length xs
  after1_long = ap length first_now ∙ length-append z1 (drop q xs ++ []) ∙ omega (arith, g1, ap length (append-nil (drop q xs)), length-drop q xs)

  behind : length (after1 q xs z1) - q ≡ length (drop q xs)
  behind = omega (arith, after1_long, length-drop q xs)

  pub rest_is : rest q xs z1 ≡ drop q xs
  rest_is = (λ i. take (behind i) (drop q (first_now i))) ∙ mid_at z1 (drop q xs) [] q (length (drop q xs)) g1 refl

  pub rest_long : length (rest q xs z1) + q ≡ length xs
  rest_long = omega (arith, ap length rest_is, length-drop q xs)

  module _ (z2 : List A) where
    pub after_rest_is : after_rest q xs z1 z2 ≡ z1 ++ z2
    after_rest_is = (λ i. put_mid q (behind i) (first_now i) z2) ∙ put_at z1 (drop q xs) z2 [] q (length (drop q xs)) g1 refl ∙ ap (λ l. z1 ++ l) (append-nil z2)

    pub after_rest_long : length z2 ≡ length (rest q xs z1) → length (after_rest q xs z1 z2) ≡ length xs
    after_rest_long k2 = ap length after_rest_is ∙ length-append z1 z2 ∙ omega (arith, g1, k2, rest_long)

-- ---- a list of four, place by place, and stored place by place
pub four_places : {A : Type 0} (d : A) (xs : List A) → length xs ≡ 4 → get_or xs 0 d ∷ get_or xs 1 d ∷ get_or xs 2 d ∷ get_or xs 3 d ∷ [] ≡ xs
four_places d [] n = absurd (omega arith)
four_places d (a ∷ []) n = absurd (omega arith)
four_places d (a ∷ b ∷ []) n = absurd (omega arith)
four_places d (a ∷ b ∷ c ∷ []) n = absurd (omega arith)
four_places d (a ∷ b ∷ c ∷ e ∷ []) n = refl
four_places d (a ∷ b ∷ c ∷ e ∷ f ∷ xs) n = absurd (omega arith)

pub four_stored : {A : Type 0} (d : A) (xs : List A) (y0 y1 y2 y3 : A) → length xs ≡ 4 → set (set (set (set xs 0 y0) 1 y1) 2 y2) 3 y3 ≡ y0 ∷ y1 ∷ y2 ∷ y3 ∷ []
four_stored d xs y0 y1 y2 y3 n = ap (λ l. set (set (set (set l 0 y0) 1 y1) 2 y2) 3 y3) (sym (four_places d xs n))
