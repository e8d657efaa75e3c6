-- The comparison, the label and the unused bits as the library writes them. Assumes nothing.
use Prim.Native.Nat.{ℕ, zero, suc, ◌+◌, ◌-◌, ◌<◌, ◌≤◌}
use mathlib.Core.Path.{◌≡◌, refl, sym, ap, ◌∙◌}
use mathlib.Core.Bool.{Bool, true, false, not, ◌&&◌}
use mathlib.Core.List.{List, [], ◌∷◌}
use native.Mathlib.Numerals.{add-one}
use native.Mathlib.Omega.{arith}
use lib.Dec.{eqb}
use lib.ListN.{length, drop, get_or, drop_of_length-le}
use lib.Seq.{drop-cons}
use Rattle.std.specs.Cmp.Lexicographic.{pointwise}
use Rattle.std.specs.List.{list_all, range_with_len}
use Rattle.paper.specs.Bits.{all_zero}
use Rattle.paper.specs.Block.{label_character, label_characters, same_bytes}

pub same_is_pointwise : (s t : List ℕ) → same_bytes s t ≡ pointwise eqb s t
unfolding same_bytes
same_is_pointwise [] [] = refl
same_is_pointwise [] (w ∷ t) = refl
same_is_pointwise (v ∷ s) [] = refl
same_is_pointwise (v ∷ s) (w ∷ t) = ap (λ r. eqb v w && r) (same_is_pointwise s t)

pub characters_all : (s : List ℕ) → label_characters s ≡ list_all label_character s
unfolding label_characters
characters_all [] = refl
characters_all (c ∷ s) = ap (λ r. label_character c && r) (characters_all s)

-- the first bit and the others
zero_cons : (b : Bool) (l : List Bool) → all_zero (b ∷ l) ≡ (not b && all_zero l)
unfolding all_zero
zero_cons true l = refl
zero_cons false l = refl

-- each bit from the i-th on is 0
pub unused_all : (n : ℕ) (l : List Bool) (i : ℕ) → length l - i ≡ n → list_all (λ at. not (get_or l at false)) (range_with_len i n) ≡ all_zero (drop i l)
unfolding all_zero
unused_all zero l i h = let past : length l ≤ i = omega arith in rw (drop_of_length-le l past)
unused_all (suc n) l i h =
    let inside : i < length l = omega arith in
    ap (λ r. not (get_or l i false) && r) (unused_all n l (i + 1) (omega arith) ∙ ap (λ (k : ℕ). all_zero (drop k l)) (add-one i))
    ∙ sym (ap all_zero (drop-cons l i false inside) ∙ zero_cons (get_or l i false) (drop (suc i) l))
