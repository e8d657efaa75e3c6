-- How long what is said can be.
use mathlib.Core.Path.{◌≡◌, refl}
use mathlib.Core.Bool.{Bool, true, false}
use mathlib.Core.List.{List, [], ◌∷◌, ◌++◌}
use Prim.Native.Nat.{ℕ, zero, suc, ◌+◌, ◌/◌, ◌%◌, ◌^◌, ◌<◌, ◌≤◌}
use native.Mathlib.Omega.{arith}
use native.Mathlib.Nat.{pow-suc, pow-le-pow_right}
use lib.Dec.{leb, ltb, eqb}
use lib.ListN.{length, length-append}
use borrow.Author.Tests.{leb-true, lt-ltb}
use Rattle.paper.specs.Lists.{pick}
use Rattle.paper.specs.Sizes.{most_size, grey_limit}
use Rattle.pgm.specs.Ascii.{decimal}
use Rattle.words.specs.Line.{figure}
use Rattle.words.proofs.Laws.{either}
use Rattle.worth.specs.Worth.{word, side_of, of_thumbnail, is_softer, of_softer}

pub side_most : (k : ℕ) → side_of k ≤ 256
unfolding side_of
side_most k = go (leb k most_size) refl
  where
    go : (b : Bool) → leb k most_size ≡ b → pick b (2 ^ k) 0 ≤ 256
    go true e = pow-le-pow_right {n = 2} (omega arith) (leb-true k most_size e)
    go false e = omega arith

-- ---- none of it is long
abbrev pub AtMost : ℕ → List ℕ → Type 0
AtMost most text = length text ≤ most

pub word_length : (p : ℕ) → length (word p) ≤ 5
unfolding word
word_length p = either (AtMost 5) (eqb p 0) _ _ (omega arith) (omega arith)

pub thumbnail_length : (r : ℕ) (text : List ℕ) → length (of_thumbnail r text) ≤ length text
unfolding of_thumbnail
thumbnail_length r text = either (AtMost (length text)) (eqb r 0) _ _ (omega arith) (omega arith)

pub softer_length : (softer : Bool) (p : ℕ) → length (of_softer softer p) ≤ 8
unfolding of_softer
softer_length softer p = either (AtMost 8) (is_softer softer p) _ _ (omega arith) (omega arith)

-- a number below 10 ^ (d + 1) has at most d + 1 digits
few_digits : (most d n : ℕ) → n < 10 ^ suc d → length (decimal most n) ≤ suc d
unfolding decimal
few_digits zero d n h = omega arith
few_digits (suc most) zero n h = rw (lt-ltb n 10 (omega arith)) (omega arith)
few_digits (suc most) (suc d) n h = digits (ltb n 10) n (decimal most (n / 10)) (few_digits most d (n / 10) (omega (arith, pow-suc 10 (suc d))))
  where
    digits : (b : Bool) (n : ℕ) (front : List ℕ) → length front ≤ suc d → length (pick b ((48 + n) ∷ []) (front ++ ((48 + n % 10) ∷ []))) ≤ suc (suc d)
    digits true n front h = omega arith
    digits false n front h = omega (arith, length-append front ((48 + n % 10) ∷ []))

-- a side has three digits, and so has what a grey can be off
pub side_length : (k : ℕ) → length (figure (side_of k)) ≤ 3
side_length k = few_digits 20 2 (side_of k) (omega (arith, side_most k))

pub limit_length : (L p : ℕ) → length (figure (grey_limit L p)) ≤ 3
unfolding grey_limit
limit_length L p = few_digits 20 2 (grey_limit L p) (omega arith)
