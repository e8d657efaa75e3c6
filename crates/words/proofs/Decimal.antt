-- A number in decimal, its last digit written first.
use mathlib.Core.Path.{◌≡◌, sym, ap, subst, ◌∙◌}
use mathlib.Core.Bool.{Bool, true, false}
use mathlib.Core.List.{List, [], ◌∷◌, ◌++◌, append_assoc}
use Prim.Native.Nat.{ℕ, zero, suc, ◌+◌, ◌-◌, ◌/◌, ◌%◌, ◌^◌, ◌<◌, ◌≤◌}
use native.Mathlib.Numerals.{add-one}
use native.Mathlib.Nat.{pow-suc}
use native.Mathlib.Omega.{arith}
use lib.Dec.{ltb}
use lib.ListN.{length, length-append, drop, set}
use Rattle.std.proofs.lemmas.List.{drop-set}
use Rattle.paper.specs.Lists.{pick}
use borrow.Author.Tests.{lt-ltb, le-ltb}
use Rattle.pgm.specs.Ascii.{decimal}

-- a place in front of it is left for a number that has a digit more
pub some_place : (first rest : ℕ) → 10 ≤ rest → rest < 10 ^ suc first → 0 < first
some_place zero rest t h = omega (arith, pow-suc 10 0)
some_place (suc first) rest t h = omega arith

-- without its last digit it fits what is left
pub tenth_fits : (first rest : ℕ) → 0 < first → rest < 10 ^ suc first → rest / 10 < 10 ^ suc (first - 1)
tenth_fits first rest s h =
    let e : suc (first - 1) ≡ first = omega arith in
    subst (λ k. rest / 10 < 10 ^ k) (sym e) (omega (arith, pow-suc 10 first))

last_of : (most n : ℕ) → 10 ≤ n → decimal (suc most) n ≡ decimal most (n / 10) ++ ((48 + n % 10) ∷ [])
unfolding decimal
last_of most n t = rw (le-ltb n 10 t)

only : (most n : ℕ) → n < 10 → decimal (suc most) n ≡ (48 + n) ∷ []
unfolding decimal
only most n t = rw (lt-ltb n 10 t)

-- what of n is yet to be written stands in front of what is: the digit at place `first` is written
module _ (n first rest : ℕ) (digits : List ℕ) (there : first < length digits) (e : decimal 20 n ≡ decimal (suc first) rest ++ drop (suc first) digits) where
  behind : (digit : ℕ) → drop first (set digits first digit) ≡ digit ∷ drop (suc first) digits
  behind digit = drop-set digits first digit there ∙ ap (λ k. digit ∷ drop k digits) (add-one first)

  -- the last one of more
  pub next_digit : 0 < first → 10 ≤ rest → decimal 20 n ≡ decimal (suc (first - 1)) (rest / 10) ++ drop (suc (first - 1)) (set digits first (48 + rest % 10))
  next_digit s t =
      let f : first ≡ suc (first - 1) = omega arith in
      subst (λ k. decimal 20 n ≡ decimal k (rest / 10) ++ drop k (set digits first (48 + rest % 10))) f
      (e ∙ ap (λ l. l ++ drop (suc first) digits) (last_of first rest t) ∙ append_assoc (decimal first (rest / 10)) _ _ ∙ ap (λ l. decimal first (rest / 10) ++ l) (sym (behind (48 + rest % 10))))

  -- the only one
  pub first_digit : rest < 10 → drop first (set digits first (48 + rest)) ≡ decimal 20 n
  first_digit t = behind (48 + rest) ∙ sym (e ∙ ap (λ l. l ++ drop (suc first) digits) (only first rest t))

-- a number has no more digits than it may have
pub decimal_length : (most n : ℕ) → length (decimal most n) ≤ most
unfolding decimal
decimal_length zero n = omega arith
decimal_length (suc most) n = digits (ltb n 10) n (decimal most (n / 10)) (decimal_length most (n / 10))
  where
    digits : (b : Bool) (n : ℕ) (front : List ℕ) → length front ≤ most → length (pick b ((48 + n) ∷ []) (front ++ ((48 + n % 10) ∷ []))) ≤ suc most
    digits true n front h = omega arith
    digits false n front h = omega (arith, length-append front ((48 + n % 10) ∷ []))
