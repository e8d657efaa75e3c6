-- Numbers in order, coded: what holds before each number.
use mathlib.Core.Path.{◌≡◌, sym, subst, ◌∙◌}
use mathlib.Core.List.{List, [], ◌∷◌}
use Prim.Native.Nat.{ℕ, ◌+◌, ◌<◌, ◌≤◌}
use native.Mathlib.Numerals.{add-one}
use lib.IntN.{ℤ, pos}
use lib.ListN.{length, drop, drop_of_length-le}
use lib.Seq.{drop-cons}
use Rattle.paper.specs.Lists.{at}
use Rattle.paper.specs.Walk.{Coder, walk_number, walk_numbers}
use Rattle.bits.specs.declared.BitSink.{BitSink}
use Rattle.shapes.proofs.Walks.{number_then}
use Rattle.set_coder.specs.Coded.{Coded}
use Rattle.set_coder.proofs.Run.{coder, done}

-- before number i: what is coded from here on is coded from the start
pub record Before (p : ℕ) (xs : List ℤ) (start : BitSink) (i : ℕ) (here : BitSink) : Type 0 where
  pub onward : {t : BitSink} → Coded (walk_numbers Coder p (drop i xs)) here (drop i xs) t → Coded (walk_numbers Coder p xs) start xs t

pub before_first : (p : ℕ) (xs : List ℤ) (s : BitSink) → Before p xs s 0 s
before_first p xs s = record { onward = λ X. X }

module _ {p : ℕ} {xs : List ℤ} {start : BitSink} {i : ℕ} {here : BitSink} (B : Before p xs start i here) where
  pub before_next : {there : BitSink} → i < length xs → Coded (walk_number Coder p (at xs i)) here (at xs i ∷ []) there → Before p xs start (i + 1) there
  before_next {there} h X = record {
    onward = λ {t} Y.
        let e : at xs i ∷ drop (i + 1) xs ≡ drop i xs = (λ k. at xs i ∷ drop (add-one i k) xs) ∙ sym (drop-cons xs i (pos 0) h) in
        B.onward (subst (λ l. Coded (walk_numbers Coder p l) here l t) e (number_then coder p (at xs i) (drop (i + 1) xs) X Y));
  }

  pub none_left : length xs ≤ i → Coded (walk_numbers Coder p xs) start xs here
  unfolding walk_numbers
  none_left h = let e = drop_of_length-le xs h in B.onward (subst (λ l. Coded (walk_numbers Coder p l) here l here) (sym e) (done here []))
