-- The square after some of its lines are turned.
use mathlib.Core.Path.{◌≡◌, refl, sym, ap, ◌∙◌}
use mathlib.Core.Bool.{Bool}
use mathlib.Core.List.{List}
use mathlib.Core.Logic.{◌≢◌}
use Prim.Native.Nat.{ℕ, ◌+◌, ◌-◌, ◌^◌, ◌<◌, ◌≤◌}
use native.Mathlib.Omega.{arith}
use borrow.Author.Count.{below_none, below_more}
use lib.ListN.{length}
use lib.Seq.{ext_get_or}
use lib.IntN.{ℤ, pos}
use Rattle.paper.specs.Lists.{at}
use Rattle.paper.specs.Square.{place_of, line_of, line, along}
use Rattle.square_laws.specs.Grid.{line_of_place, length_line, at_line, length_along, at_along, same_square}
use Rattle.pass.specs.Turns.{Put}

-- the first n lines are changed by f, and the others are as they were
pub record Passed (f : List ℤ → List ℤ) (j : ℕ) (down : Bool) (n : ℕ) (old new : List ℤ) : Type 0 where
  pub size : length new ≡ length old
  pub done : (l : ℕ) → l < n → (i : ℕ) → i < 2 ^ j → at new (place_of j down l i) ≡ at (f (line j down old l)) i
  pub left : (l : ℕ) → n ≤ l → l < 2 ^ j → (i : ℕ) → at new (place_of j down l i) ≡ at old (place_of j down l i)

pub passed_none : (f : List ℤ → List ℤ) (j : ℕ) (down : Bool) (old : List ℤ) → Passed f j down 0 old old
passed_none f j down old = record { size = refl; done = below_none (λ l. (i : ℕ) → i < 2 ^ j → at old (place_of j down l i) ≡ at (f (line j down old l)) i); left = λ l h k i. refl }

-- a line that is not reached yet is as it was
pub passed_line : (f : List ℤ → List ℤ) (j : ℕ) (down : Bool) (n : ℕ) (old new : List ℤ) → n < 2 ^ j → Passed f j down n old new → line j down new n ≡ line j down old n
passed_line f j down n old new h P = ext_get_or (pos 0) _ _ (length_line j down new n ∙ sym (length_line j down old n))
    (λ i b. let k : i < 2 ^ j = omega (arith, length_line j down new n) in at_line j down new n i k ∙ P.left n (omega arith) h i ∙ sym (at_line j down old n i k))

pub passed_more : (f : List ℤ → List ℤ) (j : ℕ) (down : Bool) (n : ℕ) (old mid new : List ℤ) → n < 2 ^ j → Passed f j down n old mid → Put j down n (2 ^ j) (f (line j down mid n)) mid new → Passed f j down (n + 1) old new
passed_more f j down n old mid new h P Q = record {
  size = Q.size ∙ P.size;
  done = below_more (λ l. (i : ℕ) → i < 2 ^ j → at new (place_of j down l i) ≡ at (f (line j down old l)) i) n
      (λ l b i k. other l i (omega arith) (omega arith) ∙ P.done l b i k)
      (λ i k. Q.put i k ∙ ap (λ (v : List ℤ). at (f v) i) (passed_line f j down n old mid h P));
  left = λ l b c i. other l i c (omega arith) ∙ P.left l (omega arith) c i;
}
  where
    other : (l i : ℕ) → l < 2 ^ j → l ≢ n → at new (place_of j down l i) ≡ at mid (place_of j down l i)
    other l i c ne = Q.kept (place_of j down l i) (λ (r : line_of j down (place_of j down l i) ≡ n). ne (sym (line_of_place j down l i c) ∙ r))

pub passed_all : (f : List ℤ → List ℤ) (j : ℕ) (down : Bool) (old new : List ℤ) → length old ≡ 4 ^ j → Passed f j down (2 ^ j) old new → new ≡ along f j down old
passed_all f j down old new e P = same_square j down new _ (P.size ∙ e) (length_along f j down old) (λ l i h k. P.done l h i k ∙ sym (at_along f j down old l i h k))

-- what the working room holds when n lines are done: the last of them, gathered, and changed by f
pub record Last (f : List ℤ → List ℤ) (j : ℕ) (down : Bool) (n : ℕ) (old a b : List ℤ) : Type 0 where
  pub gathered : a ≡ line j down old (n - 1)
  pub turned : b ≡ f (line j down old (n - 1))

pub last_more : (f : List ℤ → List ℤ) (j : ℕ) (down : Bool) (n : ℕ) (old mid a b : List ℤ) → line j down mid n ≡ line j down old n → a ≡ line j down mid n → b ≡ f (line j down mid n) → Last f j down (n + 1) old a b
last_more f j down n old mid a b e p q =
    let r : n + 1 - 1 ≡ n = omega arith in
    record { gathered = rw r (p ∙ e); turned = rw r (q ∙ ap f e) }
