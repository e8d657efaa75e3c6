-- A list of 2 h numbers is h pairs: by halves, pair i stands at i and h + i; by turns, at 2 i and 2 i + 1.
use mathlib.Core.Path.{◌≡◌, ◌∙◌}
use mathlib.Core.List.{List}
use mathlib.Core.Logic.{◌≢◌}
use Prim.Native.Nat.{ℕ, ◌+◌, ◌*◌, ◌-◌, ◌/◌, ◌%◌, ◌<◌}
use native.Mathlib.Omega.{arith}
use native.Mathlib.Decide.{dec_lt}
use borrow.Author.Count.{below_none, below_more}
use lib.ListN.{length, set, length-set}
use lib.Seq.{get_or-set_same, get_or-set_other}
use lib.IntN.{ℤ, pos}
use Rattle.paper.specs.Lists.{at}

-- what holds of both numbers of each pair holds everywhere
pub by_halves : (P : ℕ → Type 0) (h : ℕ) → ((i : ℕ) → i < h → P i) → ((i : ℕ) → i < h → P (h + i)) → (z : ℕ) → z < 2 * h → P z
by_halves P h F G z l = go (dec_lt z h)
  where
    go : Dec (z < h) → P z
    go (yes k) = F z k
    go (no k) =
        let e : h + (z - h) ≡ z = omega arith in
        rw e at (G (z - h) (omega arith))

pub by_turns : (P : ℕ → Type 0) (h : ℕ) → ((i : ℕ) → i < h → P (2 * i)) → ((i : ℕ) → i < h → P (2 * i + 1)) → (z : ℕ) → z < 2 * h → P z
by_turns P h F G z l = go (dec_lt (z % 2) 1)
  where
    go : Dec (z % 2 < 1) → P z
    go (yes k) =
        let e : 2 * (z / 2) ≡ z = omega arith in
        rw e at (F (z / 2) (omega arith))
    go (no k) =
        let e : 2 * (z / 2) + 1 ≡ z = omega arith in
        rw e at (G (z / 2) (omega arith))

-- the first n pairs, at p i and q i, are f i and g i
pub record Paired (p q : ℕ → ℕ) (f g : ℕ → ℤ) (n : ℕ) (out : List ℤ) : Type 0 where
  pub first : (i : ℕ) → i < n → at out (p i) ≡ f i
  pub second : (i : ℕ) → i < n → at out (q i) ≡ g i

pub paired_none : (p q : ℕ → ℕ) (f g : ℕ → ℤ) (out : List ℤ) → Paired p q f g 0 out
paired_none p q f g out = record { first = below_none (λ i. at out (p i) ≡ f i); second = below_none (λ i. at out (q i) ≡ g i) }

-- pair n stands apart from those before it, and is within the list
pub record Free (p q : ℕ → ℕ) (n m : ℕ) : Type 0 where
  pub first_in : p n < m
  pub second_in : q n < m
  pub twins : p n ≢ q n
  pub firsts : (i : ℕ) → i < n → (p i ≢ p n) × (p i ≢ q n)
  pub seconds : (i : ℕ) → i < n → (q i ≢ p n) × (q i ≢ q n)

pub paired_more : (p q : ℕ → ℕ) (f g : ℕ → ℤ) (n : ℕ) (out : List ℤ) (v w : ℤ) → Free p q n (length out) → Paired p q f g n out → v ≡ f n → w ≡ g n
    → Paired p q f g (n + 1) (set (set out (p n) v) (q n) w)
paired_more p q f g n out v w A P a b = record {
  first = below_more (λ i. at new (p i) ≡ f i) n
      (λ i l. get_or-set_other once (q n) (p i) w (pos 0) (A.firsts i l).1 ∙ get_or-set_other out (p n) (p i) v (pos 0) (A.firsts i l).0 ∙ P.first i l)
      (get_or-set_other once (q n) (p n) w (pos 0) A.twins ∙ get_or-set_same out (p n) v (pos 0) A.first_in ∙ a);
  second = below_more (λ i. at new (q i) ≡ g i) n
      (λ i l. get_or-set_other once (q n) (q i) w (pos 0) (A.seconds i l).1 ∙ get_or-set_other out (p n) (q i) v (pos 0) (A.seconds i l).0 ∙ P.second i l)
      (get_or-set_same once (q n) w (pos 0) (omega (arith, length-set out (p n) v, A.second_in)) ∙ b);
}
  where
    once : List ℤ
    once = set out (p n) v

    new : List ℤ
    new = set once (q n) w

pub free_halves : (h n m : ℕ) → n < h → m ≡ 2 * h → Free (λ i. i) (λ i. h + i) n m
free_halves h n m l e = record {
  first_in = omega arith;
  second_in = omega arith;
  twins = λ r. omega arith;
  firsts = λ i k. ((λ r. omega arith), (λ r. omega arith));
  seconds = λ i k. ((λ r. omega arith), (λ r. omega arith));
}

pub free_turns : (h n m : ℕ) → n < h → m ≡ 2 * h → Free (λ i. 2 * i) (λ i. 2 * i + 1) n m
free_turns h n m l e = record {
  first_in = omega arith;
  second_in = omega arith;
  twins = λ r. omega arith;
  firsts = λ i k. ((λ r. omega arith), (λ r. omega arith));
  seconds = λ i k. ((λ r. omega arith), (λ r. omega arith));
}
