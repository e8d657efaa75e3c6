-- The laws of the scan: T, one number passed, and what is seen at the end.
use mathlib.Core.Path.{◌≡◌, refl, sym, ap, ◌∙◌}
use mathlib.Core.Bool.{Bool, true, false}
use mathlib.Core.List.{List, [], ◌∷◌}
use Prim.Native.Nat.{ℕ, ◌*◌, ◌%◌, ◌^◌, ◌<◌, ◌≤◌}
use native.Mathlib.Nat.{pow-succ', mod-eq_of_lt}
use native.Mathlib.Omega.{arith}
use lib.Dec.{leb}
use lib.Pow.{pow-lt}
use lib.IntN.{ℤ, nat_abs}
use lib.ListN.{length}
use borrow.Author.Tests.{le-leb, lt-leb}
use Rattle.paper.specs.Sizes.{most_planes}
use Rattle.paper.specs.Lists.{pick}
use Rattle.paper.specs.Walk.{reaches}
use Rattle.scan.specs.declared.Seen.TheVariants.{Known, New, Closed}
use Rattle.scan.specs.Seen.{seen_of}

-- T of a plane, and that it and 2T fit
pub power_lt : (p : ℕ) → p < most_planes → 2 ^ p < 2 ^ most_planes
power_lt p h = pow-lt h

pub threshold_shifted : (p : ℕ) → p < most_planes → 1 * 2 ^ p % 2 ^ 32 ≡ 2 ^ p
threshold_shifted p h = let k : 1 * 2 ^ p < 2 ^ 32 = omega (arith, power_lt p h) in mod-eq_of_lt k ∙ omega arith

-- what is known before the numbers `rest`: `any` says whether a number passed is t or more
pub record Passed (t : ℕ) (xs : List ℤ) (any : Bool) (rest : List ℤ) : Type 0 where
  pub so : reaches t xs ≡ pick any true (reaches t rest)

pub none_passed : (t : ℕ) (xs : List ℤ) → Passed t xs false xs
none_passed t xs = record { so = refl }

-- one number passed: it is t or more, or what reaches t comes later
module _ (t m : ℕ) (xs : List ℤ) (any : Bool) {x : ℤ} {rest later : List ℤ} (e : rest ≡ x ∷ later) (is_m : m ≡ nat_abs x) (P : Passed t xs any rest) where
  passed : (b : Bool) → leb t (nat_abs x) ≡ b → reaches t (x ∷ later) ≡ pick b true (reaches t later)
  unfolding reaches
  passed b f = go (leb t (nat_abs x)) ∙ ap (λ b. pick b true (reaches t later)) f
    where
      go : (b : Bool) → ◌≡◌ {A = Bool} (elim b [ true ↦ true | false ↦ reaches t later ]) (pick b true (reaches t later))
      go true = refl
      go false = refl

  step : (b : Bool) → leb t (nat_abs x) ≡ b → reaches t xs ≡ pick any true (pick b true (reaches t later))
  step b f = P.so ∙ ap (pick any true) (ap (reaches t) e ∙ passed b f)

  any_true : (b : Bool) → pick b true true ≡ true
  any_true true = refl
  any_true false = refl

  pub found_reaches : t ≤ m → reaches t xs ≡ true
  found_reaches k = step true (le-leb t (nat_abs x) (omega arith)) ∙ any_true any

  pub pass_yes : t ≤ m → Passed t xs true later
  pass_yes k = record { so = found_reaches k }

  pub pass_no : m < t → Passed t xs any later
  pass_no k = record { so = step false (lt-leb t (nat_abs x) (omega arith)) }

pub all_passed : (t : ℕ) (xs : List ℤ) (any : Bool) (rest : List ℤ) → length rest ≡ 0 → Passed t xs any rest → reaches t xs ≡ any
unfolding reaches
all_passed t xs any [] h P = P.so ∙ any_false any
  where
    any_false : (b : Bool) → pick b true false ≡ b
    any_false true = refl
    any_false false = refl
all_passed t xs any (x ∷ rest) h P = absurd (omega arith)

-- what is seen, if T is t
pub seen_is : (p t : ℕ) (xs : List ℤ) (known new : Bool) → t ≡ 2 ^ p → reaches (2 * t) xs ≡ known → reaches t xs ≡ new → pick known Known (pick new New Closed) ≡ seen_of p xs
unfolding seen_of
seen_is p t xs known new e f g =
    (λ i. pick (sym f i) Known (pick (sym g i) New Closed)) ∙ (λ i. pick (reaches ((ap (λ k. 2 * k) e ∙ sym (pow-succ' 2 p)) i) xs) Known (pick (reaches (e i) xs) New Closed))
