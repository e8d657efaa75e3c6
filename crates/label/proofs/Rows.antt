-- Rows judged one after the other give the first that applies; if they stand lowest number first, the lowest.
use mathlib.Core.Path.{◌≡◌, refl, sym, ap, ◌∙◌, subst}
use mathlib.Core.Bool.{Bool, true, false, ◌&&◌}
use mathlib.Core.List.Memᴰ
use mathlib.Core.List.{List, [], ◌∷◌, Memᴰ}
use mathlib.Core.Logic.{⊎_elim}
use Prim.Native.Nat.{ℕ, zero, suc, ◌<◌}
use native.Mathlib.Omega.{arith}
use lib.Dec.{ltb}
use borrow.Author.Tests.{ltb-true}
use Rattle.sizes.proofs.Ranges.{both_first, both_second}
use Rattle.sizes.proofs.Refusals.{refusal_is}
use Rattle.paper.specs.Sizes.{unless, judged}
use Rattle.label.specs.Table.{Row, Lowest, First, leaves_something, Refuses}

-- the first row that applies
abbrev pub first : List Row → ℕ
first [] = 0
first (w ∷ rows) = unless w.number w.holds (first rows)

-- numbers above m, each above the one before
abbrev pub rising : ℕ → List Row → Bool
rising m [] = true
rising m (w ∷ rows) = ltb m w.number && rising w.number rows

above : (m : ℕ) (w : Row) (rows : List Row) → rising m (w ∷ rows) ≡ true → m < w.number
above m w rows h = ltb-true m w.number (both_first (ltb m w.number) (rising w.number rows) h)

later : (m : ℕ) (w : Row) (rows : List Row) → rising m (w ∷ rows) ≡ true → rising w.number rows ≡ true
later m w rows h = both_second (ltb m w.number) (rising w.number rows) h

more : (m : ℕ) (rows : List Row) → rising m rows ≡ true → {w : Row} → Memᴰ w rows → m < w.number
more m [] h i = absurd (Memᴰ.not-nil i)
more m (v ∷ rows) h {w} i = ⊎_elim (λ (e : w ≡ v). subst (λ (u : Row). m < u.number) (sym e) (above m v rows h)) (λ j. let a = more v.number rows (later m v rows h) j in omega (arith, a, above m v rows h)) (Memᴰ.cases_cons i)

-- the law
pub lowest : (m : ℕ) (rows : List Row) → rising m rows ≡ true → Lowest rows (first rows)
lowest m [] h = record {
  none = λ e i. absurd (Memᴰ.not-nil i);
  least = λ i a. absurd (Memᴰ.not-nil i);
  applies = λ (p : 0 < 0). absurd (let z : 0 < 0 = p in omega arith);
}
lowest m (v ∷ rows) h = go v.holds refl (lowest v.number rows (later m v rows h))
  where
    clash : {X : Type 0} {b : Bool} → b ≡ true → b ≡ false → X
    clash p q = absurd (let z : ◌≡◌ {A = ℕ} 0 1 = cc in omega arith)

    go : (b : Bool) → v.holds ≡ b → Lowest rows (first rows) → Lowest (v ∷ rows) (unless v.number b (first rows))
    go false e R = record {
      none = λ (z : v.number ≡ 0). absurd (omega (arith, above m v rows h));
      least = λ {w} i a. ⊎_elim
          (λ (q : w ≡ v). let z : w.number ≡ v.number = ap (λ (u : Row). u.number) q in (omega (arith, above m v rows h), omega arith))
          (λ j. let z = more v.number rows (later m v rows h) j in (omega (arith, above m v rows h), omega (arith, z)))
          (Memᴰ.cases_cons i);
      applies = λ p. (v, Memᴰ.head refl, e, refl);
    }
    go true e R = record {
      none = λ z {w} i. ⊎_elim (λ (q : w ≡ v). ap (λ (u : Row). u.holds) q ∙ e) (λ j. R.none z j) (Memᴰ.cases_cons i);
      least = λ {w} i a. ⊎_elim (λ (q : w ≡ v). clash (ap (λ (u : Row). u.holds) q ∙ e) a) (λ j. R.least j a) (Memᴰ.cases_cons i);
      applies = λ p. let f = R.applies p in (f.0, Memᴰ.tail f.1, f.2, f.3);
    }

-- numbers above 0
abbrev pub numbered : List Row → Bool
numbered [] = true
numbered (w ∷ rows) = ltb 0 w.number && numbered rows

pub first_applies : (rows : List Row) → numbered rows ≡ true → First rows (first rows)
first_applies [] h = record {
  none = λ e i. absurd (Memᴰ.not-nil i);
  applies = λ (p : 0 < 0). absurd (let z : 0 < 0 = p in omega arith);
}
first_applies (v ∷ rows) h = go v.holds refl (first_applies rows (both_second (ltb 0 v.number) (numbered rows) h))
  where
    go : (b : Bool) → v.holds ≡ b → First rows (first rows) → First (v ∷ rows) (unless v.number b (first rows))
    go false e R = record {
      none = λ (z : v.number ≡ 0). absurd (omega (arith, ltb-true 0 v.number (both_first (ltb 0 v.number) (numbered rows) h)));
      applies = λ p. ([], v, rows, refl, (λ w i. absurd (Memᴰ.not-nil i)), e, refl);
    }
    go true e R = record {
      none = λ z {w} i. ⊎_elim (λ (q : w ≡ v). ap (λ (u : Row). u.holds) q ∙ e) (λ j. R.none z j) (Memᴰ.cases_cons i);
      applies = λ p. let f = R.applies p in (v ∷ f.0, f.1, f.2, ap (λ (l : List Row). v ∷ l) f.3, (λ w i. ⊎_elim (λ (q : w ≡ v). ap (λ (u : Row). u.holds) q ∙ e) (λ j. f.4 w j) (Memᴰ.cases_cons i)), f.5, f.6);
    }

-- ---- a job that is judged by its rows: `left` is what its definition says of a refusal, which may leave something behind
-- where the number is one that does
module _ {A : Type 0} (refusalOf : A → ℕ) (rows : List Row) (left refused : ℕ → A) (done : A) (kept : (r : ℕ) → leaves_something r ≡ false → left r ≡ refused r) (says : (r : ℕ) → refusalOf (left r) ≡ r) (fine : refusalOf done ≡ 0) where
  answered : (r : ℕ) → refusalOf (judged r left done) ≡ r
  answered r = refusal_is refusalOf r left done says fine

  unchanged : (r : ℕ) → 0 < r → leaves_something r ≡ false → judged r left done ≡ refused r
  unchanged zero h l = absurd (omega arith)
  unchanged (suc r) h l = kept (suc r) l

  pub judged_refuses : (Judged : List Row → ℕ → Type 0) (r : ℕ) → r ≡ first rows → Judged rows (first rows) → Refuses Judged refusalOf rows (judged r left done) refused
  judged_refuses Judged r e h = record {
    number = subst (Judged rows) (sym (answered r ∙ e)) h;
    unchanged = subst (λ q. 0 < q → leaves_something q ≡ false → judged r left done ≡ refused q) (sym (answered r)) (unchanged r);
  }
