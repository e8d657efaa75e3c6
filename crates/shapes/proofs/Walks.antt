-- The walk over each shape, for any reading R and any way to run it: what a run of the parts makes of the whole.
-- Both the coder and the decoder are such runs.
use mathlib.Core.Path.{◌≡◌, refl, sym, ap, ◌∙◌, subst}
use mathlib.Core.Bool.{Bool, true, false}
use mathlib.Core.List.{List, [], ◌∷◌, ◌++◌}
use Prim.Native.Nat.{ℕ, zero, suc, ◌/◌, ◌^◌, ◌≤◌}
use native.Mathlib.Omega.{arith}
use lib.IntN.{ℤ}
use lib.ListN.{length, take, drop}
use Rattle.paper.specs.Walk.{Reading, test_set, walk_number, walk_numbers, ◌next◌, walk_set, walk_rest, walk_plane, walk_planes}
use Rattle.list_laws.specs.Parts.{second, third, fourth}
use Rattle.walk_laws.specs.Asks.{opened}
use Rattle.shapes.specs.Shapes.{IsSet, IsRest, IsSquare}
use Rattle.shapes.proofs.Cuts.{Cut, part_set, Quarters, Onward, four_depth, quarters_depth, onward_depth, none_depth}

-- ---- the walk, by shape
module _ (R : Reading) (p : ℕ) where
  -- a test and, if it is open, m
  abbrev tested : List ℤ → R.M (List ℤ) → R.M (List ℤ)
  tested xs m = R.then (test_set R p xs) (opened R xs m)

  -- three sets of length q, then `last` of what lies behind them
  abbrev pub three_then : ℕ → ℕ → (List ℤ → R.M (List ℤ)) → List ℤ → R.M (List ℤ)
  three_then d q last xs = ◌next◌ R (walk_set R p d (take q xs)) (◌next◌ R (walk_set R p d (second q xs)) (◌next◌ R (walk_set R p d (third q xs)) (last (fourth q xs))))

  -- what a set's test opens
  unfoldable inside : ℕ → List ℤ → R.M (List ℤ)
  inside zero xs = walk_numbers R p xs
  inside (suc d) xs = three_then d (4 ^ suc d) (walk_set R p d) xs

  set_is : (d : ℕ) (xs : List ℤ) → walk_set R p d xs ≡ tested xs (inside d xs)
  unfolding walk_set inside
  set_is zero xs = refl
  set_is (suc d) xs = refl

  four_is : {xs : List ℤ} (S : IsSet xs) → length xs ≡ 4 → walk_set R p S.d xs ≡ tested xs (walk_numbers R p xs)
  unfolding inside
  four_is {xs} S n = set_is S.d xs ∙ ap (λ d. tested xs (inside d xs)) (four_depth S n)

  quarters_is : {xs : List ℤ} (Q : Quarters xs) (S : IsSet xs) → walk_set R p S.d xs ≡ tested xs (three_then Q.cut.d (length xs / 4) (walk_set R p Q.cut.d) xs)
  unfolding inside
  quarters_is {xs} Q S =
      let d = Q.cut.d in
      set_is S.d xs ∙ ap (λ d. tested xs (inside d xs)) (quarters_depth Q S) ∙ ap (λ q. tested xs (three_then d q (walk_set R p d) xs)) (sym Q.cut.is)

  none_is : {xs : List ℤ} {q : ℕ} (K : IsRest xs q) → length xs ≡ 0 → walk_rest R p K.d K.left xs ≡ R.done xs
  unfolding walk_rest
  none_is {xs} K n = ap (λ left. walk_rest R p K.d left xs) (none_depth K n)

  onward_is : {xs : List ℤ} {q : ℕ} (O : Onward xs q) (K : IsRest xs q)
      → walk_rest R p K.d K.left xs ≡ tested xs (three_then O.cut.d q (walk_rest R p (suc O.cut.d) O.left) xs)
  unfolding walk_rest
  onward_is {xs} {q} O K =
      let d = O.cut.d in
      let e = onward_depth O K in
      (λ i. walk_rest R p (e.0 i) (e.1 i) xs) ∙ ap (λ q. tested xs (three_then d q (walk_rest R p (suc d) O.left) xs)) (sym O.cut.is)

  square_is : {xs : List ℤ} {q : ℕ} (K : IsSquare xs q) → walk_plane R K.d K.L p xs ≡ ◌next◌ R (walk_set R p K.d (take q xs)) (walk_rest R p K.d K.L (drop q xs))
  unfolding walk_plane
  square_is {xs} K = ap (λ q. ◌next◌ R (walk_set R p K.d (take q xs)) (walk_rest R p K.d K.L (drop q xs))) (sym K.is)

-- ---- running it
-- `Ran m s a t`: from the state s on, m answers a and leaves off at t
pub record Running (R : Reading) (St : Type 0) : Type 1 where
  pub Ran : {A : Type 0} → R.M A → St → A → St → Type 0
  pub still : {A B : Type 0} {m : R.M A} {s t : St} {a : A} → Ran m s a t → (b : B) → Ran (R.done b) t b t
  pub on : {A B : Type 0} {m : R.M A} {s t u : St} {a : A} {b : B} (f : A → R.M B) → Ran m s a t → Ran (f a) t b u → Ran (R.then m f) s b u

module _ {R : Reading} {St : Type 0} (W : Running R St) where
  abbrev Ran : {A : Type 0} → R.M A → St → A → St → Type 0
  Ran m s a t = W.Ran m s a t

  both : {m n : R.M (List ℤ)} {s t u : St} {a b : List ℤ} → Ran m s a t → Ran n t b u → Ran (◌next◌ R m n) s (a ++ b) u
  unfolding ◌next◌
  both {a = a} {b} X Y = W.on _ X (W.on _ Y (W.still Y (a ++ b)))

  -- one number, and then those behind it
  pub number_then : (p : ℕ) (x : ℤ) (xs : List ℤ) {s t u : St} {y : ℤ} {ys : List ℤ} → Ran (walk_number R p x) s (y ∷ []) t → Ran (walk_numbers R p xs) t ys u → Ran (walk_numbers R p (x ∷ xs)) s (y ∷ ys) u
  unfolding walk_numbers
  number_then p x xs X Y = both X Y

  -- a part that is a set, as the walk has it
  pub part_ran : (p : ℕ) {xs : List ℤ} {q : ℕ} (C : Cut xs q) {part x z : List ℤ} {s t : St} → part ≡ x → length part ≡ q → ((S : IsSet part) → Ran (walk_set R p S.d part) s z t) → Ran (walk_set R p C.d x) s z t
  part_ran p C {z = z} {s} {t} e n X = subst (λ l. Ran (walk_set R p C.d l) s z t) e (X (part_set C n))

  -- the three sets before what lies behind them
  pub record Three (p d q : ℕ) (xs : List ℤ) (s : St) (z₁ : List ℤ) (t₁ : St) (z₂ : List ℤ) (t₂ : St) (z₃ : List ℤ) (t₃ : St) : Type 0 where
    pub one : Ran (walk_set R p d (take q xs)) s z₁ t₁
    pub two : Ran (walk_set R p d (second q xs)) t₁ z₂ t₂
    pub three : Ran (walk_set R p d (third q xs)) t₂ z₃ t₃

  module _ (p : ℕ) (xs : List ℤ) {s t : St} {o : Bool} (T : Ran (test_set R p xs) s o t) where
    shut : (m : R.M (List ℤ)) → o ≡ false → Ran (tested R p xs m) s xs t
    shut m e = W.on (opened R xs m) T (subst (λ o. Ran (opened R xs m o) t xs t) (sym e) (W.still T xs))

    wide : {m : R.M (List ℤ)} {zs : List ℤ} {u : St} → o ≡ true → Ran m t zs u → Ran (tested R p xs m) s zs u
    wide {m} {zs} {u} e X = W.on (opened R xs m) T (subst (λ o. Ran (opened R xs m o) t zs u) (sym e) X)

    -- a set
    pub set_closed : o ≡ false → (S : IsSet xs) → Ran (walk_set R p S.d xs) s xs t
    set_closed e S = subst (λ m. Ran m s xs t) (sym (set_is R p S.d xs)) (shut (inside R p S.d xs) e)

    pub set_four : {zs : List ℤ} {u : St} → o ≡ true → length xs ≡ 4 → Ran (walk_numbers R p xs) t zs u → (S : IsSet xs) → Ran (walk_set R p S.d xs) s zs u
    set_four {zs} {u} e n X S = subst (λ m. Ran m s zs u) (sym (four_is R p S n)) (wide e X)

    pub set_quarters : (Q : Quarters xs) {z₁ z₂ z₃ z₄ : List ℤ} {t₁ t₂ t₃ t₄ : St} → o ≡ true → Three p Q.cut.d (length xs / 4) xs t z₁ t₁ z₂ t₂ z₃ t₃ → Ran (walk_set R p Q.cut.d (fourth (length xs / 4) xs)) t₃ z₄ t₄
        → (S : IsSet xs) → Ran (walk_set R p S.d xs) s (z₁ ++ (z₂ ++ (z₃ ++ z₄))) t₄
    set_quarters Q {z₁} {z₂} {z₃} {z₄} {t₄ = t₄} e X Y S = subst (λ m. Ran m s (z₁ ++ (z₂ ++ (z₃ ++ z₄))) t₄) (sym (quarters_is R p Q S)) (wide e (both X.one (both X.two (both X.three Y))))

    -- the rest
    pub rest_closed : {q : ℕ} → Onward xs q → o ≡ false → (K : IsRest xs q) → Ran (walk_rest R p K.d K.left xs) s xs t
    rest_closed O e K = subst (λ m. Ran m s xs t) (sym (onward_is R p O K)) (shut _ e)

    pub rest_onward : {q : ℕ} (O : Onward xs q) {z₁ z₂ z₃ z₄ : List ℤ} {t₁ t₂ t₃ t₄ : St} → o ≡ true → Three p O.cut.d q xs t z₁ t₁ z₂ t₂ z₃ t₃ → Ran (walk_rest R p (suc O.cut.d) O.left (fourth q xs)) t₃ z₄ t₄
        → (K : IsRest xs q) → Ran (walk_rest R p K.d K.left xs) s (z₁ ++ (z₂ ++ (z₃ ++ z₄))) t₄
    rest_onward O {z₁} {z₂} {z₃} {z₄} {t₄ = t₄} e X Y K = subst (λ m. Ran m s (z₁ ++ (z₂ ++ (z₃ ++ z₄))) t₄) (sym (onward_is R p O K)) (wide e (both X.one (both X.two (both X.three Y))))

  pub rest_none : (p : ℕ) {q : ℕ} (xs : List ℤ) {s : St} → Ran (R.done xs) s xs s → length xs ≡ 0 → (K : IsRest xs q) → Ran (walk_rest R p K.d K.left xs) s xs s
  rest_none p xs {s} X n K = subst (λ m. Ran m s xs s) (sym (none_is R p K n)) X

  -- a plane
  pub plane_ran : (p : ℕ) {q : ℕ} (xs : List ℤ) {z₁ z₂ : List ℤ} {s t u : St} (K : IsSquare xs q) → Ran (walk_set R p K.d (take q xs)) s z₁ t → Ran (walk_rest R p K.d K.L (drop q xs)) t z₂ u → Ran (walk_plane R K.d K.L p xs) s (z₁ ++ z₂) u
  plane_ran p xs {z₁} {z₂} {s} {u = u} K X Y = subst (λ m. Ran m s (z₁ ++ z₂) u) (sym (square_is R p K)) (both X Y)

  -- planes p down to 0: none is left, one is walked and then the others, or a bit of it was missed
  module _ (d L p : ℕ) (xs : List ℤ) {s : St} where
    pub planes_none : Ran {A = List ℤ × ℕ} (R.done (xs, 0)) s (xs, 0) s → p ≤ 0 → Ran (walk_planes R d L p xs) s (xs, 0) s
    unfolding walk_planes
    planes_none X h = subst (λ n. Ran (walk_planes R d L n xs) s (xs, 0) s) (let z : 0 ≡ p = omega arith in z) X

    module _ {ys : List ℤ} {t u : St} {o : Bool} (X : Ran (walk_plane R d L p xs) s ys t) (M : Ran R.missed t o u) where
      -- what follows the plane
      abbrev then_plane_lem : Bool → R.M (List ℤ × ℕ)
      then_plane_lem o = elim o as (λ _. R.M (List ℤ × ℕ)) [ true ↦ R.done (ys, suc p) | false ↦ walk_planes R d L p ys ]

      after : {v : List ℤ × ℕ} {w : St} → Ran (then_plane_lem o) u v w → Ran (walk_planes R d L (suc p) xs) s v w
      unfolding walk_planes
      after Y = W.on _ X (W.on _ M Y)

      pub planes_next : {v : List ℤ × ℕ} {w : St} → o ≡ false → Ran (walk_planes R d L p ys) u v w → Ran (walk_planes R d L (suc p) xs) s v w
      planes_next {v} {w} e Y = after (subst (λ o. Ran (then_plane_lem o) u v w) (sym e) Y)

      pub planes_missed : o ≡ true → Ran (walk_planes R d L (suc p) xs) s (ys, suc p) u
      planes_missed e = after (subst (λ o. Ran (then_plane_lem o) u (ys, suc p) u) (sym e) (W.still M (ys, suc p)))
