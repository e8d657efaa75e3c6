-- The rest, read: three sets, and the rest behind them.
use mathlib.Core.Path.{◌≡◌, sym, ◌∙◌, subst}
use mathlib.Core.Bool.{Bool, true, false}
use mathlib.Core.List.{List}
use Prim.Native.Nat.{ℕ, suc, ◌+◌}
use lib.Dec.{eqb}
use borrow.Author.Tests.{eqb-true, eqb-false}
use lib.IntN.{ℤ}
use lib.ListN.{length}
use Rattle.paper.specs.Walk.{Decoder, test_set, walk_rest}
use Rattle.list_laws.specs.Parts.{part1, part2, part3, part4, after4, part4_is, part4_long, after4_is}
use Rattle.shapes.specs.Shapes.{IsRest}
use Rattle.shapes.proofs.Cuts.{Onward, onward, rest_behind}
use Rattle.shapes.proofs.Walks.{rest_onward}
use Rattle.set_decoder.specs.declared.tape.BitTape.{BitTape}
use Rattle.set_decoder.specs.Walked.{Walked}
use Rattle.set_decoder.proofs.Run.{decoder}
use Rattle.set_decoder.proofs.Set.{SetRead, three_read}

-- the rest is empty, or goes on
pub none_left : (xs : List ℤ) {r : Bool} → r ≡ eqb (length xs) 0 → r ≡ true → length xs ≡ 0
none_left xs e r = eqb-true (length xs) 0 (sym e ∙ r)

pub more_left : {xs : List ℤ} {q : ℕ} {r : Bool} → IsRest xs q → r ≡ eqb (length xs) 0 → r ≡ false → Onward xs q
more_left {xs} {q} K e r = onward xs q K (eqb-false (length xs) 0 (sym e ∙ r))

-- the rest read, whatever its depth
abbrev pub RestRead : ℕ → ℕ → List ℤ → BitTape → List ℤ → BitTape → Type 0
RestRead p q xs s zs t = (K : IsRest xs q) → Walked (walk_rest Decoder p K.d K.left xs) s zs t

pub onward_read : (p : ℕ) (xs : List ℤ) {q : ℕ} {at s t₁ t₂ t₃ t₄ : BitTape} {o : Bool} → Walked (test_set Decoder p xs) at o s → (O : Onward xs q) → o ≡ true
    → (z1 : List ℤ) (k1 : length z1 ≡ length (part1 q xs)) (z2 : List ℤ) (k2 : length z2 ≡ length (part2 q xs z1)) (z3 : List ℤ) (k3 : length z3 ≡ length (part3 q xs z1 z2)) (z4 : List ℤ)
    → SetRead p (part1 q xs) s z1 t₁ → SetRead p (part2 q xs z1) t₁ z2 t₂ → SetRead p (part3 q xs z1 z2) t₂ z3 t₃ → RestRead p (q + q + q + q) (part4 q xs z1 z2 z3) t₃ z4 t₄
    → RestRead p q xs at (after4 q xs z1 z2 z3 z4) t₄
onward_read p xs {q} {at} {t₃ = t₃} {t₄} T O e z1 k1 z2 k2 z3 k3 z4 X₁ X₂ X₃ X₄ K =
    let n = O.cut.three in
    subst (λ l. Walked (walk_rest Decoder p K.d K.left xs) at l t₄) (sym (after4_is q xs n z1 k1 z2 k2 z3 k3 z4))
    (rest_onward decoder p xs T O e (three_read p xs O.cut z1 k1 z2 k2 X₁ X₂ X₃)
    (subst (λ l. Walked (walk_rest Decoder p (suc O.cut.d) O.left l) t₃ z4 t₄) (part4_is q xs n z1 k1 z2 k2 z3 k3) (X₄ (rest_behind O (part4_long q xs n z1 k1 z2 k2 z3 k3)))) K)
