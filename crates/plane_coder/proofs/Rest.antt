-- The rest, coded: three sets, and the rest behind them.
use mathlib.Core.Path.{◌≡◌, sym, subst, ◌∙◌}
use mathlib.Core.Bool.{Bool, true, false}
use mathlib.Core.List.{List}
use Prim.Native.Nat.{ℕ, suc, ◌+◌}
use lib.Dec.{eqb}
use lib.IntN.{ℤ}
use lib.ListN.{length, take}
use borrow.Author.Tests.{eqb-false}
use Rattle.paper.specs.Walk.{Coder, test_set, walk_rest}
use Rattle.list_laws.specs.Parts.{cut, from, cut4_is, cut4_long, joined_again}
use Rattle.bits.specs.declared.BitSink.{BitSink}
use Rattle.shapes.specs.Shapes.{IsRest}
use Rattle.shapes.proofs.Cuts.{Onward, onward, rest_behind}
use Rattle.shapes.proofs.Walks.{rest_onward}
use Rattle.set_coder.specs.Coded.{Coded}
use Rattle.set_coder.proofs.Run.{coder}
use Rattle.set_coder.proofs.Set.{SetCoded, three_coded}

-- a rest that is not empty goes on
pub onward_some : {xs : List ℤ} {q : ℕ} {empty : Bool} → IsRest xs q → empty ≡ eqb (length xs) 0 → empty ≡ false → Onward xs q
onward_some {xs} {q} K e n = onward xs q K (eqb-false (length xs) 0 (sym e ∙ n))

-- the rest coded, whatever its depth
abbrev pub RestCoded : ℕ → ℕ → List ℤ → BitSink → BitSink → Type 0
RestCoded p q xs s t = (K : IsRest xs q) → Coded (walk_rest Coder p K.d K.left xs) s xs t

pub onward_coded : (p : ℕ) (xs : List ℤ) {q : ℕ} {s t t₁ t₂ t₃ t₄ : BitSink} {o : Bool} → Coded (test_set Coder p xs) s o t → (O : Onward xs q) → o ≡ true
    → SetCoded p (take q xs) t t₁ → SetCoded p (cut q (q + q) xs) t₁ t₂ → SetCoded p (cut (q + q) (q + q + q) xs) t₂ t₃ → RestCoded p (q + q + q + q) (from (q + q + q) xs) t₃ t₄
    → RestCoded p q xs s t₄
onward_coded p xs {q} {s} {t₃ = t₃} {t₄} T O e X₁ X₂ X₃ X₄ K =
    let C = O.cut in
    subst (λ l. Coded (walk_rest Coder p K.d K.left xs) s l t₄) (joined_again q xs C.three)
    (rest_onward coder p xs T O e (three_coded p C X₁ X₂ X₃)
    (subst (λ l. Coded (walk_rest Coder p (suc C.d) O.left l) t₃ l t₄) (cut4_is q xs C.three) (X₄ (rest_behind O (cut4_long q xs C.three)))) K)
