-- Three sets of length q, and a set in its quarters, coded.
use mathlib.Core.Path.{◌≡◌, refl, subst}
use mathlib.Core.Bool.{Bool, true}
use mathlib.Core.List.{List}
use Prim.Native.Nat.{ℕ, ◌+◌, ◌/◌}
use lib.IntN.{ℤ}
use lib.ListN.{length, take}
use Rattle.paper.specs.Walk.{Coder, test_set, walk_set}
use Rattle.list_laws.specs.Parts.{cut, from, second, third, cut2_is, cut3_is, cut4_is, cut2_long, cut3_long, cut4_long, joined_again}
use Rattle.bits.specs.declared.BitSink.{BitSink}
use Rattle.shapes.specs.Shapes.{IsSet}
use Rattle.shapes.proofs.Cuts.{Cut, Quarters, first_part, part_set, last_quarter}
use Rattle.shapes.proofs.Walks.{Three, set_quarters}
use Rattle.set_coder.specs.Coded.{Coded}
use Rattle.set_coder.proofs.Run.{coder}

-- a set coded, whatever its depth
abbrev pub SetCoded : ℕ → List ℤ → BitSink → BitSink → Type 0
SetCoded p xs s t = (S : IsSet xs) → Coded (walk_set Coder p S.d xs) s xs t

module _ (p : ℕ) {xs : List ℤ} {q : ℕ} (C : Cut xs q) where
  -- a part, as the walk has it
  pub part_coded : {part x : List ℤ} {s t : BitSink} → part ≡ x → length part ≡ q → SetCoded p part s t → Coded (walk_set Coder p C.d x) s x t
  part_coded {part} {x} {s} {t} e n X = subst (λ l. Coded (walk_set Coder p C.d l) s l t) e (X (part_set C n))

  pub three_coded : {s t₁ t₂ t₃ : BitSink} → SetCoded p (take q xs) s t₁ → SetCoded p (cut q (q + q) xs) t₁ t₂ → SetCoded p (cut (q + q) (q + q + q) xs) t₂ t₃
      → Three coder p C.d q xs s (take q xs) t₁ (second q xs) t₂ (third q xs) t₃
  three_coded X₁ X₂ X₃ = record {
    one = part_coded refl (first_part C) X₁;
    two = part_coded (cut2_is q xs C.three) (cut2_long q xs C.three) X₂;
    three = part_coded (cut3_is q xs C.three) (cut3_long q xs C.three) X₃;
  }

pub quarters_coded : (p : ℕ) (xs : List ℤ) {s t t₁ t₂ t₃ t₄ : BitSink} {o : Bool} → Coded (test_set Coder p xs) s o t → (Q : Quarters xs) → o ≡ true
    → SetCoded p (take (length xs / 4) xs) t t₁ → SetCoded p (cut (length xs / 4) (length xs / 4 + length xs / 4) xs) t₁ t₂
    → SetCoded p (cut (length xs / 4 + length xs / 4) (length xs / 4 + length xs / 4 + length xs / 4) xs) t₂ t₃ → SetCoded p (from (length xs / 4 + length xs / 4 + length xs / 4) xs) t₃ t₄
    → SetCoded p xs s t₄
quarters_coded p xs {s} {t₄ = t₄} T Q e X₁ X₂ X₃ X₄ S =
    let q = length xs / 4 in
    let C = Q.cut in
    subst (λ l. Coded (walk_set Coder p S.d xs) s l t₄) (joined_again q xs C.three)
    (set_quarters coder p xs T Q e (three_coded p C X₁ X₂ X₃) (part_coded p C (cut4_is q xs C.three) (last_quarter Q _ (cut4_long q xs C.three)) X₄) S)
