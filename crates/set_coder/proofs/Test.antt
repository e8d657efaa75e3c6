-- What a test says, as the code puts it.
use mathlib.Core.Path.{◌≡◌, refl, sym, ap, ◌∙◌}
use mathlib.Core.Bool.{Bool, true, false}
use mathlib.Core.List.{List, [], ◌∷◌}
use Prim.Native.Nat.{ℕ, suc, ◌^◌}
use lib.IntN.{ℤ}
use Rattle.paper.specs.Lists.{pick}
use Rattle.paper.specs.Walk.{Coder, reaches, test_set}
use Rattle.bits.specs.Bits.{put1, wrote}
use Rattle.bits.specs.declared.BitSink.{BitSink}
use Rattle.scan.specs.declared.Seen.{Seen}
use Rattle.scan.specs.declared.Seen.TheVariants.{Known, New, Closed}
use Rattle.scan.specs.Seen.{seen_of}
use Rattle.set_coder.specs.Coded.{stands, Coded}

-- open or not, and the bits
abbrev says : Seen → Bool × List Bool
says Known = (true, [])
says New = (true, true ∷ [])
says Closed = (false, false ∷ [])

test_is : (p : ℕ) (xs : List ℤ) → test_set Coder p xs ≡ says (seen_of p xs)
unfolding test_set seen_of
test_is p xs = go (reaches (2 ^ suc p) xs) (reaches (2 ^ p) xs)
  where
    go : (b b' : Bool) → (elim b as (λ _. Bool × List Bool) [ true ↦ (true, []) | false ↦ (b', b' ∷ []) ]) ≡ says (pick b Known (pick b' New Closed))
    go true b' = refl
    go false true = refl
    go false false = refl

module _ (p : ℕ) (xs : List ℤ) (s : Seen) (is-s : s ≡ seen_of p xs) (s₀ : BitSink) where
  test_coded : (o : Bool) (l : List Bool) {s₁ : BitSink} → says s ≡ (o, l) → stands s₁ ≡ wrote s₀.limit l (stands s₀) → s₁.limit ≡ s₀.limit → s₁.bytes.ghost_name ≡ s₀.bytes.ghost_name → Coded (test_set Coder p xs) s₀ o s₁
  test_coded o l e w n b =
      let c : test_set Coder p xs ≡ (o, l) = test_is p xs ∙ ap says (sym is-s) ∙ e in
      record { held = ap (λ c. c.0) c; put = w ∙ ap (λ c. wrote s₀.limit c.1 (stands s₀)) (sym c); limit = n; same = b }

  pub test_known : s ≡ Known → Coded (test_set Coder p xs) s₀ true s₀
  unfolding wrote
  test_known k = test_coded true [] (ap says k) refl refl refl

  pub test_new : (s₁ : BitSink) → s ≡ New → stands s₁ ≡ put1 s₀.limit true (stands s₀) → s₁.limit ≡ s₀.limit → s₁.bytes.ghost_name ≡ s₀.bytes.ghost_name → Coded (test_set Coder p xs) s₀ true s₁
  unfolding wrote
  test_new s₁ k = test_coded true (true ∷ []) (ap says k)

  pub test_closed : (s₁ : BitSink) → s ≡ Closed → stands s₁ ≡ put1 s₀.limit false (stands s₀) → s₁.limit ≡ s₀.limit → s₁.bytes.ghost_name ≡ s₀.bytes.ghost_name → Coded (test_set Coder p xs) s₀ false s₁
  unfolding wrote
  test_closed s₁ k = test_coded false (false ∷ []) (ap says k)
