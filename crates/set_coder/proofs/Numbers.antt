-- The bits of a number, as the code puts them.
use mathlib.Core.Path.{◌≡◌, refl, sym, ap, ◌∙◌}
use mathlib.Core.Bool.{Bool, true, false}
use mathlib.Core.Option.{some}
use mathlib.Core.List.{List, [], ◌∷◌}
use Prim.Native.Nat.{ℕ, suc, ◌*◌, ◌^◌, ◌<◌, ◌≤◌}
use native.Mathlib.Nat.{pow-succ'}
use native.Mathlib.Omega.{arith}
use lib.Dec.{leb}
use lib.IntN.{ℤ, nat_abs}
use borrow.Author.Tests.{le-leb, lt-leb}
use Rattle.paper.specs.Lists.{pick}
use Rattle.paper.specs.Walk.{Coder, bit_of, negative, is_one, refined, begun, walk_number}
use Rattle.bits.specs.Bits.{put1, wrote}
use Rattle.bits.specs.declared.BitSink.{BitSink}
use Rattle.set_coder.specs.Coded.{stands, Coded}

-- the number is held, and its bits go by the two tests that the walk makes
number_is : (p : ℕ) (x : ℤ) (known new : Bool) → leb (2 ^ suc p) (nat_abs x) ≡ known → leb (2 ^ p) (nat_abs x) ≡ new
    → walk_number Coder p x ≡ (x ∷ [], pick known (bit_of p (nat_abs x) ∷ []) (pick new (true ∷ negative x ∷ []) (false ∷ [])))
unfolding walk_number refined begun
number_is p x known new e f =
    go (leb (2 ^ suc p) (nat_abs x)) (leb (2 ^ p) (nat_abs x)) ∙ (λ i. (x ∷ [], pick (e i) (bit_of p (nat_abs x) ∷ []) (pick (f i) (true ∷ negative x ∷ []) (false ∷ []))))
  where
    go : (b c : Bool)
        → ◌≡◌ {A = List ℤ × List Bool}
        (elim b [
          | true ↦ (refined Coder p x (some (bit_of p (nat_abs x))) ∷ [], bit_of p (nat_abs x) ∷ [])
          | false ↦ Coder.then (some c, c ∷ []) (λ o. elim (is_one Coder o) as (λ _. List ℤ × List Bool) [
            | true ↦ Coder.then (some (negative x), negative x ∷ []) (λ s. (begun Coder p x s ∷ [], []))
            | false ↦ (x ∷ [], [])
          ])
        ])
        (x ∷ [], pick b (bit_of p (nat_abs x) ∷ []) (pick c (true ∷ negative x ∷ []) (false ∷ [])))
    go true c = refl
    go false true = refl
    go false false = refl

-- t is T and m the magnitude; the sinks are those that the puts leave
module _ (p t m : ℕ) (x : ℤ) (is-t : t ≡ 2 ^ p) (is_m : m ≡ nat_abs x) (s₀ s₁ : BitSink) where
  number_coded : (known new : Bool) → leb (2 ^ suc p) (nat_abs x) ≡ known → leb (2 ^ p) (nat_abs x) ≡ new → {s : BitSink}
      → stands s ≡ wrote s₀.limit (pick known (bit_of p (nat_abs x) ∷ []) (pick new (true ∷ negative x ∷ []) (false ∷ []))) (stands s₀) → s.limit ≡ s₀.limit → s.bytes.ghost_name ≡ s₀.bytes.ghost_name → Coded (walk_number Coder p x) s₀ (x ∷ []) s
  number_coded known new e f w n b =
      let c = number_is p x known new e f in
      record { held = ap (λ c. c.0) c; put = w ∙ ap (λ c. wrote s₀.limit c.1 (stands s₀)) (sym c); limit = n; same = b }

  pub number_known : (b : Bool) → 2 * t ≤ m → b ≡ bit_of p m → stands s₁ ≡ put1 s₀.limit b (stands s₀) → s₁.limit ≡ s₀.limit → s₁.bytes.ghost_name ≡ s₀.bytes.ghost_name → Coded (walk_number Coder p x) s₀ (x ∷ []) s₁
  unfolding wrote
  number_known b h e w = number_coded true _ (le-leb (2 ^ suc p) (nat_abs x) (omega (arith, pow-succ' 2 p))) refl (w ∙ ap (λ b. put1 s₀.limit b (stands s₀)) (e ∙ ap (bit_of p) is_m))

  -- below 2T, it is said whether the number is T or more
  module _ (h : m < 2 * t) (w₁ : stands s₁ ≡ put1 s₀.limit (leb t m) (stands s₀)) (n₁ : s₁.limit ≡ s₀.limit) (b₁ : s₁.bytes.ghost_name ≡ s₀.bytes.ghost_name) where
    said : (new : Bool) → leb t m ≡ new → (stands s₁ ≡ put1 s₀.limit new (stands s₀)) × (leb (2 ^ suc p) (nat_abs x) ≡ false) × (leb (2 ^ p) (nat_abs x) ≡ new)
    said new e = (
      w₁ ∙ ap (λ b. put1 s₀.limit b (stands s₀)) e,
      lt-leb (2 ^ suc p) (nat_abs x) (omega (arith, pow-succ' 2 p)),
      (λ i. leb (sym is-t i) (sym is_m i)) ∙ e,
    )

    pub number_small : m < t → Coded (walk_number Coder p x) s₀ (x ∷ []) s₁
    unfolding wrote
    number_small k = let S = said false (lt-leb t m k) in number_coded false false S.1 S.2 S.0 n₁ b₁

    pub number_new : (s₂ : BitSink) (b : Bool) → t ≤ m → b ≡ negative x → stands s₂ ≡ put1 s₁.limit b (stands s₁) → s₂.limit ≡ s₁.limit → s₂.bytes.ghost_name ≡ s₁.bytes.ghost_name → Coded (walk_number Coder p x) s₀ (x ∷ []) s₂
    unfolding wrote
    number_new s₂ b k e w₂ n₂ b₂ =
        let S = said true (le-leb t m k) in
        number_coded false true S.1 S.2 (w₂ ∙ (λ i. put1 (n₁ i) (e i) (S.0 i))) (n₂ ∙ n₁) (b₂ ∙ b₁)
