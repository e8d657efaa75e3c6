-- Lists joined of parts that are equally long: their length, each part again, and one more part laid behind them.
use Rattle.std.specs.Prelude.{◌≡◌, refl, length, take}
use Rattle.std.proofs.Math.Path.{sym, ap}
use Rattle.std.proofs.Common.{◌∙◌, mul-zero, add-one, length-append, take_at}
use mathlib.Core.List.{List, ◌++◌, append_assoc}
use Prim.Native.Nat.{ℕ, zero, suc, ◌+◌, ◌*◌, ◌<◌}
use Rattle.std.proofs.Math.Decide.{dec_lt}
use Rattle.std.proofs.Math.Nat.{mul-suc}
use native.Mathlib.Omega.{arith}
use Rattle.std.proofs.Math.ListN.{drop}
use Rattle.std.proofs.Math.Seq.{drop_at}
use Rattle.paper.specs.Lists.{joined}
use Rattle.list_laws.specs.Over.{laid_behind}

-- the first n parts are m long
abbrev pub Even : {A : Type 0} → ℕ → (ℕ → List A) → ℕ → Type 0
Even m f n = (i : ℕ) → i < n → length (f i) ≡ m

module _ {A : Type 0} (m : ℕ) (f : ℕ → List A) where
  pub length_joined : (n : ℕ) → Even m f n → length (joined n f) ≡ m * n
  unfolding joined
  length_joined zero each = sym (mul-zero m)
  length_joined (suc n) each = rw (length-append, each n (omega arith), mul-suc, length_joined n (λ i h. each i (omega arith)))

  -- a part, behind the parts before it and before whatever comes behind
  pub part_joined : (n : ℕ) → Even m f n → (tail : List A) (i : ℕ) → i < n → take m (drop (m * i) (joined n f ++ tail)) ≡ f i
  unfolding joined
  part_joined zero each tail i h = absurd (omega arith)
  part_joined (suc n) each tail i h = elim (dec_lt i n) [
    | yes k ↦ rw append_assoc (part_joined n (λ i h. each i (omega arith)) (f n ++ tail) i k)
    | no k ↦
        let e : i ≡ n = omega arith in
        let all = length_joined n (λ i h. each i (omega arith)) in
        rw (append_assoc, e, drop_at (joined n f) (f n ++ tail) (m * n) all) (take_at (f n) tail m (each n (omega arith)))
  ]

  -- no part yet, and then one more laid behind those that are there
  pub none_joined : (old : List A) → old ≡ joined 0 f ++ drop (m * 0) old
  unfolding joined
  none_joined old = ap (λ n. drop n old) (sym (mul-zero m))

  pub one_joined : (i : ℕ) → Even m f i → (part out old : List A) → out ≡ joined i f ++ drop (m * i) old → part ≡ f i
      → take (m * i) out ++ (part ++ drop (m * i + m) out) ≡ joined (i + 1) f ++ drop (m * (i + 1)) old
  unfolding joined
  one_joined i each part out old e p =
      laid_behind (joined i f) part out old (m * i) m (length_joined i each) e
      ∙ (λ t. (joined i f ++ p t) ++ drop (sym (mul-suc m i) t) old)
      ∙ ap (λ j. joined j f ++ drop (m * j) old) (sym (add-one i))

-- parts that are equal one for one
pub joined_same : {A : Type 0} (f g : ℕ → List A) (n : ℕ) → ((i : ℕ) → i < n → f i ≡ g i) → joined n f ≡ joined n g
unfolding joined
joined_same f g zero h = refl
joined_same f g (suc n) h = rw (joined_same f g n (λ i k. h i (omega arith)), h n (omega arith))
