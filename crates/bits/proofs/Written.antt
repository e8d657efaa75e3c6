-- Bits put one behind the other: from place 0 on they are laid over the front of the bytes, up to the limit.
use mathlib.Core.Path.{◌≡◌, refl, sym, ap, ◌∙◌}
use mathlib.Core.Bool.{Bool, true, false}
use mathlib.Core.List.{List, [], ◌∷◌, ◌++◌, append-nil, append_assoc}
use mathlib.Core.Logic.{◌⊎◌, inl, inr}
use Prim.Native.Nat.{ℕ, suc, ◌+◌, ◌*◌, ◌-◌, ◌/◌, ◌%◌, ◌<◌, ◌≤◌}
use native.Mathlib.Omega.{arith}
use lib.Dec.{ltb}
use lib.ListN.{length, take, drop, get_or, length-append, length-drop, drop_of_length-le}
use lib.ListN as ListN
use lib.Seq.{drop-append-le, take-append-le, take_all}
use borrow.Author.Tests.{lt-ltb, le-ltb, ltb-true, ltb-false}
use Rattle.paper.specs.Lists.{pick}
use Rattle.paper.specs.Walk.{worth}
use Rattle.paper.specs.Bits.{byte_of, laid}
use Rattle.bits.specs.Bits.{kept, with_bit, Sink, put1, wrote}
use Rattle.bits.proofs.Worth.{byte_of_full, byte_of_more, byte_spare}

pub lt_or_ge : (a b : ℕ) → (a < b) ⊎ (b ≤ a)
lt_or_ge a b = go (ltb a b) refl
  where
    go : (x : Bool) → ltb a b ≡ x → (a < b) ⊎ (b ≤ a)
    go true e = inl (ltb-true a b e)
    go false e = inr (ltb-false a b e)

pub wrote_append : (limit : ℕ) (A B : List Bool) (s : Sink) → wrote limit (A ++ B) s ≡ wrote limit B (wrote limit A s)
unfolding wrote
wrote_append limit [] B s = refl
wrote_append limit (a ∷ A) B s = wrote_append limit A B (put1 limit a s)

-- ---- one bit, below the limit and at it
putting : (limit : ℕ) (b : Bool) (s : List ℕ) (at : ℕ) → at < limit → put1 limit b (s, at) ≡ (ListN.set s (at / 8) (with_bit (at % 8) b (get_or s (at / 8) 0)), at + 1)
unfolding put1
putting limit b s at h = ap (λ t. pick t (ListN.set s (at / 8) (with_bit (at % 8) b (get_or s (at / 8) 0)), at + 1) (s, at)) (lt-ltb at limit h)

stopping : (limit : ℕ) (b : Bool) (s : List ℕ) (at : ℕ) → limit ≤ at → put1 limit b (s, at) ≡ (s, at)
unfolding put1
stopping limit b s at h = ap (λ t. pick t (ListN.set s (at / 8) (with_bit (at % 8) b (get_or s (at / 8) 0)), at + 1) (s, at)) (le-ltb at limit h)

-- ---- bits laid, and one more
pub laid_nil : (s : List ℕ) → laid [] s ≡ s
unfolding laid
laid_nil [] = refl
laid_nil (v ∷ s) = refl

nothing : (n : ℕ) (A : List Bool) → length A ≡ n → n ≤ 7 → drop 7 A ≡ []
nothing n A e h = let z : length A ≤ 7 = omega arith in drop_of_length-le A z

laid_more : (A : List Bool) (s : List ℕ) (b : Bool) → length A < 8 * length s
    → ListN.set (laid A s) (length A / 8) (with_bit (length A % 8) b (get_or (laid A s) (length A / 8) 0)) ≡ laid (A ++ b ∷ []) s
unfolding laid with_bit byte_of
laid_more A [] b h = absurd (omega arith)
laid_more [] (v ∷ s) b h = λ i. (let z : 0 + worth b 7 ≡ worth b 7 + 0 = omega arith in z) i ∷ sym (laid_nil s) i
laid_more (a ∷ A) (v ∷ s) b h = go (lt_or_ge (length (a ∷ A)) 8) (λ k. laid_more (drop 7 A) s b k)
  where
    n : ℕ
    n = length (a ∷ A)

    w : ℕ
    w = byte_of 8 (a ∷ A)

    go : (n < 8) ⊎ (8 ≤ n)
        → (length (drop 7 A) < 8 * length s → ListN.set (laid (drop 7 A) s) (length (drop 7 A) / 8) (with_bit (length (drop 7 A) % 8) b (get_or (laid (drop 7 A) s) (length (drop 7 A) / 8) 0)) ≡ laid (drop 7 A ++ b ∷ []) s)
        → ListN.set (w ∷ laid (drop 7 A) s) (n / 8) (with_bit (n % 8) b (get_or (w ∷ laid (drop 7 A) s) (n / 8) 0)) ≡ byte_of 8 (a ∷ (A ++ b ∷ [])) ∷ laid (drop 7 (A ++ b ∷ [])) s
    go (inl l) ih =
        let e : n / 8 ≡ 0 = omega arith in
        let f : n % 8 ≡ n = omega arith in
        let r : drop 7 A ≡ drop 7 (A ++ b ∷ []) = nothing (length A) A refl (omega arith) ∙ sym (nothing (length A + 1) (A ++ b ∷ []) (length-append A (b ∷ [])) (omega arith)) in
        let g : kept n w + worth b (7 - n) ≡ byte_of 8 (a ∷ (A ++ b ∷ [])) =
        ap (λ k. k + worth b (7 - n)) (byte_spare (a ∷ A) l (omega arith)) ∙ sym (byte_of_more 8 (a ∷ A) b l ∙ ap (λ k. w + worth b k) (let z : 8 - suc n ≡ 7 - n = omega arith in z)) in
        (λ i. ListN.set (w ∷ laid (drop 7 A) s) (e i) (with_bit (f i) b (get_or (w ∷ laid (drop 7 A) s) (e i) 0))) ∙ (λ i. g i ∷ laid (r i) s)
    go (inr l) ih =
        let m = length (drop 7 A) in
        let e : n / 8 ≡ suc (m / 8) = omega (arith, length-drop 7 A) in
        let f : n % 8 ≡ m % 8 = omega (arith, length-drop 7 A) in
        (λ i. ListN.set (w ∷ laid (drop 7 A) s) (e i) (with_bit (f i) b (get_or (w ∷ laid (drop 7 A) s) (e i) 0)))
        ∙ (λ i. sym (byte_of_full 8 (a ∷ A) (b ∷ []) l) i ∷ (ih (omega (arith, length-drop 7 A)) ∙ ap (λ r. laid r s) (sym (drop-append-le 7 A (b ∷ []) (omega arith)))) i)

-- ---- bits B behind the bits A that lie there already
wrote_behind : (limit : ℕ) (B A : List Bool) (s : List ℕ) → length A ≤ limit → limit ≤ 8 * length s
    → wrote limit B (laid A s, length A) ≡ (laid (take limit (A ++ B)) s, length (take limit (A ++ B)))
unfolding wrote
wrote_behind limit [] A s h k =
    let e : A ≡ take limit (A ++ []) = sym (take_all limit (A ++ []) (omega (arith, ap length (append-nil A))) ∙ append-nil A) in
    ap (λ l. (laid l s, length l)) e
wrote_behind limit (b ∷ B) A s h k = go (lt_or_ge (length A) limit) (λ C g. wrote_behind limit B C s g k)
  where
    go : (length A < limit) ⊎ (limit ≤ length A)
        → ((C : List Bool) → length C ≤ limit → wrote limit B (laid C s, length C) ≡ (laid (take limit (C ++ B)) s, length (take limit (C ++ B))))
        → wrote limit B (put1 limit b (laid A s, length A)) ≡ (laid (take limit (A ++ b ∷ B)) s, length (take limit (A ++ b ∷ B)))
    go (inl l) ih =
        let n : length A + 1 ≡ length (A ++ b ∷ []) = sym (length-append A (b ∷ [])) in
        let one_put : put1 limit b (laid A s, length A) ≡ (laid (A ++ b ∷ []) s, length (A ++ b ∷ [])) = putting limit b (laid A s) (length A) l ∙ (λ i. (laid_more A s b (omega arith) i, n i)) in
        ap (wrote limit B) one_put ∙ ih (A ++ b ∷ []) (omega arith) ∙ ap (λ l. (laid (take limit l) s, length (take limit l))) (append_assoc A (b ∷ []) B)
    go (inr l) ih =
        let e : take limit (A ++ B) ≡ take limit (A ++ b ∷ B) = take-append-le limit A B l ∙ sym (take-append-le limit A (b ∷ B) l) in
        ap (wrote limit B) (stopping limit b (laid A s) (length A) l) ∙ ih A h ∙ ap (λ l. (laid l s, length l)) e

-- THE LAW: bits written from place 0 are the first of them, laid over the front of the bytes
pub wrote_laid : (limit : ℕ) (B : List Bool) (s : List ℕ) → limit ≤ 8 * length s → wrote limit B (s, 0) ≡ (laid (take limit B) s, length (take limit B))
wrote_laid limit B s k = ap (λ l. wrote limit B (l, 0)) (sym (laid_nil s)) ∙ wrote_behind limit B [] s (omega arith) k
