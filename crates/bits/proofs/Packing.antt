-- Bytes and their bits: there and back, cut at whole bytes, and cut at any bit.
use mathlib.Core.Path.{◌≡◌, refl, sym, ap, ◌∙◌}
use mathlib.Core.Bool.{Bool, false}
use mathlib.Core.List.{List, [], ◌∷◌, ◌++◌, append_assoc}
use mathlib.Core.Logic.{◌⊎◌, inl, inr}
use Prim.Native.Nat.{ℕ, zero, suc, ◌+◌, ◌*◌, ◌-◌, ◌/◌, ◌%◌, ◌^◌, ◌<◌, ◌≤◌}
use native.Mathlib.Omega.{arith}
use lib.ListN.{length, take, drop, get_or, replicate, length-append, length-take, length-drop, take-append-drop, drop_of_length-le, get_or-replicate, get_or-append}
use lib.Seq.{take-take, take_at, take-append-le, take-append-add, drop-nil, take-nil, get_or-take, get_or-append_seam, get_or-append-add}
use Rattle.paper.specs.Lists.{Bytes}
use Rattle.paper.specs.Walk.{worth}
use Rattle.paper.specs.Bits.{byte_bits, bits, byte_of, packed, laid}
use Rattle.bits.specs.Bits.{kept}
use Rattle.bits.proofs.Worth.{byte_of_full, byte_of_nil, byte_first, byte_back}
use Rattle.bits.proofs.Written.{lt_or_ge}

-- ---- whole bytes
-- eight bits more, as lists count them
abbrev eight : ℕ → ℕ
eight n = suc (suc (suc (suc (suc (suc (suc (suc n)))))))

eight_more : (n : ℕ) → 8 * suc n ≡ eight (8 * n)
eight_more n = omega arith

pub bits_drop : (i : ℕ) (s : List ℕ) → drop (8 * i) (bits s) ≡ bits (drop i s)
unfolding bits
bits_drop zero s = refl
bits_drop (suc i) [] = drop-nil (8 * suc i)
bits_drop (suc i) (v ∷ s) = ap (λ n. drop n (byte_bits v ++ bits s)) (eight_more i) ∙ bits_drop i s

pub bits_take : (i : ℕ) (s : List ℕ) → take (8 * i) (bits s) ≡ bits (take i s)
unfolding bits
bits_take zero s = refl
bits_take (suc i) [] = take-nil (8 * suc i)
bits_take (suc i) (v ∷ s) = ap (λ n. take n (byte_bits v ++ bits s)) (eight_more i) ∙ ap (λ l. byte_bits v ++ l) (bits_take i s)

-- ---- there and back
pub packed_length : (n : ℕ) (l : List Bool) → length (packed n l) ≡ n
unfolding packed
packed_length zero l = refl
packed_length (suc n) l = ap suc (packed_length n (drop 8 l))

packed_nil : (n : ℕ) → packed n [] ≡ replicate n 0
unfolding packed
packed_nil zero = refl
packed_nil (suc n) = λ i. byte_of_nil 8 i ∷ packed_nil n i

-- the byte that starts at a bit, if it is all there
first_eight : (l : List Bool) → 8 ≤ length l → byte_bits (byte_of 8 l) ≡ take 8 l
first_eight l h =
    let n : length (take 8 l) ≡ 8 = length-take 8 l ∙ omega arith in
    ap byte_bits (ap (byte_of 8) (sym (take-append-drop 8 l)) ∙ byte_of_full 8 (take 8 l) (drop 8 l) (omega arith)) ∙ byte_back (take 8 l) n

whole_byte : (v : ℕ) (l : List Bool) → v < 256 → byte_of 8 (byte_bits v ++ l) ≡ v
whole_byte v l h = byte_of_full 8 (byte_bits v) l (omega arith) ∙ byte_first 8 v (omega arith) h ∙ omega arith

pub bits_packed : (n : ℕ) (l : List Bool) → length l ≡ 8 * n → bits (packed n l) ≡ l
unfolding bits packed
bits_packed zero [] h = refl
bits_packed zero (b ∷ l) h = absurd (omega arith)
bits_packed (suc n) l h =
    (λ i. first_eight l (omega arith) i ++ bits_packed n (drop 8 l) (omega (arith, length-drop 8 l)) i) ∙ take-append-drop 8 l

-- ---- bytes, as a slice of bytes knows
pub packed_bits : (n : ℕ) (s : List ℕ) → Bytes s → length s ≡ n → packed n (bits s) ≡ s
unfolding bits packed
packed_bits zero [] b h = refl
packed_bits zero (v ∷ s) b h = absurd (omega arith)
packed_bits (suc n) [] b h = absurd (omega arith)
packed_bits (suc n) (v ∷ s) b h = λ i. whole_byte v (bits s) (b 0) i ∷ packed_bits n s (λ i. b (suc i)) (omega arith) i

-- ---- bits cut at any place b: the whole bytes before it, of the byte that holds it the bits before it, then zeros
unfoldable pub cut_bytes : ℕ → List ℕ → List ℕ
cut_bytes b s = take (b / 8) s ++ kept (b % 8) (get_or s (b / 8) 0) ∷ []

zeros_take : (n m : ℕ) → n ≤ m → replicate {A = ℕ} n 0 ≡ take n (replicate m 0)
zeros_take zero m h = refl
zeros_take (suc n) zero h = absurd (omega arith)
zeros_take (suc n) (suc m) h = ap (λ l. 0 ∷ l) (zeros_take n m (omega arith))

kept_first : (b v : ℕ) → b < 8 → v < 256 → byte_of 8 (take b (byte_bits v)) ≡ kept b v
kept_first zero v h g = byte_first 0 v (omega arith) g ∙ omega arith
kept_first (suc b) v h g = byte_first (suc b) v (omega arith) g ∙ ap (λ k. v / 2 ^ k * 2 ^ k) (let z : 8 - suc b ≡ 7 - b = omega arith in z)

-- n bytes of the first b bits, where at least as many zeros are at hand
pub packed_take : (n m b : ℕ) (s : List ℕ) → n ≤ m → Bytes s → b ≤ 8 * length s → packed n (take b (bits s)) ≡ take n (cut_bytes b s ++ replicate m 0)
unfolding cut_bytes packed bits
packed_take zero m b s nm w h = refl
packed_take (suc n) m zero [] nm w h = λ i. byte_of_nil 8 i ∷ (packed_nil n ∙ zeros_take n m (omega arith)) i
packed_take (suc n) m (suc b) [] nm w h = absurd (omega arith)
packed_take (suc n) m b (v ∷ s) nm w h = go (lt_or_ge b 8) (λ c k. packed_take n m c s (omega arith) (λ i. w (suc i)) k)
  where
    go : (b < 8) ⊎ (8 ≤ b) → ((c : ℕ) → c ≤ 8 * length s → packed n (take c (bits s)) ≡ take n (cut_bytes c s ++ replicate m 0))
        → byte_of 8 (take b (byte_bits v ++ bits s)) ∷ packed n (drop 8 (take b (byte_bits v ++ bits s))) ≡ take (suc n) (cut_bytes b (v ∷ s) ++ replicate m 0)
    go (inl l) ih =
        let B = byte_bits v ++ bits s in
        let e : b / 8 ≡ 0 = omega arith in
        let f : b % 8 ≡ b = omega arith in
        let k : length (take b B) ≤ 8 = omega (arith, length-take b B) in
        (λ i. (ap (byte_of 8) (take-append-le b (byte_bits v) (bits s) (omega arith)) ∙ kept_first b v l (w 0)) i ∷ (ap (packed n) (drop_of_length-le (take b B) k) ∙ packed_nil n ∙ zeros_take n m (omega arith)) i)
        ∙ sym (λ i. take (suc n) ((take (e i) (v ∷ s) ++ kept (f i) (get_or (v ∷ s) (e i) 0) ∷ []) ++ replicate m 0))
    go (inr l) ih =
        let c = b - 8 in
        let g : b ≡ eight c = omega arith in
        let e : b / 8 ≡ suc (c / 8) = omega arith in
        let f : b % 8 ≡ c % 8 = omega arith in
        ap (λ b. byte_of 8 (take b (byte_bits v ++ bits s)) ∷ packed n (drop 8 (take b (byte_bits v ++ bits s)))) g
        ∙ (λ i. whole_byte v (take c (bits s)) (w 0) i ∷ ih c (omega arith) i)
        ∙ sym (λ i. take (suc n) ((take (e i) (v ∷ s) ++ kept (f i) (get_or (v ∷ s) (e i) 0) ∷ []) ++ replicate m 0))

-- the same, byte by byte
module _ (n b : ℕ) (s : List ℕ) (w : Bytes s) (h : b ≤ 8 * length s) (i : ℕ) (below : i < n) where
  cut_at : get_or (packed n (take b (bits s))) i 0 ≡ get_or (take (b / 8) s ++ kept (b % 8) (get_or s (b / 8) 0) ∷ replicate n 0) i 0
  unfolding cut_bytes
  cut_at =
      ap (λ l. get_or l i 0) (packed_take n n b s (omega arith) w h) ∙ get_or-take n (cut_bytes b s ++ replicate n 0) i 0 below
      ∙ ap (λ l. get_or l i 0) (append_assoc (take (b / 8) s) (kept (b % 8) (get_or s (b / 8) 0) ∷ []) (replicate n 0))

  whole : length (take (b / 8) s) ≡ b / 8
  whole = length-take (b / 8) s ∙ omega arith

  pub packed_before : i < b / 8 → get_or (packed n (take b (bits s))) i 0 ≡ get_or s i 0
  packed_before k = cut_at ∙ get_or-append (take (b / 8) s) (kept (b % 8) (get_or s (b / 8) 0) ∷ replicate n 0) 0 i (omega (arith, whole)) ∙ get_or-take (b / 8) s i 0 k

  pub packed_seam : i ≡ b / 8 → get_or (packed n (take b (bits s))) i 0 ≡ kept (b % 8) (get_or s i 0)
  packed_seam k =
      cut_at ∙ ap (λ i. get_or (take (b / 8) s ++ kept (b % 8) (get_or s (b / 8) 0) ∷ replicate n 0) i 0) (k ∙ sym whole)
      ∙ get_or-append_seam (take (b / 8) s) (kept (b % 8) (get_or s (b / 8) 0)) (replicate n 0) 0 ∙ ap (λ i. kept (b % 8) (get_or s i 0)) (sym k)

  pub packed_after : b / 8 < i → get_or (packed n (take b (bits s))) i 0 ≡ 0
  packed_after k =
      let j = i - suc (b / 8) in
      let e : i ≡ length (take (b / 8) s) + suc j = omega (arith, whole) in
      cut_at ∙ ap (λ i. get_or (take (b / 8) s ++ kept (b % 8) (get_or s (b / 8) 0) ∷ replicate n 0) i 0) e
      ∙ get_or-append-add (take (b / 8) s) (kept (b % 8) (get_or s (b / 8) 0) ∷ replicate n 0) (suc j) 0 ∙ get_or-replicate n j 0 0 (omega arith)

-- ---- the bits of what was laid
zeros : (k : ℕ) (A : List Bool) (m : ℕ) → byte_of k A ≡ byte_of k (A ++ replicate m false)
unfolding byte_of
zeros zero A m = refl
zeros (suc k) [] zero = refl
zeros (suc k) [] (suc m) = omega (arith, zeros k [] m, byte_of_nil k)
zeros (suc k) (a ∷ A) m = ap (λ n. worth a k + n) (zeros k A m)

pub bits_laid : (s : List ℕ) (A : List Bool) → length A ≤ 8 * length s → take (length A) (bits (laid A s)) ≡ A
unfolding bits laid
bits_laid [] [] h = refl
bits_laid [] (a ∷ A) h = absurd (omega arith)
bits_laid (v ∷ s) [] h = refl
bits_laid (v ∷ s) (a ∷ A) h = go (lt_or_ge (length (a ∷ A)) 8) (bits_laid s (drop 7 A) (omega (arith, length-drop 7 A)))
  where
    L : List Bool
    L = a ∷ A

    rest : List Bool
    rest = bits (laid (drop 7 A) s)

    go : (length L < 8) ⊎ (8 ≤ length L) → take (length (drop 7 A)) rest ≡ drop 7 A → take (length L) (byte_bits (byte_of 8 L) ++ rest) ≡ L
    go (inl l) ih =
        let P = L ++ replicate 8 false in
        let n : length P ≡ length L + 8 = length-append L (replicate 8 false) in
        let e : byte_bits (byte_of 8 L) ≡ take 8 P = ap byte_bits (zeros 8 L 8) ∙ first_eight P (omega arith) in
        ap (λ x. take (length L) (x ++ rest)) e
        ∙ take-append-le (length L) (take 8 P) rest (omega (arith, length-take 8 P))
        ∙ take-take (length L) 8 P (omega arith) ∙ take_at L (replicate 8 false) (length L) refl
    go (inr l) ih =
        let e : byte_bits (byte_of 8 L) ≡ take 8 L = first_eight L l in
        let n : length (take 8 L) ≡ 8 = length-take 8 L ∙ omega arith in
        let m : length L ≡ length (take 8 L) + length (drop 7 A) = omega (arith, length-drop 7 A) in
        ap (λ x. take (length L) (x ++ rest)) e ∙ ap (λ k. take k (take 8 L ++ rest)) m
        ∙ take-append-add (take 8 L) rest (length (drop 7 A)) ∙ ap (λ x. take 8 L ++ x) ih ∙ take-append-drop 8 L
