-- Bits in bytes, cut and joined at whole bytes.
use Rattle.std.specs.Prelude.{◌≡◌, refl, Bool, true, false, List, [], ◌∷◌, ◌++◌, ℕ, zero, suc, ◌+◌, ◌*◌, ◌-◌, ◌<◌, ◌≤◌, length, take, drop, get_or, replicate}
use Rattle.std.proofs.Common.{sym, ap, ◌∙◌, zero-add, mul-suc, mul-zero, mul_assoc, arith, length-append, drop-drop}
use Rattle.std.proofs.lemmas.List.{length-replicate}
use Rattle.std.proofs.Math.Seq.{drop-nil, take-append_seam, drop-append_seam}
use Rattle.paper.specs.Lists.{joined}
use Rattle.list_laws.specs.Parts.{drop_take}
use Rattle.bits.proofs.Worth.{byte_of_nil}
use Rattle.bits.proofs.Packing.{bits_packed}
use Rattle.paper.specs.Walk.{worth}
use Rattle.paper.specs.Bits.{bits, byte_of, packed, all_zero}

-- the first bytes
pub take_packed : (m n : ℕ) (l : List Bool) → m ≤ n → take m (packed n l) ≡ packed m l
unfolding packed
take_packed zero n l h = refl
take_packed (suc m) zero l h = absurd (omega arith)
take_packed (suc m) (suc n) l h = ap (λ s. byte_of 8 l ∷ s) (take_packed m n (drop 8 l) (omega arith))

-- one byte
pub packed_at : (n i : ℕ) (l : List Bool) → i < n → get_or (packed n l) i 0 ≡ byte_of 8 (drop (8 * i) l)
unfolding packed
packed_at zero i l h = absurd (omega arith)
packed_at (suc n) zero l h = refl
packed_at (suc n) (suc i) l h = let e : 8 + 8 * i ≡ 8 * suc i = omega arith in packed_at n i (drop 8 l) (omega arith) ∙ ap (byte_of 8) (drop-drop (8 * i) 8 l ∙ ap (λ a. drop a l) e)

-- some bytes, then some more
pub packed_more : (m n : ℕ) (l : List Bool) → packed (m + n) l ≡ packed m l ++ packed n (drop (8 * m) l)
unfolding packed
packed_more zero n l = rw zero-add
packed_more (suc m) n l =
    let e : suc m + n ≡ suc (m + n) = omega arith in
    let d : 8 + 8 * m ≡ 8 * suc m = omega arith in
    rw (e, packed_more m n (drop 8 l), drop-drop (8 * m) 8 l, d)

byte_of_take : (k m : ℕ) (l : List Bool) → k ≤ m → byte_of k (take m l) ≡ byte_of k l
unfolding byte_of
byte_of_take zero m l h = refl
byte_of_take (suc k) zero l h = absurd (omega arith)
byte_of_take (suc k) (suc m) [] h = refl
byte_of_take (suc k) (suc m) (b ∷ l) h = ap (λ v. worth b k + v) (byte_of_take k m l (omega arith))

-- bytes hold no more than eight bits each
pub packed_take : (n m : ℕ) (l : List Bool) → 8 * n ≤ m → packed n (take m l) ≡ packed n l
unfolding packed
packed_take zero m l h = refl
packed_take (suc n) m l h = rw (byte_of_take 8 m l (omega arith), drop_take 8 m l (omega arith), packed_take n (m - 8) (drop 8 l) (omega arith))

-- bits cut into parts of n bytes each, and the parts packed one behind the other
pub packed_joined : (n j : ℕ) (l : List Bool) → joined j (λ i. packed n (take (8 * n) (drop (8 * n * i) l))) ≡ packed (n * j) l
unfolding joined packed
packed_joined n zero l = rw mul-zero
packed_joined n (suc j) l =
    let e : 8 * (n * j) ≡ 8 * n * j = sym (mul_assoc 8 n j) in
    rw (packed_joined n j l, packed_take n (8 * n) (drop (8 * n * j) l) (omega arith), mul-suc, packed_more (n * j) n l, e)

-- ---- zeros behind the bits change no byte
byte_of_zeros : (k m : ℕ) (l : List Bool) → byte_of k l ≡ byte_of k (l ++ replicate m false)
unfolding byte_of
byte_of_zeros zero m l = refl
byte_of_zeros (suc k) zero [] = refl
byte_of_zeros (suc k) (suc m) [] = byte_of_nil (suc k) ∙ omega (arith, byte_of_zeros k m [], byte_of_nil k)
byte_of_zeros (suc k) m (b ∷ l) = ap (λ v. worth b k + v) (byte_of_zeros k m l)

drop_zeros : (j m : ℕ) (l : List Bool) → (r : ℕ) × (drop j l ++ replicate r false ≡ drop j (l ++ replicate m false))
drop_zeros zero m l = (m, refl)
drop_zeros (suc j) zero [] = (0, refl)
drop_zeros (suc j) (suc m) [] = let (r, e) = drop_zeros j m [] in (r, ap (λ l. l ++ replicate r false) (sym (drop-nil j)) ∙ e)
drop_zeros (suc j) m (b ∷ l) = drop_zeros j m l

packed_zeros : (n m : ℕ) (l : List Bool) → packed n l ≡ packed n (l ++ replicate m false)
unfolding packed
packed_zeros zero m l = refl
packed_zeros (suc n) m l = let (r, e) = drop_zeros 8 m l in λ i. byte_of_zeros 8 m l i ∷ (packed_zeros n r (drop 8 l) ∙ ap (packed n) e) i

all_zero_lem : (m : ℕ) → all_zero (replicate m false) ≡ true
unfolding all_zero
all_zero_lem zero = refl
all_zero_lem (suc m) = all_zero_lem m

-- the bits of packed bits, and zeros
padded : (n : ℕ) (l : List Bool) → length l ≤ 8 * n → bits (packed n l) ≡ l ++ replicate (8 * n - length l) false
padded n l h =
    let zeros = replicate (8 * n - length l) false in
    ap bits (packed_zeros n (8 * n - length l) l) ∙ bits_packed n (l ++ zeros) (length-append l zeros ∙ omega (arith, length-replicate (8 * n - length l) false))

pub bits_back : (n : ℕ) (l : List Bool) → length l ≤ 8 * n → take (length l) (bits (packed n l)) ≡ l
bits_back n l h = ap (take (length l)) (padded n l h) ∙ take-append_seam l (replicate (8 * n - length l) false)

pub unused_back : (n : ℕ) (l : List Bool) → length l ≤ 8 * n → all_zero (drop (length l) (bits (packed n l))) ≡ true
unused_back n l h = ap (λ l'. all_zero (drop (length l) l')) (padded n l h) ∙ ap all_zero (drop-append_seam l (replicate (8 * n - length l) false)) ∙ all_zero_lem (8 * n - length l)
