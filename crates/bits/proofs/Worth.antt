-- What bits are worth: a byte of bits, and the bits of a byte. All is said of k bits, by induction; a byte has 8.
use mathlib.Core.Path.{◌≡◌, refl, sym, ap, ◌∙◌}
use mathlib.Core.Bool.{Bool, true, false}
use mathlib.Core.List.{List, [], ◌∷◌, ◌++◌}
use Prim.Native.Nat.{ℕ, zero, suc, ◌+◌, ◌*◌, ◌-◌, ◌/◌, ◌%◌, ◌^◌, ◌<◌, ◌≤◌}
use native.Mathlib.Nat.{pow-suc, pow-succ', mul_assoc, add-mul}
use native.Mathlib.Omega.{arith}
use lib.Pow.{high, split, mod-pow-add, pow-add, shl-shr}
use lib.Dec.{eqb}
use lib.ListN.{length, take}
use Rattle.paper.specs.Walk.{bit_of, worth}
use Rattle.paper.specs.Bits.{byte_bits, byte_of}
use Rattle.bits.specs.Bits.{kept}

-- a bit as a number
pub one : Bool → ℕ
one true = 1
one false = 0

pub worth_is : (b : Bool) (k : ℕ) → worth b k ≡ one b * 2 ^ k
unfolding one
worth_is true k = omega arith
worth_is false k = omega arith

pub one_le : (b : Bool) → one b ≤ 1
unfolding one
one_le true = omega arith
one_le false = omega arith

one_eqb : (b : Bool) → eqb (one b) 1 ≡ b
unfolding one
one_eqb true = refl
one_eqb false = refl

eqb_one : (n : ℕ) → n < 2 → one (eqb n 1) ≡ n
unfolding one
eqb_one zero h = refl
eqb_one (suc zero) h = refl
eqb_one (suc (suc n)) h = absurd (omega arith)

-- ---- bits as a number
pub byte_of_lt : (k : ℕ) (l : List Bool) → byte_of k l < 2 ^ k
unfolding byte_of
byte_of_lt zero l = omega arith
byte_of_lt (suc k) [] = omega (arith, pow-suc 2 k, byte_of_lt k [])
byte_of_lt (suc k) (b ∷ l) = omega (arith, pow-suc 2 k, byte_of_lt k l, twice b)
  where
    twice : (b : Bool) → worth b k ≤ 2 ^ k
    twice true = omega arith
    twice false = omega arith

-- bits past the k-th do not count
pub byte_of_full : (k : ℕ) (l r : List Bool) → k ≤ length l → byte_of k (l ++ r) ≡ byte_of k l
unfolding byte_of
byte_of_full zero l r h = refl
byte_of_full (suc k) [] r h = absurd (omega arith)
byte_of_full (suc k) (b ∷ l) r h = ap (λ n. worth b k + n) (byte_of_full k l r (omega arith))

pub byte_of_nil : (k : ℕ) → byte_of k [] ≡ 0
unfolding byte_of
byte_of_nil zero = refl
byte_of_nil (suc k) = refl

-- one bit more behind l
pub byte_of_more : (k : ℕ) (l : List Bool) (b : Bool) → length l < k → byte_of k (l ++ b ∷ []) ≡ byte_of k l + worth b (k - suc (length l))
unfolding byte_of
byte_of_more zero l b h = absurd (omega arith)
byte_of_more (suc k) [] b h = omega (arith, byte_of_nil k, ap (worth b) (let z : k ≡ suc k - 1 = omega arith in z))
byte_of_more (suc k) (a ∷ l) b h = omega (arith, byte_of_more k l b (omega arith), ap (worth b) (let z : suc k - suc (suc (length l)) ≡ k - suc (length l) = omega arith in z))

-- bits that are not there are 0: m more places make 2 ^ m times as much
byte_of_spare : (k m : ℕ) (l : List Bool) → length l ≤ k → byte_of (k + m) l ≡ byte_of k l * 2 ^ m
unfolding byte_of
byte_of_spare zero m [] h = omega (arith, byte_of_nil (0 + m))
byte_of_spare zero m (b ∷ l) h = absurd (omega arith)
byte_of_spare (suc k) m [] h = omega (arith, byte_of_nil (suc k + m))
byte_of_spare (suc k) m (b ∷ l) h =
    ap (λ n. byte_of n (b ∷ l)) (let z : suc k + m ≡ suc (k + m) = omega arith in z)
    ∙ (λ i. (worth_is b (k + m) ∙ ap (λ n. one b * n) (pow-add 2 k m) ∙ sym (mul_assoc (one b) (2 ^ k) (2 ^ m)) ∙ ap (λ n. n * 2 ^ m) (sym (worth_is b k))) i + byte_of_spare k m l (omega arith) i)
    ∙ sym (add-mul (worth b k) (byte_of k l) (2 ^ m))

-- so the spare bits of a byte are 0 already: its first bits are all there is
pub byte_spare : (l : List Bool) → length l < 8 → 0 < length l → kept (length l) (byte_of 8 l) ≡ byte_of 8 l
byte_spare [] h g = absurd (omega arith)
byte_spare (a ∷ l) h g =
    let k = 7 - length l in
    let e : byte_of 8 (a ∷ l) ≡ byte_of (suc (length l)) (a ∷ l) * 2 ^ k = ap (λ n. byte_of n (a ∷ l)) (let z : 8 ≡ suc (length l) + k = omega arith in z) ∙ byte_of_spare (suc (length l)) k (a ∷ l) (omega arith) in
    ap (λ v. v / 2 ^ k * 2 ^ k) e ∙ ap (λ n. n * 2 ^ k) (shl-shr (byte_of (suc (length l)) (a ∷ l)) k) ∙ sym e

-- ---- a number as bits: its k low bits, highest first; those of a byte are its 8
unfoldable pub low_bits : ℕ → ℕ → List Bool
low_bits zero v = []
low_bits (suc k) v = bit_of k v ∷ low_bits k v

worth_bit : (k v : ℕ) → worth (bit_of k v) k ≡ v / 2 ^ k % 2 * 2 ^ k
unfolding bit_of
worth_bit k v = worth_is (eqb (v / 2 ^ k % 2) 1) k ∙ ap (λ n. n * 2 ^ k) (eqb_one (v / 2 ^ k % 2) (omega arith))

-- the first b of the k bits, and what the others are worth
byte_of_cut : (k b v : ℕ) → b ≤ k → byte_of k (take b (low_bits k v)) + v % 2 ^ (k - b) ≡ v % 2 ^ k
unfolding byte_of low_bits
byte_of_cut zero zero v h = omega arith
byte_of_cut zero (suc b) v h = absurd (omega arith)
byte_of_cut (suc k) zero v h = omega (arith, ap (λ n. v % 2 ^ n) (let z : suc k - 0 ≡ suc k = omega arith in z))
byte_of_cut (suc k) (suc b) v h =
    omega (arith, worth_bit k v, byte_of_cut k b v (omega arith), mod-pow-add v 1 k, ap (λ n. v % 2 ^ n) (let z : suc k - suc b ≡ k - b = omega arith in z), ap (λ n. v % 2 ^ n) (let z : 1 + k ≡ suc k = omega arith in z))

pub byte_first : (b v : ℕ) → b ≤ 8 → v < 256 → byte_of 8 (take b (byte_bits v)) ≡ v / 2 ^ (8 - b) * 2 ^ (8 - b)
unfolding low_bits
byte_first b v h g = omega (arith, byte_of_cut 8 b v h, split v (8 - b))

-- the bits of bits
back : (b : Bool) (k v hi lo : ℕ) → v ≡ (hi * 2 + one b) * 2 ^ k + lo → lo < 2 ^ k → bit_of k v ≡ b
unfolding bit_of
back b k v hi lo e h =
    ap (λ n. eqb (n / 2 ^ k % 2) 1) e ∙ ap (λ n. eqb (n % 2) 1) (high (hi * 2 + one b) k h)
    ∙ ap (λ n. eqb n 1) (let z : (hi * 2 + one b) % 2 ≡ one b = omega (arith, one_le b) in z) ∙ one_eqb b

low_bits_back : (k : ℕ) (l : List Bool) (hi : ℕ) → length l ≡ k → low_bits k (hi * 2 ^ k + byte_of k l) ≡ l
unfolding low_bits byte_of
low_bits_back zero [] hi h = refl
low_bits_back zero (b ∷ l) hi h = absurd (omega arith)
low_bits_back (suc k) [] hi h = absurd (omega arith)
low_bits_back (suc k) (b ∷ l) hi h =
    let v = hi * 2 ^ suc k + (worth b k + byte_of k l) in
    let e : v ≡ (hi * 2 + one b) * 2 ^ k + byte_of k l =
    omega (arith, ap (λ n. hi * n) (pow-succ' 2 k), sym (mul_assoc hi 2 (2 ^ k)), worth_is b k, add-mul (hi * 2) (one b) (2 ^ k)) in
    λ i. back b k v hi (byte_of k l) e (byte_of_lt k l) i ∷ (ap (low_bits k) e ∙ low_bits_back k l (hi * 2 + one b) (omega arith)) i

pub byte_back : (l : List Bool) → length l ≡ 8 → byte_bits (byte_of 8 l) ≡ l
unfolding low_bits
byte_back l h = ap byte_bits (let z : byte_of 8 l ≡ 0 * 2 ^ 8 + byte_of 8 l = omega arith in z) ∙ low_bits_back 8 l 0 h
