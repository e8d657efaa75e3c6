-- The walk over the planes of wavelet numbers in Z order, said once for any way to come by a bit (a `Reading`).
-- The coder and the decoder are two readings of it: one asks the numbers, the other the bits.
use Rattle.std.specs.Prelude.{Bool, true, false, List, [], ◌∷◌, ◌++◌, ℕ, zero, suc, ◌+◌, ◌-◌, ◌/◌, ◌%◌, ◌^◌, max, leb, ltb, eqb, ℤ, pos, negsuc, neg_ℤ, nat_abs, length, take, drop, replicate}
use Rattle.std.proofs.Math.Option.{Option, none, some}
use Rattle.paper.specs.Sizes.{most_planes}
use Rattle.paper.specs.Lists.{pick}

-- ---- numbers, by sign and magnitude
abbrev pub negative : ℤ → Bool
negative (pos m) = false
negative (negsuc m) = true

abbrev pub signed : Bool → ℕ → ℤ
signed false m = pos m
signed true m = neg_ℤ (pos m)

-- bit p of a magnitude, and what a bit of plane p is worth
unfoldable pub bit_of : ℕ → ℕ → Bool
bit_of p m = eqb (m / 2 ^ p % 2) 1

abbrev pub worth : Bool → ℕ → ℕ
worth true p = 2 ^ p
worth false p = 0

-- some magnitude is t or more
unfoldable pub reaches : ℕ → List ℤ → Bool
reaches t [] = false
reaches t (x ∷ xs) = elim (leb t (nat_abs x)) [ true ↦ true | false ↦ reaches t xs ]

-- the largest magnitude
unfoldable pub largest : List ℤ → ℕ
largest [] = 0
largest (x ∷ xs) = max (nat_abs x) (largest xs)

-- the bits that a magnitude below 2 ^ most needs
unfoldable pub bits_needed : ℕ → ℕ → ℕ
bits_needed zero m = 0
bits_needed (suc most) m = elim (leb 1 m) [ true ↦ suc (bits_needed most (m / 2)) | false ↦ 0 ]

-- plane count n: the bits needed for the largest magnitude, 0 if all are zero
unfoldable pub plane_count : List ℤ → ℕ
plane_count xs = bits_needed most_planes (largest xs)

-- ---- the walk
-- What a bit is due on: a test of so many places in order (a set, the rest, or a number below 2T), one more bit of a number
-- that is 2T or more, or a sign.
pub data Due : Type 0 where
  test : ℕ → Due
  more : Due
  sign : Due

-- The lowest place not yet settled in the plane, after a bit: a closed set settles all its places, an open test none (so a 1 that
-- lacks its sign does not settle its number), one more bit and a sign their number.
abbrev pub place_after : Due → Bool → ℕ → ℕ
place_after (Due.test places) false place = place + places
place_after (Due.test places) true place = place
place_after Due.more b place = place + 1
place_after Due.sign b place = place + 1

-- How bits come and go. `ask due b`: one bit is due, and the numbers held say b; `none` if the bit is not there.
-- `hold x y`: x is held, and the bits now say y. `missed`, behind each plane: was a bit due that was not there?
pub record Reading : Type 1 where
  pub M : Type 0 → Type 0
  pub done : {A : Type 0} → A → M A
  pub then : {A B : Type 0} → M A → (A → M B) → M B
  pub ask : Due → Bool → M (Option Bool)
  pub hold : ℤ → ℤ → ℤ
  pub missed : M Bool

module _ (R : Reading) where
  infixl 1 ◌>>=◌
  abbrev ◌>>=◌ : {A B : Type 0} → R.M A → (A → R.M B) → R.M B
  m >>= f = R.then m f

  -- a bit that is not there opens nothing
  abbrev pub is_one : Option Bool → Bool
  is_one none = false
  is_one (some b) = b

  -- A test: if some magnitude is 2T or more, no bit, open. Else one bit: 1 and open if some magnitude is T or more.
  unfoldable pub test_set : ℕ → List ℤ → R.M Bool
  test_set p xs = elim (reaches (2 ^ suc p) xs) [
    | true ↦ R.done true
    | false ↦ (do
      b ← R.ask (Due.test (length xs)) (reaches (2 ^ p) xs)
      R.done (is_one b))
  ]

  -- a number of magnitude 2T or more, after its bit of this plane
  unfoldable pub refined : ℕ → ℤ → Option Bool → ℤ
  refined p x none = x
  refined p x (some b) = R.hold x (signed (negative x) (nat_abs x + worth b p))

  -- a number found to be T or more, after its sign bit; a 1 whose sign bit isn't there yet settles nothing
  unfoldable pub begun : ℕ → ℤ → Option Bool → ℤ
  begun p x none = x
  begun p x (some s) = R.hold x (signed s (2 ^ p))

  -- A number: if its magnitude is 2T or more, one bit, bit p of the magnitude. Else one bit, 1 if the magnitude is T
  -- or more; after a 1, one sign bit, 1 for negative. The number comes back as a list of one.
  unfoldable pub walk_number : ℕ → ℤ → R.M (List ℤ)
  walk_number p x = elim (leb (2 ^ suc p) (nat_abs x)) [
    | true ↦ (do
      b ← R.ask Due.more (bit_of p (nat_abs x))
      R.done (refined p x b ∷ []))
    | false ↦ (do
      b ← R.ask (Due.test 1) (leb (2 ^ p) (nat_abs x))
      elim (is_one b) [
        | true ↦ (do
          s ← R.ask Due.sign (negative x)
          R.done (begun p x s ∷ []))
        | false ↦ R.done (x ∷ [])
      ])
  ]

  -- one part of the numbers, then the next
  infixr 5 ◌next◌
  unfoldable pub ◌next◌ : R.M (List ℤ) → R.M (List ℤ) → R.M (List ℤ)
  m next m' = do
    a ← m
    b ← m'
    R.done (a ++ b)

  -- numbers in order
  unfoldable pub walk_numbers : ℕ → List ℤ → R.M (List ℤ)
  walk_numbers p [] = R.done []
  walk_numbers p (x ∷ xs) = walk_number p x next walk_numbers p xs

  -- To code a set, of length 4 ^ suc d: test it; if open and its length is 4, its four numbers in order; if open and
  -- longer, a set splits into four quarters of equal length, in order.
  unfoldable pub walk_set : ℕ → ℕ → List ℤ → R.M (List ℤ)
  walk_set p zero xs = do
    o ← test_set p xs
    elim o [ true ↦ walk_numbers p xs | false ↦ R.done xs ]
  walk_set p (suc d) xs = do
    o ← test_set p xs
    let q = 4 ^ suc d
    elim o [
      | true ↦ walk_set p d (take q xs)
          next walk_set p d (take q (drop q xs))
          next walk_set p d (take q (drop q (drop q xs)))
          next walk_set p d (drop q (drop q (drop q xs)))
      | false ↦ R.done xs
    ]

  -- The rest, from q = 4 ^ suc d to the end, where q grows fourfold `left` times: test it; if it has nothing to open,
  -- the plane ends; else the sets starting at q, 2q and 3q, each of length q, then q becomes 4q.
  unfoldable pub walk_rest : ℕ → ℕ → ℕ → List ℤ → R.M (List ℤ)
  walk_rest p d zero xs = R.done xs
  walk_rest p d (suc left) xs = do
    o ← test_set p xs
    let q = 4 ^ suc d
    elim o [
      | true ↦ walk_set p d (take q xs)
          next walk_set p d (take q (drop q xs))
          next walk_set p d (take q (drop q (drop q xs)))
          next walk_rest p (suc d) left (drop q (drop q (drop q xs)))
      | false ↦ R.done xs
    ]

  -- One plane: the set of the first 4 ^ suc d places, then the rest, over L levels.
  unfoldable pub walk_plane : ℕ → ℕ → ℕ → List ℤ → R.M (List ℤ)
  walk_plane d L p xs = let q = 4 ^ suc d in walk_set p d (take q xs) next walk_rest p d L (drop q xs)

  -- Planes n - 1 down to 0: the numbers held, and p, the planes not every bit of which has been read.
  unfoldable pub walk_planes : ℕ → ℕ → ℕ → List ℤ → R.M (List ℤ × ℕ)
  walk_planes d L zero xs = R.done (xs, 0)
  walk_planes d L (suc p) xs = do
    ys ← walk_plane d L p xs
    s ← R.missed
    elim s [ true ↦ R.done (ys, suc p) | false ↦ walk_planes d L p ys ]

-- ---- its two readings
-- the coder holds the true numbers and writes what they say
abbrev pub Coder : Reading
Coder = record {
  M = λ A. A × List Bool;
  done = λ a. (a, []);
  then = λ m f. let r = f m.0 in (r.0, m.1 ++ r.1);
  ask = λ due b. (some b, b ∷ []);
  hold = λ x y. x;
  missed = (false, []);
}

-- the bits that are left, whether one was missed, and the lowest place not yet settled in the running plane
pub record Tape : Type 0 where
  pub left : List Bool
  pub missed : Bool
  pub place : ℕ

-- a bit that is not there settles nothing
abbrev pub next_bit : Due → List Bool → Bool → ℕ → Option Bool × Tape
next_bit due [] m place = (none, record { left = []; missed = true; place = place })
next_bit due (b ∷ l) m place = (some b, record { left = l; missed = m; place = place_after due b place })

-- behind a plane: where no bit was missed it is finished, and of the next one nothing is settled
abbrev pub behind_plane : Tape → Tape
behind_plane t = record { left = t.left; missed = t.missed; place = pick t.missed t.place 0 }

-- the decoder holds what the bits have said so far; a number's unread bits are zero
abbrev pub Decoder : Reading
Decoder = record {
  M = λ A. (Tape → A × Tape);
  done = λ a t. (a, t);
  then = λ m f t. let r = m t in f r.0 r.1;
  ask = λ due b t. next_bit due t.left t.missed t.place;
  hold = λ x y. y;
  missed = λ t. (t.missed, behind_plane t);
}

-- the depth d of the first set, which has (S / 2 ^ L)² = 4 ^ suc d places
abbrev pub depth : ℕ → ℕ → ℕ
depth k L = k - suc L

-- every bit of the coding of numbers xs
unfoldable pub code_of : ℕ → ℕ → List ℤ → List Bool
code_of k L xs = (walk_planes Coder (depth k L) L (plane_count xs) xs).1

-- what bits decode to: the numbers settled, zero elsewhere; the planes unfinished; the bits read; the lowest place not yet settled
-- in the running plane, 0 where none is running
pub record Settled : Type 0 where
  pub numbers : List ℤ
  pub unfinished : ℕ
  pub read : ℕ
  pub place : ℕ

unfoldable pub decode_of : ℕ → ℕ → ℕ → List Bool → Settled
decode_of k L n l =
    let r = walk_planes Decoder (depth k L) L n (replicate (4 ^ k) (pos 0)) (record { left = l; missed = false; place = 0 }) in
    record { numbers = r.0.0; unfinished = r.0.1; read = length l - length r.1.left; place = r.1.place }

-- the low bits of number i that are unread where p planes are unfinished: the running plane has settled those before its place
unfoldable pub unread_at : ℕ → ℕ → ℕ → ℕ
unread_at p place i = pick (ltb i place) (p - 1) p
