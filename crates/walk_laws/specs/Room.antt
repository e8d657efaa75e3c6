-- Each plane of a decoding adds at most its weight to a magnitude, so that decoded numbers stay within the limit.
use Rattle.std.specs.Prelude.{◌≡◌, Bool, true, false, ◌&&◌, leb, ℤ, pos, length, take, drop, replicate}
use Rattle.std.proofs.Math.Path.{refl}
use Rattle.std.proofs.Math.Option.{Option, none, some}
use mathlib.Core.List.{List, [], ◌∷◌, ◌++◌}
use Prim.Native.Nat.{ℕ, zero, suc, ◌+◌, ◌^◌, ◌<◌, ◌≤◌}
use Rattle.std.proofs.Math.Nat.{pow-succ'}
use Rattle.std.proofs.Common.{arith, pow_pos, pow_mono, le-leb}
use Rattle.std.proofs.Math.IntN.{nat_abs}
use Rattle.paper.specs.Sizes.{numbers_in, number_limit, most_planes}
use Rattle.paper.specs.Lists.{at}
use Rattle.paper.specs.Walk.{negative, worth, Due, Decoder, Tape, behind_plane, next_bit, is_one, test_set, refined, begun, walk_number, walk_numbers, walk_set, walk_rest, walk_plane, walk_planes, depth, decode_of, ◌next◌}
use Rattle.walk_laws.specs.Cleared.{nat_abs_signed}
use Rattle.list_laws.specs.Parts.{fourth}
use Rattle.walk_laws.specs.Asks.{number_known, number_asks, after_bit, opened}
use Rattle.walk_laws.specs.Together.{tape, Decodes}

-- every magnitude leaves room for 2 ^ k below 2 ^ mostPlanes
abbrev pub Room : ℕ → List ℤ → Type 0
Room k [] = Unit {0}
Room k (x ∷ xs) = (nat_abs x + 2 ^ k ≤ 2 ^ most_planes) × Room k xs

-- ---- parts of a list
pub room_at : (k : ℕ) (xs : List ℤ) (i : ℕ) → i < length xs → Room k xs → nat_abs (at xs i) + 2 ^ k ≤ 2 ^ most_planes
room_at k [] i h w = absurd (omega arith)
room_at k (x ∷ xs) zero h w = w.0
room_at k (x ∷ xs) (suc i) h w = room_at k xs i (omega arith) w.1

pub room_take : (k n : ℕ) (xs : List ℤ) → Room k xs → Room k (take n xs)
room_take k zero xs w = tt
room_take k (suc n) [] w = tt
room_take k (suc n) (x ∷ xs) w = (w.0, room_take k n xs w.1)

pub room_drop : (k n : ℕ) (xs : List ℤ) → Room k xs → Room k (drop n xs)
room_drop k zero xs w = w
room_drop k (suc n) [] w = tt
room_drop k (suc n) (x ∷ xs) w = room_drop k n xs w.1

room_append : (k : ℕ) (xs ys : List ℤ) → Room k xs → Room k ys → Room k (xs ++ ys)
room_append k [] ys w v = v
room_append k (x ∷ xs) ys w v = (w.0, room_append k xs ys w.1 v)

room_less : (k : ℕ) (xs : List ℤ) → Room (suc k) xs → Room k xs
room_less k [] w = tt
room_less k (x ∷ xs) w = (omega (arith, w.0, pow-succ' 2 k), room_less k xs w.1)

-- numbers that are 0 leave all room; numbers that leave some are within the limit
pub room_zeros : (k n : ℕ) → k ≤ most_planes → Room k (replicate n (pos 0))
room_zeros k zero h = tt
room_zeros k (suc n) h = (omega (arith, pow_mono h), room_zeros k n h)

pub room_in : (k : ℕ) (xs : List ℤ) → Room k xs → numbers_in xs ≡ true
unfolding numbers_in
room_in k [] w = refl
room_in k (x ∷ xs) w = (λ i. le-leb (nat_abs x) number_limit (omega (arith, w.0, pow_pos k)) i && room_in k xs w.1 i)

-- ---- one plane
-- whatever the bits, the walk's numbers leave room for 2 ^ p
pub record Leaves (p : ℕ) (f : Decodes (List ℤ)) : Type 0 where
  pub room : (t : Tape) → Room p (f t).0

worth_most : (b : Bool) (p : ℕ) → worth b p ≤ 2 ^ p
worth_most true p = omega arith
worth_most false p = omega arith

module _ (p : ℕ) (low : p < most_planes) where
  pub number_leaves : (x : ℤ) → nat_abs x + 2 ^ suc p ≤ 2 ^ most_planes → Leaves p (walk_number Decoder p x)
  unfolding refined begun
  number_leaves x h = record { room = λ t. go t (leb (2 ^ suc p) (nat_abs x)) refl }
    where
      same : nat_abs x + 2 ^ p ≤ 2 ^ most_planes
      same = omega (arith, pow-succ' 2 p)

      refined_in : (b : Option Bool) → nat_abs (refined Decoder p x b) + 2 ^ p ≤ 2 ^ most_planes
      refined_in none = same
      refined_in (some b) = omega (arith, nat_abs_signed (negative x) (nat_abs x + worth b p), worth_most b p, pow-succ' 2 p)

      begun_in : (b : Option Bool) → nat_abs (begun Decoder p x b) + 2 ^ p ≤ 2 ^ most_planes
      begun_in none = same
      begun_in (some s) = omega (arith, nat_abs_signed s (2 ^ p), pow_mono low, pow-succ' 2 p)

      after : (o : Bool) (t : Tape) → Room p (after_bit Decoder p x o t).0
      after true t = (begun_in (next_bit Due.sign t.left t.missed t.place).0, tt)
      after false t = (same, tt)

      go : (t : Tape) (b : Bool) → leb (2 ^ suc p) (nat_abs x) ≡ b → Room p (walk_number Decoder p x t).0
      go t true e = rw (number_known Decoder p x e) (refined_in (next_bit Due.more t.left t.missed t.place).0, tt)
      go t false e = rw (number_asks Decoder p x e) (after (is_one Decoder (next_bit (Due.test 1) t.left t.missed t.place).0) (next_bit (Due.test 1) t.left t.missed t.place).1)

  next_leaves : {f g : Decodes (List ℤ)} → Leaves p f → Leaves p g → Leaves p (◌next◌ Decoder f g)
  unfolding ◌next◌
  next_leaves {f} {g} F G = record { room = λ t. room_append p (f t).0 (g (f t).1).0 (F.room t) (G.room (f t).1) }

  numbers_leave : (xs : List ℤ) → Room (suc p) xs → Leaves p (walk_numbers Decoder p xs)
  unfolding walk_numbers
  numbers_leave [] w = record { room = λ t. tt }
  numbers_leave (x ∷ xs) w = next_leaves (number_leaves x w.0) (numbers_leave xs w.1)

  tested_leaves : (xs : List ℤ) {f : Decodes (List ℤ)} → Room (suc p) xs → Leaves p f → Leaves p (Decoder.then (test_set Decoder p xs) (opened Decoder xs f))
  tested_leaves xs {f} w F = record { room = λ t. go (test_set Decoder p xs t).0 (test_set Decoder p xs t).1 }
    where
      go : (o : Bool) (t : Tape) → Room p (opened Decoder xs f o t).0
      go true t = F.room t
      go false t = room_less p xs w

  three_leave : (q : ℕ) (xs : List ℤ) (f g : List ℤ → Decodes (List ℤ)) → ((ys : List ℤ) → Room (suc p) ys → Leaves p (f ys)) → ((ys : List ℤ) → Room (suc p) ys → Leaves p (g ys)) → Room (suc p) xs
      → Leaves p (◌next◌ Decoder (f (take q xs)) (◌next◌ Decoder (f (take q (drop q xs))) (◌next◌ Decoder (f (take q (drop q (drop q xs)))) (g (fourth q xs)))))
  three_leave q xs f g F G w =
      let k = suc p in
      let w1 = room_drop k q xs w in
      let w2 = room_drop k q (drop q xs) w1 in
      let w3 = room_drop k q (drop q (drop q xs)) w2 in
      next_leaves (F _ (room_take k q xs w)) (next_leaves (F _ (room_take k q (drop q xs) w1)) (next_leaves (F _ (room_take k q (drop q (drop q xs)) w2)) (G _ w3)))

  set_leaves : (d : ℕ) (xs : List ℤ) → Room (suc p) xs → Leaves p (walk_set Decoder p d xs)
  unfolding walk_set
  set_leaves zero xs w = tested_leaves xs w (numbers_leave xs w)
  set_leaves (suc d) xs w = tested_leaves xs w (three_leave (4 ^ suc d) xs (walk_set Decoder p d) (walk_set Decoder p d) (set_leaves d) (set_leaves d) w)

  rest_leaves : (d left : ℕ) (xs : List ℤ) → Room (suc p) xs → Leaves p (walk_rest Decoder p d left xs)
  unfolding walk_rest
  rest_leaves d zero xs w = record { room = λ t. room_less p xs w }
  rest_leaves d (suc left) xs w = tested_leaves xs w (three_leave (4 ^ suc d) xs (walk_set Decoder p d) (walk_rest Decoder p (suc d) left) (set_leaves d) (rest_leaves (suc d) left) w)

  pub plane_leaves : (d L : ℕ) (xs : List ℤ) → Room (suc p) xs → Leaves p (walk_plane Decoder d L p xs)
  unfolding walk_plane
  plane_leaves d L xs w = let q = 4 ^ suc d in next_leaves (set_leaves d (take q xs) (room_take (suc p) q xs w)) (rest_leaves d L (drop q xs) (room_drop (suc p) q xs w))

-- ---- the planes
planes_in_lem : (d L n : ℕ) (xs : List ℤ) (t : Tape) → n ≤ most_planes → Room n xs → numbers_in (walk_planes Decoder d L n xs t).0.0 ≡ true
unfolding walk_planes
planes_in_lem d L zero xs t h w = room_in 0 xs w
planes_in_lem d L (suc p) xs t h w = go (walk_plane Decoder d L p xs t).1.missed (λ ys r. planes_in_lem d L p ys r (omega arith))
  where
    left : Room p (walk_plane Decoder d L p xs t).0
    left = (plane_leaves p h d L xs w).room t

    go : (m : Bool) → ((ys : List ℤ) (t : Tape) → Room p ys → numbers_in (walk_planes Decoder d L p ys t).0.0 ≡ true)
        → numbers_in ((elim m as (λ _. Decodes (List ℤ × ℕ)) [ true ↦ Decoder.done ((walk_plane Decoder d L p xs t).0, suc p) | false ↦ walk_planes Decoder d L p (walk_plane Decoder d L p xs t).0 ]) (behind_plane (walk_plane Decoder d L p xs t).1)).0.0 ≡ true
    go true ih = room_in p _ left
    go false ih = ih _ _ left

-- Whatever the bits, what they decode to is within the limit.
pub decoded_in : (k L n : ℕ) (l : List Bool) → n ≤ most_planes → numbers_in (decode_of k L n l).numbers ≡ true
unfolding decode_of
decoded_in k L n l h = planes_in_lem (depth k L) L n (replicate (4 ^ k) (pos 0)) (tape l false 0) h (room_zeros n (4 ^ k) h)
