-- Three sets of length q, and a set in its quarters, read.
use mathlib.Core.Path.{◌≡◌, sym, subst}
use mathlib.Core.Bool.{Bool, true}
use mathlib.Core.List.{List}
use Prim.Native.Nat.{ℕ, ◌+◌, ◌*◌, ◌-◌, ◌/◌, ◌≤◌}
use lib.IntN.{ℤ}
use lib.ListN.{length, drop}
use Rattle.paper.specs.Walk.{Decoder, test_set, walk_set}
use Rattle.list_laws.specs.Parts.{part1, part2, part3, part4, after4, first_is, part2_is, part3_is, part4_is, cut1_long, part2_long, part3_long, part4_long, after4_is}
use Rattle.walk_laws.specs.Place.{moves_set}
use Rattle.walk_laws.specs.Room.{Room, room_take, room_drop}
use Rattle.shapes.specs.Shapes.{IsSet}
use Rattle.shapes.proofs.Cuts.{Cut, part_set, Quarters, last_quarter}
use Rattle.shapes.proofs.Walks.{Three, part_ran, set_quarters}
use Rattle.set_decoder.specs.declared.tape.BitTape.{BitTape}
use Rattle.set_decoder.specs.Walked.{Walked}
use Rattle.set_decoder.proofs.Run.{decoder, reached}

-- parts of numbers that leave room
module _ (k q : ℕ) (xs : List ℤ) (fits : q * 3 ≤ length xs) (w : Room k xs) where
  pub room1 : Room k (part1 q xs)
  room1 = room_take k (q - 0) xs w

  w2 : Room k (drop q xs)
  w2 = room_drop k q xs w

  w3 : Room k (drop q (drop q xs))
  w3 = room_drop k q (drop q xs) w2

  module _ (z1 : List ℤ) (k1 : length z1 ≡ length (part1 q xs)) where
    pub room2 : Room k (part2 q xs z1)
    room2 = rw (part2_is q xs fits z1 k1) (room_take k q (drop q xs) w2)

    module _ (z2 : List ℤ) (k2 : length z2 ≡ length (part2 q xs z1)) where
      pub room3 : Room k (part3 q xs z1 z2)
      room3 = rw (part3_is q xs fits z1 k1 z2 k2) (room_take k q (drop q (drop q xs)) w3)

      pub room4 : (z3 : List ℤ) → length z3 ≡ length (part3 q xs z1 z2) → Room k (part4 q xs z1 z2 z3)
      room4 z3 k3 = rw (part4_is q xs fits z1 k1 z2 k2 z3 k3) (room_drop k q (drop q (drop q xs)) w3)

-- a set read, whatever its depth
abbrev pub SetRead : ℕ → List ℤ → BitTape → List ℤ → BitTape → Type 0
SetRead p xs s zs t = (S : IsSet xs) → Walked (walk_set Decoder p S.d xs) s zs t

-- where the tape is behind one of the sets
pub set_reached : (p : ℕ) {xs part zs : List ℤ} {q : ℕ} {s t : BitTape} → Cut xs q → length part ≡ q → SetRead p part s zs t → t.place ≤ s.place + q
set_reached p {part = part} C m X = let K = part_set C m in rw m at (reached (moves_set p K.d part K.is) (X K))

module _ (p : ℕ) (xs : List ℤ) {s t₁ t₂ t₃ : BitTape} where
  pub three_read : {q : ℕ} (C : Cut xs q) (z1 : List ℤ) (k1 : length z1 ≡ length (part1 q xs)) (z2 : List ℤ) (k2 : length z2 ≡ length (part2 q xs z1)) {z3 : List ℤ}
      → SetRead p (part1 q xs) s z1 t₁ → SetRead p (part2 q xs z1) t₁ z2 t₂ → SetRead p (part3 q xs z1 z2) t₂ z3 t₃
      → Three decoder p C.d q xs s z1 t₁ z2 t₂ z3 t₃
  three_read {q} C z1 k1 z2 k2 X₁ X₂ X₃ =
      let n = C.three in
      record {
        one = part_ran decoder p C (first_is q xs) (cut1_long q xs n) X₁;
        two = part_ran decoder p C (part2_is q xs n z1 k1) (part2_long q xs n z1 k1) X₂;
        three = part_ran decoder p C (part3_is q xs n z1 k1 z2 k2) (part3_long q xs n z1 k1 z2 k2) X₃;
      }

  pub quarters_read : {at t₄ : BitTape} {o : Bool} → Walked (test_set Decoder p xs) at o s → (Q : Quarters xs) → o ≡ true
      → (z1 : List ℤ) (k1 : length z1 ≡ length (part1 (length xs / 4) xs)) (z2 : List ℤ) (k2 : length z2 ≡ length (part2 (length xs / 4) xs z1)) (z3 : List ℤ) (k3 : length z3 ≡ length (part3 (length xs / 4) xs z1 z2)) (z4 : List ℤ)
      → SetRead p (part1 (length xs / 4) xs) s z1 t₁ → SetRead p (part2 (length xs / 4) xs z1) t₁ z2 t₂ → SetRead p (part3 (length xs / 4) xs z1 z2) t₂ z3 t₃
      → SetRead p (part4 (length xs / 4) xs z1 z2 z3) t₃ z4 t₄ → SetRead p xs at (after4 (length xs / 4) xs z1 z2 z3 z4) t₄
  quarters_read {at} {t₄} T Q e z1 k1 z2 k2 z3 k3 z4 X₁ X₂ X₃ X₄ S =
      let q = length xs / 4 in
      let n = Q.cut.three in
      subst (λ l. Walked (walk_set Decoder p S.d xs) at l t₄) (sym (after4_is q xs n z1 k1 z2 k2 z3 k3 z4))
      (set_quarters decoder p xs T Q e (three_read Q.cut z1 k1 z2 k2 X₁ X₂ X₃)
      (part_ran decoder p Q.cut (part4_is q xs n z1 k1 z2 k2 z3 k3) (last_quarter Q _ (part4_long q xs n z1 k1 z2 k2 z3 k3)) X₄) S)
