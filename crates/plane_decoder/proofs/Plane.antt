-- A plane, read: the first set and the rest.
use mathlib.Core.Path.{◌≡◌, sym, subst}
use mathlib.Core.List.{List}
use Prim.Native.Nat.{ℕ, ◌-◌, ◌≤◌}
use lib.IntN.{ℤ}
use lib.ListN.{length}
use Rattle.paper.specs.Walk.{Decoder, walk_set, walk_rest, walk_plane}
use Rattle.list_laws.specs.Parts.{part1, rest, after_rest, first_is, first_long, rest_is, rest_long, after_rest_is}
use Rattle.walk_laws.specs.Room.{Room, room_take, room_drop}
use Rattle.shapes.specs.Shapes.{IsSquare}
use Rattle.shapes.proofs.Cuts.{first_fits, square_set, square_rest}
use Rattle.shapes.proofs.Walks.{plane_ran}
use Rattle.set_decoder.specs.declared.tape.BitTape.{BitTape}
use Rattle.set_decoder.specs.Walked.{Walked}
use Rattle.set_decoder.proofs.Run.{decoder}
use Rattle.set_decoder.proofs.Set.{SetRead}
use Rattle.plane_decoder.proofs.Rest.{RestRead}

-- parts of numbers that leave room
pub first_room : (k q : ℕ) (xs : List ℤ) → Room k xs → Room k (part1 q xs)
first_room k q xs w = room_take k (q - 0) xs w

pub rest_room : (k q : ℕ) (xs : List ℤ) → Room k xs → q ≤ length xs → (z1 : List ℤ) → length z1 ≡ length (part1 q xs) → Room k (rest q xs z1)
rest_room k q xs w n z1 k1 = rw (rest_is q xs n z1 k1) (room_drop k q xs w)

-- a plane read, whatever its depth
abbrev pub PlaneRead : ℕ → ℕ → List ℤ → BitTape → List ℤ → BitTape → Type 0
PlaneRead p q xs s zs t = (K : IsSquare xs q) → Walked (walk_plane Decoder K.d K.L p xs) s zs t

pub plane_read : (p : ℕ) (xs : List ℤ) {q : ℕ} {s t u : BitTape} (z1 : List ℤ) → length z1 ≡ length (part1 q xs) → (z2 : List ℤ)
    → SetRead p (part1 q xs) s z1 t → RestRead p q (rest q xs z1) t z2 u → PlaneRead p q xs s (after_rest q xs z1 z2) u
plane_read p xs {q} {s} {t} {u} z1 k1 z2 X Y K =
    let n = first_fits K in
    subst (λ l. Walked (walk_plane Decoder K.d K.L p xs) s l u) (sym (after_rest_is q xs n z1 k1 z2))
    (plane_ran decoder p xs K
    (subst (λ l. Walked (walk_set Decoder p K.d l) s z1 t) (first_is q xs) (X (square_set K (first_long q xs n))))
    (subst (λ l. Walked (walk_rest Decoder p K.d K.L l) t z2 u) (rest_is q xs n z1 k1) (Y (square_rest K (rest_long q xs n z1 k1)))))
