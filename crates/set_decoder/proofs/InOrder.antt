-- Numbers in order, each read and stored: what holds before each.
use mathlib.Core.Path.{◌≡◌, refl, sym, ap, ◌∙◌, subst}
use mathlib.Core.Bool.{Bool, true, false}
use mathlib.Core.List.{List, [], ◌∷◌, ◌++◌, append-nil, append_assoc}
use Prim.Native.Nat.{ℕ, suc, ◌+◌, ◌^◌, ◌<◌, ◌≤◌}
use native.Mathlib.Omega.{arith}
use native.Mathlib.Numerals.{add-one}
use lib.Dec.{ltb}
use lib.Pow.{pow_pos, pow-lt}
use borrow.Author.Tests.{ltb-true, ltb-false}
use lib.IntN.{ℤ, pos, nat_abs}
use lib.ListN.{length, take, drop, set, length-set, drop_of_length-le}
use lib.Seq.{drop-cons, drop-set-lt, take-suc-set, take_all}
use Rattle.paper.specs.Sizes.{most_planes}
use Rattle.paper.specs.Lists.{at}
use Rattle.paper.specs.Walk.{Decoder, walk_number, walk_numbers}
use Rattle.integer_laws.specs.Machine.{read}
use Rattle.walk_laws.specs.Place.{moves_number}
use Rattle.walk_laws.specs.Room.{Room, number_leaves, room_at}
use Rattle.set_decoder.specs.declared.tape.BitTape.{BitTape}
use Rattle.set_decoder.specs.Walked.{tape_at, Walked}
use Rattle.set_decoder.proofs.Run.{done, next_walked, reached}
use Rattle.set_decoder.proofs.Sign.{kept, within, held}

-- before number i: what is read from here on is read from the start, and the numbers from i on are as they were
pub record Before (p : ℕ) (xs₀ : List ℤ) (start : BitTape) (i : ℕ) (xs : List ℤ) (tape : BitTape) : Type 0 where
  pub onward : {zs : List ℤ} {t : BitTape} → Walked (walk_numbers Decoder p (drop i xs₀)) tape zs t → Walked (walk_numbers Decoder p xs₀) start (take i xs ++ zs) t
  pub untouched : drop i xs ≡ drop i xs₀
  pub reached : tape.place ≤ start.place + i
  pub same : length xs ≡ length xs₀

pub before_first : (p : ℕ) (xs : List ℤ) (tape : BitTape) → Before p xs tape 0 xs tape
before_first p xs tape = record { onward = λ X. X; untouched = refl; reached = omega arith; same = refl }

module _ {p : ℕ} {xs₀ : List ℤ} {start : BitTape} {i : ℕ} {xs : List ℤ} {tape : BitTape} (B : Before p xs₀ start i xs tape) where
  -- the numbers are read
  pub all_read : length xs₀ ≤ i → Walked (walk_numbers Decoder p xs₀) start xs tape
  unfolding walk_numbers
  all_read h =
      let e : take i xs ++ [] ≡ xs = append-nil (take i xs) ∙ take_all i xs (omega (arith, B.same)) in
      let d : [] ≡ drop i xs₀ = sym (drop_of_length-le xs₀ h) in
      subst (λ l. Walked (walk_numbers Decoder p xs₀) start l tape) e (B.onward (subst (λ l. Walked (walk_numbers Decoder p l) tape [] tape) d (done tape [])))

  module _ (w : Room (suc p) xs₀) (h : i < length xs₀) where
    abbrev x : ℤ
    x = at xs₀ i

    room : nat_abs x + 2 ^ suc p ≤ 2 ^ most_planes
    room = room_at (suc p) xs₀ i h w

    low : p < most_planes
    low = go (ltb p most_planes) refl
      where
        go : (b : Bool) → ltb p most_planes ≡ b → p < most_planes
        go true e = ltb-true p most_planes e
        go false e = absurd (omega (arith, room, pow-lt {i = most_planes} {j = suc p} (omega (arith, ltb-false p most_planes e))))

    front : drop i xs ≡ at xs i ∷ drop (suc i) xs
    front = drop-cons xs i (pos 0) (omega (arith, B.same))

    front₀ : drop i xs₀ ≡ x ∷ drop (suc i) xs₀
    front₀ = drop-cons xs₀ i (pos 0) h

    split : at xs i ∷ drop (suc i) xs ≡ x ∷ drop (suc i) xs₀
    split = sym front ∙ B.untouched ∙ front₀

    as_was : at xs i ≡ x
    as_was = cc split

    -- what the next number needs
    pub ready : nat_abs (kept (at xs i)) + 2 ^ suc p ≤ 2 ^ most_planes
    ready = rw (as_was, held x p room) room

    pub one_left : start.place + length xs₀ < 2 ^ 64 → tape.place + 1 < 2 ^ 64
    one_left f = omega (arith, B.reached)

    module _ (y : ℤ) (r : BitTape) (X : Walked (walk_number Decoder p (kept (at xs i))) tape (y ∷ []) r) where
      was : Walked (walk_number Decoder p x) tape (y ∷ []) r
      was = rw (as_was, held x p room) at X

      stored : kept y ≡ y
      stored = let v : Room p (y ∷ []) = subst (λ c. Room p c.0) was.is ((number_leaves p low x room).room (tape_at tape)) in read (within y (omega (arith, v.0, pow_pos p))) tt

      pub before_next : Before p xs₀ start (i + 1) (set xs i (kept y)) r
      unfolding walk_numbers
      before_next = rw (stored, add-one i) (record {
        onward = λ {zs} {t} Y.
            let e : take (suc i) (set xs i y) ++ zs ≡ take i xs ++ (y ∷ zs) = ap (λ l. l ++ zs) (take-suc-set xs i y (omega (arith, B.same))) ∙ append_assoc (take i xs) (y ∷ []) zs in
            subst (λ l. Walked (walk_numbers Decoder p xs₀) start l t) (sym e)
            (B.onward (subst (λ l. Walked (walk_numbers Decoder p l) tape (y ∷ zs) t) (sym front₀) (next_walked was Y)));
        untouched = drop-set-lt (suc i) xs i y (omega arith) ∙ cc split;
        reached = omega (arith, B.reached, reached (moves_number p x) was);
        same = length-set xs i y ∙ B.same;
      })
