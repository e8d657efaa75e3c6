-- The decoder runs the walk over a tape: one part goes on where the other left off.
use mathlib.Core.Path.{◌≡◌, refl, sym, ap, ◌∙◌}
use mathlib.Core.Bool.{Bool, true, false}
use mathlib.Core.List.{List, [], ◌++◌}
use Prim.Native.Nat.{ℕ, ◌+◌, ◌*◌, ◌≤◌}
use native.Mathlib.Omega.{arith}
use lib.Dec.{ltb}
use borrow.Author.Tests.{ltb-true}
use lib.IntN.{ℤ}
use lib.ListN.{length, take, drop, length-take, drop_of_length-le}
use Rattle.paper.specs.Bits.{bits}
use Rattle.paper.specs.Walk.{Decoder, Tape, test_set, ◌next◌}
use Rattle.walk_laws.specs.Together.{tape, Decodes}
use Rattle.walk_laws.specs.Place.{Moved, past, within, Moves, open_still}
use Rattle.bits.specs.Bits.{tape_of}
use Rattle.bits.proofs.OneBit.{tape_settled}
use Rattle.shapes.proofs.Walks.{Running}
use Rattle.set_decoder.specs.declared.tape.BitTape.{BitTape}
use Rattle.set_decoder.specs.Walked.{tape_at, Walked, Here, here_of, WalkedAt}

pub done : {A : Type 0} (s : BitTape) (a : A) → Walked (Decoder.done a) s a s
done s a = record { is = refl; bytes = refl; count = refl }

pub then_walked : {A B : Type 0} {m : Decodes A} {s t u : BitTape} {x : A} {y : B} (f : A → Decodes B) → Walked m s x t → Walked (f x) t y u → Walked (Decoder.then m f) s y u
then_walked f X Y = record { is = ap (λ r. f r.0 r.1) X.is ∙ Y.is; bytes = Y.bytes ∙ X.bytes; count = Y.count ∙ X.count }

-- one part of the numbers, then the next
pub next_walked : {m n : Decodes (List ℤ)} {s t u : BitTape} {xs ys : List ℤ} → Walked m s xs t → Walked n t ys u → Walked (◌next◌ Decoder m n) s (xs ++ ys) u
unfolding ◌next◌
next_walked {n = n} {u = u} {xs = xs} {ys} X Y = then_walked (λ xs. Decoder.then n (λ ys. Decoder.done (xs ++ ys))) X (then_walked (λ ys. Decoder.done (xs ++ ys)) Y (done u (xs ++ ys)))

abbrev pub decoder : Running Decoder BitTape
decoder = record { Ran = λ f s a t. Walked f s a t; still = λ {t = t} X a. done t a; on = then_walked }

-- ---- where a walk is
module _ (s : BitTape) where
  abbrev b : ℕ
  b = s.source.count

  abbrev lent : List Bool
  lent = take b (bits s.source.bytes.now)

  -- with bits to come, or with a bit missed and none left
  tape_is : (m : Bool) → ltb b s.source.place ≡ m → tape_at s ≡ tape (drop s.source.place lent) m s.place
  unfolding tape_of
  tape_is m e = ap (λ m. tape (drop s.source.place lent) m s.place) e

  out : ltb b s.source.place ≡ true → drop s.source.place lent ≡ []
  out e = let n : length lent ≤ s.source.place = omega (arith, ltb-true b s.source.place e, length-take b (bits s.source.bytes.now)) in drop_of_length-le lent n

  moved_most : {n : ℕ} {f : Decodes (List ℤ)} → Moves n f → (f (tape_at s)).1.place ≤ s.place + n
  moved_most {n} {f} M = go (ltb b s.source.place) refl
    where
      to : (z : ℕ) {t : Tape} → Moved n z t → t.place ≤ z + n
      to z (past l e) = omega (arith, ap (λ (t : Tape). t.place) e)
      to z (within j h e) = omega (arith, h, ap (λ (t : Tape). t.place) e)

      go : (m : Bool) → ltb b s.source.place ≡ m → (f (tape_at s)).1.place ≤ s.place + n
      go false e = rw (tape_is false e) (to s.place (M.moved _ _))
      go true e = rw (tape_is true e, out e) (omega (arith, ap (λ (t : Tape). t.place) (M.still s.place)))

-- behind a walk over some of the places
pub reached : {s t : BitTape} {n : ℕ} {f : Decodes (List ℤ)} {a : List ℤ} → Moves n f → Walked f s a t → t.place ≤ s.place + n
unfolding tape_of
reached {s} M W = omega (arith, moved_most s M, ap (λ r. r.1.place) W.is)

-- behind a test that is open
pub inside : (p : ℕ) (xs : List ℤ) {s t : BitTape} {o : Bool} → Walked (test_set Decoder p xs) s o t → o ≡ true → t.place ≤ s.place
unfolding tape_of
inside p xs {s} W e =
    let still = open_still p xs (tape_at s) (ap (λ r. r.0) W.is ∙ e) in
    omega (arith, still, ap (λ r. r.1.place) W.is)

-- ---- no second outcome: what the walk answers and where it leaves off are settled
-- over plain lists and numbers
pub walked_once : {A : Type 0} {f : Decodes A} {bytes : List ℕ} {b : ℕ} {s : Here} {x y : A} {t u : Here} → b ≤ 8 * length bytes → WalkedAt f bytes b s x t → WalkedAt f bytes b s y u → (x ≡ y) × (t ≡ u)
unfolding tape_of
walked_once {A} {f} {bytes} {b} {s} {x} {y} {t} {u} h W U =
    let e : ◌≡◌ {A = A × Tape} (x, tape_of bytes b t.at t.place) (y, tape_of bytes b u.at u.place) = sym W.is ∙ U.is in
    let at = tape_settled bytes b t.at u.at t.place u.place h W.near U.near (ap (λ v. v.1) e) in
    (ap (λ v. v.0) e, (λ i. record { at = at i; place = ap (λ v. v.1.place) e i }))

-- a walk over tapes is one over their bytes and numbers
pub walked_at : {A : Type 0} {f : Decodes A} {s t : BitTape} {x : A} → Walked f s x t → WalkedAt f s.source.bytes.now s.source.count (here_of s) x (here_of t)
walked_at {t = t} {x} W = record { is = W.is ∙ (λ i. (x, tape_of (W.bytes i) (W.count i) t.source.place t.place)); near = omega (arith, t.near, W.count) }

-- over tapes
pub tapes_once : {A : Type 0} {f : Decodes A} {s : BitTape} {x y : A} {t u : BitTape} → Walked f s x t → Walked f s y u
    → (x ≡ y) × (t.source.bytes.now ≡ u.source.bytes.now) × (t.source.count ≡ u.source.count) × (t.source.place ≡ u.source.place) × (t.place ≡ u.place)
tapes_once {s = s} W U =
    let e = walked_once s.lent (walked_at W) (walked_at U) in
    (e.0, W.bytes ∙ sym U.bytes, W.count ∙ sym U.count, ap (λ (h : Here). h.at) e.1, ap (λ (h : Here). h.place) e.1)
