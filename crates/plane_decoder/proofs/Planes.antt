-- Planes n - 1 down to 0, read: what holds before each plane.
use mathlib.Core.Path.{◌≡◌, refl, sym, ap, ◌∙◌, subst}
use mathlib.Core.Bool.{true, false}
use mathlib.Core.List.{List}
use Prim.Native.Nat.{ℕ, suc, ◌+◌, ◌-◌, ◌^◌, ◌<◌, ◌≤◌}
use native.Mathlib.Omega.{arith}
use native.Mathlib.Numerals.{add-one}
use lib.Dec.{ltb}
use lib.IntN.{ℤ}
use lib.ListN.{length}
use Rattle.paper.specs.Sizes.{most_planes}
use Rattle.paper.specs.Lists.{pick}
use Rattle.paper.specs.Walk.{Decoder, walk_planes}
use Rattle.walk_laws.specs.Room.{Room, plane_leaves}
use Rattle.bits.specs.Bits.{tape_of}
use Rattle.shapes.specs.Shapes.{IsSquare}
use Rattle.shapes.proofs.Cuts.{square_same}
use Rattle.shapes.proofs.Walks.{planes_none, planes_next, planes_missed}
use Rattle.source.specs.declared.BitSource.{BitSource}
use Rattle.set_decoder.specs.declared.tape.BitTape.{BitTape}
use Rattle.set_decoder.specs.Walked.{tape_at, Walked}
use Rattle.set_decoder.proofs.Run.{decoder, done}
use Rattle.plane_decoder.proofs.Plane.{PlaneRead}

-- behind a plane: finished, or with a bit missed
finished : (r t : BitTape) → ltb r.source.count r.source.place ≡ false → t.source ≡ r.source → t.place ≡ 0 → Walked Decoder.missed r false t
unfolding tape_of
finished r t e s z = record {
  is = (λ i. (e i, record { left = (tape_at r).left; missed = ltb r.source.count r.source.place; place = pick (e i) r.place 0 }))
      ∙ (λ i. (false, tape_of (sym s i).bytes.now (sym s i).count (sym s i).place (sym z i)));
  bytes = ap (λ (s : BitSource). s.bytes.now) s;
  count = ap (λ (s : BitSource). s.count) s;
}

missed : (r : BitTape) → ltb r.source.count r.source.place ≡ true → Walked Decoder.missed r true r
unfolding tape_of
missed r e = record { is = (λ i. (e i, record { left = (tape_at r).left; missed = ltb r.source.count r.source.place; place = pick (e i) r.place 0 })); bytes = refl; count = refl }

-- before plane p - 1: what is read from here on is read from the start, and the numbers leave room for the planes to come
pub record Before (n first : ℕ) (xs₀ : List ℤ) (start : BitTape) (p : ℕ) (xs : List ℤ) (tape : BitTape) : Type 0 where
  pub onward : (K : IsSquare xs₀ first) {v : List ℤ × ℕ} {t : BitTape} → Walked (walk_planes Decoder K.d K.L p xs) tape v t → Walked (walk_planes Decoder K.d K.L n xs₀) start v t
  pub room : Room p xs
  pub low : p ≤ most_planes
  pub fits : tape.place + length xs < 2 ^ 64
  pub square : IsSquare xs first
  pub same : length xs ≡ length xs₀

pub before_first : (n first : ℕ) (xs : List ℤ) (tape : BitTape) → Room n xs → n ≤ most_planes → tape.place + length xs < 2 ^ 64 → IsSquare xs first → Before n first xs tape n xs tape
before_first n first xs tape w h f K = record { onward = λ K X. X; room = w; low = h; fits = f; square = K; same = refl }

module _ {n first : ℕ} {xs₀ : List ℤ} {start : BitTape} {p : ℕ} {xs : List ℤ} {tape : BitTape} (B : Before n first xs₀ start p xs tape) where
  pub none_left : p ≤ 0 → (K : IsSquare xs₀ first) → Walked (walk_planes Decoder K.d K.L n xs₀) start (xs, 0) tape
  none_left h K = B.onward K (planes_none decoder K.d K.L p xs (done tape (xs, 0)) h)

  module _ (h : 0 < p) where
    down : suc (p - 1) ≡ p
    down = omega arith

    pub plane_room : Room (suc (p - 1)) xs
    plane_room = rw down B.room

    pub plane_low : p - 1 < most_planes
    plane_low = omega (arith, B.low)

    module _ (ys : List ℤ) (r : BitTape) (X : PlaneRead (p - 1) first xs tape ys r) where
      pub before_next : (t : BitTape) → length ys ≡ length xs → ltb r.source.count r.source.place ≡ false → t.source ≡ r.source → t.place ≡ 0 → Before n first xs₀ start (p - 1) ys t
      before_next t s e f z = record {
        onward = λ K {v} {t = u} Y.
            B.onward K (subst (λ m. Walked (walk_planes Decoder K.d K.L m xs) tape v u) down
            (planes_next decoder K.d K.L (p - 1) xs (X (square_same B.same K)) (finished r t e f z) refl Y));
        room = let K = B.square in subst (λ c. Room (p - 1) c.0) (X K).is ((plane_leaves (p - 1) plane_low K.d K.L xs plane_room).room (tape_at tape));
        low = omega (arith, B.low);
        fits = omega (arith, s, z, B.fits);
        square = square_same s B.square;
        same = s ∙ B.same;
      }

      -- a bit was missed: this plane and those below it are unfinished
      pub stopped : ltb r.source.count r.source.place ≡ true → (K : IsSquare xs₀ first) → Walked (walk_planes Decoder K.d K.L n xs₀) start (ys, p - 1 + 1) r
      stopped e K =
          B.onward K (subst (λ m. Walked (walk_planes Decoder K.d K.L m xs) tape (ys, p - 1 + 1) r) down
          (rw (add-one (p - 1)) (planes_missed decoder K.d K.L (p - 1) xs (X (square_same B.same K)) (missed r e) refl)))
