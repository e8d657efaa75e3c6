-- Planes n - 1 down to q of a decoding: what they read, and how they stand to all planes and the count of unfinished ones.
use Rattle.std.specs.Prelude.{◌≡◌, Bool, ℤ}
use Rattle.std.proofs.Math.Path.{refl, sym, ap}
use Rattle.std.proofs.Common.{◌∙◌}
use Rattle.std.proofs.Math.Bool.{true, false}
use mathlib.Core.List.{List, []}
use Prim.Native.Nat.{ℕ, zero, suc, ◌+◌, ◌*◌, ◌<◌, ◌≤◌}
use Rattle.std.proofs.Math.Nat.{suc-mul}
use native.Mathlib.Omega.{arith}
use Rattle.std.proofs.Math.Dec.{leb, ltb}
use borrow.Author.Tests.{leb-true, leb-false, ltb-false, lt-ltb, le-ltb}
use Rattle.std.proofs.Math.ListN.{length}
use Rattle.paper.specs.Walk.{Decoder, Tape, behind_plane, walk_plane, walk_planes}
use Rattle.walk_laws.specs.Together.{tape, Decodes}
use Rattle.walk_laws.specs.Bound.{set_tests, rest_tests}
use Rattle.walk_laws.specs.Planes.{plane_finished, plane_stopped}
use Rattle.walk_laws.specs.Due.{plane_due}
use Rattle.walk_laws.specs.Read.{enough_is, Outcome, enough, short, outcome_same, Reads, Length, reads_both, reads_more, reads_done, plane_most, walks_plane}

-- one plane, and behind it another walk
abbrev pub then_plane : ℕ → ℕ → ℕ → List ℤ → (List ℤ → Decodes (List ℤ)) → Decodes (List ℤ)
then_plane d L p xs f t = let r = walk_plane Decoder d L p xs t in f r.0 (behind_plane r.1)

-- one plane after the other, whatever the bits
unfoldable pub walk_down : ℕ → ℕ → ℕ → ℕ → List ℤ → Decodes (List ℤ)
walk_down d L q zero xs = Decoder.done xs
walk_down d L q (suc p) xs = elim (leb q p) [ true ↦ then_plane d L p xs (walk_down d L q p) | false ↦ Decoder.done xs ]

module _ (d L q p : ℕ) (xs : List ℤ) where
  pub down_step : leb q p ≡ true → walk_down d L q (suc p) xs ≡ then_plane d L p xs (walk_down d L q p)
  unfolding walk_down
  down_step e = rw (e, walk_down)

  pub down_ends : leb q p ≡ false → walk_down d L q (suc p) xs ≡ Decoder.done xs
  unfolding walk_down
  down_ends e = rw (e, walk_down)

-- ---- against all planes
pub count_most : (d L n : ℕ) (xs : List ℤ) (t : Tape) → (walk_planes Decoder d L n xs t).0.1 ≤ n
unfolding walk_planes
count_most d L zero xs t = omega arith
count_most d L (suc p) xs t = go (walk_plane Decoder d L p xs t).1.missed (count_most d L p)
  where
    go : (m : Bool) → ((ys : List ℤ) (t : Tape) → (walk_planes Decoder d L p ys t).0.1 ≤ p)
        → ((elim m as (λ _. Decodes (List ℤ × ℕ)) [ true ↦ Decoder.done ((walk_plane Decoder d L p xs t).0, suc p) | false ↦ walk_planes Decoder d L p (walk_plane Decoder d L p xs t).0 ]) (behind_plane (walk_plane Decoder d L p xs t).1)).0.1 ≤ suc p
    go true ih = omega arith
    go false ih = omega (arith, ih (walk_plane Decoder d L p xs t).0 (behind_plane (walk_plane Decoder d L p xs t).1))

-- every plane takes a bit, so where none is left all planes are unfinished
pub none_left : (d L n : ℕ) (xs : List ℤ) → 0 < length xs → (walk_planes Decoder d L n xs (tape [] false 0)).0.1 ≡ n
none_left d L zero xs h = unfold walk_planes in refl
none_left d L (suc p) xs h = ap (λ r. r.0.1) (plane_stopped d L p xs (tape [] false 0) (λ i. ((walk_plane Decoder d L p xs (tape [] false 0)).0, (plane_due d L p xs h 0).1 i)))

-- behind a plane a walk reads as it does from place 0 on, or where it was stopped
reads_behind : {A : Type 0} {P : Bool → A → Type 0} {K : ℕ} {f : Decodes A} → Reads P K f → Reads P K (λ t. f (behind_plane t))
reads_behind F = record {
  from = λ l z. outcome_same (λ m. refl) (F.from l 0);
  over = λ z. let M = F.over z in record { answer = M.answer; known = M.known; place = M.place; is = M.is };
}

module _ (d L N : ℕ) where
  pub reads_down : (q n : ℕ) (xs : List ℤ) → length xs ≡ N → Reads (Length N) (n * plane_most d L N) (walk_down d L q n xs)
  reads_down q zero xs h = unfold walk_down in (reads_more (0 * plane_most d L N) (omega arith) (reads_done {P = Length N} xs (λ _. h)))
  reads_down q (suc p) xs h = go (leb q p) refl (reads_down q p)
    where
      go : (b : Bool) → leb q p ≡ b → ((ys : List ℤ) → length ys ≡ N → Reads (Length N) (p * plane_most d L N) (walk_down d L q p ys)) → Reads (Length N) (suc p * plane_most d L N) (walk_down d L q (suc p) xs)
      go true e ih =
          rw (down_step d L q p xs e)
          (reads_more (suc p * plane_most d L N) (omega (arith, suc-mul p (plane_most d L N))) (reads_both (λ ys t. walk_down d L q p ys (behind_plane t)) (walks_plane d L p xs).reads (λ _ ys k. reads_behind (ih ys (k ∙ h)))))
      go false e ih = rw (down_ends d L q p xs e) (reads_more (suc p * plane_most d L N) (omega arith) (reads_done {P = Length N} xs (λ _. h)))

  -- a bit is missed in planes n - 1 to q exactly if more than q planes are unfinished
  pub missed_is : (q n : ℕ) (xs : List ℤ) → length xs ≡ N → (l : List Bool) → (walk_down d L q n xs (tape l false 0)).1.missed ≡ ltb q (walk_planes Decoder d L n xs (tape l false 0)).0.1
  missed_is q zero xs h l = unfold walk_down walk_planes in (sym (le-ltb q 0 (omega arith)))
  missed_is q (suc p) xs h l = go (leb q p) refl ((walks_plane d L p xs).reads.from l 0) (missed_is q p)
    where
      go : (b : Bool) → leb q p ≡ b → Outcome (Length (length xs)) (set_tests d + rest_tests d L + 2 * length xs) (walk_plane Decoder d L p xs) l 0
          → ((ys : List ℤ) → length ys ≡ N → (l : List Bool) → (walk_down d L q p ys (tape l false 0)).1.missed ≡ ltb q (walk_planes Decoder d L p ys (tape l false 0)).0.1)
          → (walk_down d L q (suc p) xs (tape l false 0)).1.missed ≡ ltb q (walk_planes Decoder d L (suc p) xs (tape l false 0)).0.1
      go true e (enough E) ih =
          rw (down_step d L q p xs e, plane_finished d L p xs (tape l false 0) (enough_is E))
          (ap (λ r. (walk_down d L q p r.0 (behind_plane r.1)).1.missed) (enough_is E) ∙ ih E.answer (E.known ∙ h) E.rest)
      go true e (short g M) ih =
          rw (down_step d L q p xs e, plane_stopped d L p xs (tape l false 0) M.is)
          (ap (λ r. (walk_down d L q p r.0 (behind_plane r.1)).1.missed) M.is ∙ ap (λ r. r.1.missed) ((reads_down q p M.answer (M.known ∙ h)).over M.place).is ∙ sym (lt-ltb q (suc p) (omega (arith, leb-true q p e))))
      go false e O ih = rw (down_ends d L q p xs e) (sym (le-ltb q _ (omega (arith, leb-false q p e, count_most d L (suc p) xs (tape l false 0)))))

  -- where none is missed, nothing of the next plane is settled
  pub down_place : (q n : ℕ) (xs : List ℤ) → length xs ≡ N → (l : List Bool) → (walk_down d L q n xs (tape l false 0)).1.missed ≡ false → (walk_down d L q n xs (tape l false 0)).1.place ≡ 0
  down_place q zero xs h l m = unfold walk_down in refl
  down_place q (suc p) xs h l m = go (leb q p) refl ((walks_plane d L p xs).reads.from l 0) (down_place q p)
    where
      go : (b : Bool) → leb q p ≡ b → Outcome (Length (length xs)) (set_tests d + rest_tests d L + 2 * length xs) (walk_plane Decoder d L p xs) l 0
          → ((ys : List ℤ) → length ys ≡ N → (l : List Bool) → (walk_down d L q p ys (tape l false 0)).1.missed ≡ false → (walk_down d L q p ys (tape l false 0)).1.place ≡ 0)
          → (walk_down d L q (suc p) xs (tape l false 0)).1.place ≡ 0
      go true e (enough E) ih =
          let s : walk_down d L q (suc p) xs (tape l false 0) ≡ walk_down d L q p E.answer (tape E.rest false 0) = ap (λ f. f (tape l false 0)) (down_step d L q p xs e) ∙ ap (λ r. walk_down d L q p r.0 (behind_plane r.1)) (enough_is E) in
          rw s (ih E.answer (E.known ∙ h) E.rest (rw s at m))
      go true e (short g M) ih =
          absurd (omega (arith, leb-true q p e, ltb-false q _ (sym (missed_is q (suc p) xs h l) ∙ m), ap (λ r. r.0.1) (plane_stopped d L p xs (tape l false 0) M.is)))
      go false e O ih = rw (down_ends d L q p xs e)

  -- where none is missed, planes q - 1 to 0 go on from there
  pub goes_on : (q n : ℕ) (xs : List ℤ) → length xs ≡ N → (l : List Bool) → q ≤ n → (walk_down d L q n xs (tape l false 0)).1.missed ≡ false
      → walk_planes Decoder d L n xs (tape l false 0) ≡ (let r = walk_down d L q n xs (tape l false 0) in walk_planes Decoder d L q r.0 r.1)
  goes_on q zero xs h l g m = unfold walk_down in (λ i. walk_planes Decoder d L (let e : 0 ≡ q = omega arith in e i) xs (tape l false 0))
  goes_on q (suc p) xs h l g m = go (leb q p) refl ((walks_plane d L p xs).reads.from l 0) (goes_on q p)
    where
      go : (b : Bool) → leb q p ≡ b → Outcome (Length (length xs)) (set_tests d + rest_tests d L + 2 * length xs) (walk_plane Decoder d L p xs) l 0
          → ((ys : List ℤ) → length ys ≡ N → (l : List Bool) → q ≤ p → (walk_down d L q p ys (tape l false 0)).1.missed ≡ false
          → walk_planes Decoder d L p ys (tape l false 0) ≡ (let r = walk_down d L q p ys (tape l false 0) in walk_planes Decoder d L q r.0 r.1))
          → walk_planes Decoder d L (suc p) xs (tape l false 0) ≡ (let r = walk_down d L q (suc p) xs (tape l false 0) in walk_planes Decoder d L q r.0 r.1)
      go true e (enough E) ih =
          let s : walk_down d L q (suc p) xs (tape l false 0) ≡ walk_down d L q p E.answer (tape E.rest false 0) = ap (λ f. f (tape l false 0)) (down_step d L q p xs e) ∙ ap (λ r. walk_down d L q p r.0 (behind_plane r.1)) (enough_is E) in
          rw (s, plane_finished d L p xs (tape l false 0) (enough_is E)) (ih E.answer (E.known ∙ h) E.rest (leb-true q p e) (rw s at m))
      go true e (short g M) ih =
          absurd (omega (arith, leb-true q p e, ltb-false q _ (sym (missed_is q (suc p) xs h l) ∙ m), ap (λ r. r.0.1) (plane_stopped d L p xs (tape l false 0) M.is)))
      go false e O ih = rw (down_ends d L q p xs e) (λ i. walk_planes Decoder d L (let f : suc p ≡ q = omega (arith, leb-false q p e) in f i) xs (tape l false 0))
