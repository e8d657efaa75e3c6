-- The place is not too low: walks one after the other leave the number at the place open, so does every walk over a plane, and so do planes.
use Rattle.std.specs.Prelude.{◌≡◌, refl, Bool, true, ℤ, pos, take, drop, replicate}
use Rattle.std.proofs.Math.Path.{sym, ap}
use Rattle.std.proofs.Common.{◌∙◌, zero-add, length-append, take-append-drop}
use Rattle.std.proofs.Math.Bool.{false}
use mathlib.Core.List.{List, [], ◌∷◌, ◌++◌, append-nil}
use Prim.Native.Nat.{ℕ, zero, suc, ◌+◌, ◌^◌, ◌≤◌, ◌<◌}
use Rattle.std.proofs.Math.Nat.{pow-le-pow_right}
use native.Mathlib.Omega.{arith}
use Rattle.std.proofs.Math.ListN.{length}
use Rattle.std.proofs.lemmas.List.{length-replicate}
use Rattle.paper.specs.Walk.{Decoder, Tape, walk_numbers, walk_plane, walk_planes, depth, decode_of, ◌next◌}
use Rattle.walk_laws.specs.Asks.{square_sized}
use Rattle.walk_laws.specs.Together.{tape, Decodes}
use Rattle.walk_laws.specs.Read.{Enough, Outcome, enough, short, Length, enough_is, enough_more}
use Rattle.walk_laws.specs.Planes.{plane_finished, plane_stopped}
use Rattle.walk_laws.specs.Over.{Walk, split, over_plane}
use Rattle.walk_laws.specs.Place.{Moved, past, within, Moves, moves_done, moves_number, moves_numbers, moves_split}
use Rattle.walk_laws.specs.Undecided.{not_both, Ends, ends_length, enough_ends, Ways, out_some, Undecided, ways_first, ways_second, dry_both, undecided_number, undecided_nothing, undecided_behind, Apart, Open}

-- ---- one part, then the next
module _ {xs ys : List ℤ} {f g : Decodes (List ℤ)} (F : Moves (length xs) f) (G : Moves (length ys) g) (U : Undecided xs f) (W : Undecided ys g) where
  -- the bits end in the first, or in the second
  ways_both : (l : List Bool) (z j : ℕ) → (◌next◌ Decoder f g (tape l false z)).1 ≡ tape [] true (z + j) → Ways (length (xs ++ ys)) (◌next◌ Decoder f g) l z j
  unfolding ◌next◌
  ways_both l z j e = go (F.reads.from l z) (F.moved l z)
    where
      sum : length xs + length ys ≡ length (xs ++ ys)
      sum = sym (length-append xs ys)

      -- the place is one of the second's
      late : (E : Enough (Length (length xs)) F.most f l z) → let t = (g (tape E.rest false (z + length xs))).1 in
          t ≡ tape [] true (z + j) → Moved (length ys) (z + length xs) t → Ways (length (xs ++ ys)) (◌next◌ Decoder f g) l z j
      late E b (past k a) = absurd (not_both (sym a ∙ b))
      late E b (within i h a) =
          let k : length xs + i ≡ j = omega (arith, ap (λ (t : Tape). t.place) (sym a ∙ b)) in
          rw k at (ways_second F G (length (xs ++ ys)) sum l z i E (W.ways E.rest (z + length xs) i a))

      go : Outcome (Length (length xs)) F.most f l z → Moved (length xs) z (f (tape l false z)).1 → Ways (length (xs ++ ys)) (◌next◌ Decoder f g) l z j
      go (short _ S) (past k q) = absurd (not_both (sym q ∙ ap (λ r. r.1) S.is))
      go (short _ S) (within i h q) =
          let k : i ≡ j = omega (arith, ap (λ (t : Tape). t.place) (sym (ap (λ t. (g t).1) q ∙ G.still (z + i)) ∙ e)) in
          rw k at (ways_first F G (length (xs ++ ys)) sum l z i h (U.ways l z i q))
      go (enough E) _ =
          let s = ap (λ m. (f (tape m false z)).1) E.parts ∙ ap (λ r. r.1) ((enough_ends F E).is E.rest) in
          late E (ap (λ t. (g t).1) (sym s) ∙ e) (G.moved E.rest (z + length xs))

  -- both, over all their numbers
  undecided_both : (zs : List ℤ) → xs ++ ys ≡ zs → Undecided zs (◌next◌ Decoder f g)
  undecided_both zs e = rw (sym e) (record { dry = dry_both F G U W; ways = ways_both })

-- ---- the walk
undecided_numbers : (p : ℕ) (xs : List ℤ) → Undecided xs (walk_numbers Decoder p xs)
unfolding walk_numbers
undecided_numbers p [] = undecided_nothing
undecided_numbers p (x ∷ xs) = undecided_both (moves_number p x) (moves_numbers p xs) (undecided_number p x) (undecided_numbers p xs) (x ∷ xs) refl

-- so with every walk over a plane
module _ (p : ℕ) where
  abbrev UndecidedOver : Walk → List ℤ → Type 0
  UndecidedOver w xs = Moves (length xs) (w Decoder xs) × Undecided xs (w Decoder xs)

  undecided_split : (w v : Walk) (n : ℕ) (xs : List ℤ) → n ≤ length xs → UndecidedOver w (take n xs) → UndecidedOver v (drop n xs) → UndecidedOver (split w v n) xs
  undecided_split w v n xs h U W = (moves_split p w v n xs h U.0 W.0, undecided_both U.0 W.0 U.1 W.1 xs (take-append-drop n xs))

  undecided_plane : (d L : ℕ) (xs : List ℤ) → length xs ≡ 4 ^ (suc d + L) → UndecidedOver (λ R. walk_plane R d L p) xs
  undecided_plane = over_plane p UndecidedOver (moves_done [] refl, undecided_nothing) (λ xs. (moves_numbers p xs, undecided_numbers p xs)) (undecided_behind p) undecided_split

-- ---- the planes
module _ (d L : ℕ) where
  abbrev N : ℕ
  N = 4 ^ (suc d + L)

  -- what bits l make of xs
  abbrev planes : ℕ → List ℤ → List Bool → (List ℤ × ℕ) × Tape
  planes n xs l = walk_planes Decoder d L n xs (tape l false 0)

  -- two ways to go on from l
  record Fork (n : ℕ) (xs : List ℤ) (l : List Bool) : Type 0 where
    r₁ : List Bool
    r₂ : List Bool
    apart : Apart (planes n xs l) (planes n xs (l ++ r₁)) (planes n xs (l ++ r₂))

  -- where no bit is left all planes are unfinished, nothing changes, and nothing is settled
  pub planes_dry : (n : ℕ) (xs : List ℤ) → length xs ≡ N → ((planes n xs []).0 ≡ (xs, n)) × ((planes n xs []).1.place ≡ 0)
  planes_dry zero xs h = unfold walk_planes in (refl, refl)
  planes_dry (suc p) xs h =
      let there : 0 < length xs = omega (arith, h, pow-le-pow_right {n = 4} (omega arith) {i = 0} {j = suc d + L} (omega arith)) in
      let e = plane_stopped d L p xs (tape [] false 0) ((undecided_plane p d L xs h).1.dry false 0 ∙ ap (λ b. (xs, tape [] b 0)) (out_some false (length xs) there)) in
      (ap (λ r. r.0) e, ap (λ r. r.1.place) e)

  -- the planes that the bits finish, then the one they stop in
  planes_fork : (n : ℕ) (xs : List ℤ) → length xs ≡ N → (l : List Bool) → 0 < (planes n xs l).0.1 → Fork n xs l
  planes_fork zero xs h l runs = absurd (let y : 0 < 0 = unfold walk_planes in runs in omega arith)
  planes_fork (suc p) xs h l runs = go (M.reads.from l 0) (planes_fork p)
    where
      M : Moves (length xs) (walk_plane Decoder d L p xs)
      M = (undecided_plane p d L xs h).0

      -- a plane that l finishes, and one that l and r just finish
      through : (E : Enough (Length (length xs)) M.most (walk_plane Decoder d L p xs) l 0) (r : List Bool) → planes (suc p) xs (l ++ r) ≡ planes p E.answer (E.rest ++ r)
      through E r = plane_finished d L p xs (tape (l ++ r) false 0) (enough_is (enough_more r E))

      below : (r : List Bool) {a : List ℤ} → Ends (length xs) (walk_plane Decoder d L p xs) (l ++ r) 0 a → (planes (suc p) xs (l ++ r)).0 ≡ (a, p)
      below r {a} E =
          let e = ap (λ k. walk_plane Decoder d L p xs (tape k false 0)) (sym (append-nil (l ++ r))) ∙ E.is [] in
          ap (λ r. r.0) (plane_finished d L p xs (tape (l ++ r) false 0) e) ∙ (planes_dry p a (ends_length M E ∙ h)).0

      go : Outcome (Length (length xs)) M.most (walk_plane Decoder d L p xs) l 0
          → ((ys : List ℤ) → length ys ≡ N → (l : List Bool) → 0 < (planes p ys l).0.1 → Fork p ys l) → Fork (suc p) xs l
      go (enough E) ih =
          let e = plane_finished d L p xs (tape l false 0) (enough_is E) in
          let T = ih E.answer (E.known ∙ h) E.rest (rw e at runs) in
          record { r₁ = T.r₁; r₂ = T.r₂; apart = rw (e, through E T.r₁, through E T.r₂) T.apart }
      go (short g S) ih =
          let W = (undecided_plane p d L xs h).1.ways l 0 S.place (ap (λ r. r.1) S.is ∙ ap (tape [] true) (sym (zero-add S.place))) in
          let e = plane_stopped d L p xs (tape l false 0) S.is in
          record { r₁ = W.r₁; r₂ = W.r₂; apart = rw (e, below W.r₁ W.one, below W.r₂ W.two) (omega arith, omega arith, W.differ) }

-- ---- decoding
-- Of any bits: while a plane is unfinished, the number at the place is open.
pub place_open : (k L n : ℕ) → L < k → (l : List Bool) → 0 < (decode_of k L n l).unfinished → Open k L n l
unfolding decode_of
place_open k L n levels l runs =
    let start = replicate (4 ^ k) (pos 0) in
    let T = planes_fork (depth k L) L n start (square_sized k L start levels (length-replicate (4 ^ k) (pos 0))) l runs in
    record { r₁ = T.r₁; r₂ = T.r₂; one = T.apart.0; two = T.apart.1; differ = T.apart.2 }
