-- Where the place is, whatever the bits: a walk that ends has settled all its numbers, one that misses a bit has not, and more bits
-- never move it back.
use Rattle.std.specs.Prelude.{◌≡◌, Bool, true, leb, ltb, ℤ, pos, nat_abs, length, take, drop, replicate}
use Rattle.std.proofs.Math.Path.{refl, sym, ap}
use Rattle.std.proofs.Common.{◌∙◌, add-zero, ltb-true, ltb-false, length-append, take-append-drop}
use Rattle.std.proofs.Math.Bool.{false}
use Rattle.std.proofs.Math.Option.{Option, none, some}
use mathlib.Core.List.{List, [], ◌∷◌, ◌++◌}
use Prim.Native.Nat.{ℕ, zero, suc, ◌+◌, ◌-◌, ◌^◌, ◌≤◌, ◌<◌}
use Rattle.std.proofs.Math.Nat.{pow-le-pow_right}
use native.Mathlib.Omega.{arith}
use Rattle.std.proofs.lemmas.List.{length-replicate}
use Rattle.std.proofs.Math.ListN.{get_or-append}
use Rattle.std.proofs.Math.Seq.{get_or-append-add}
use Rattle.paper.specs.Lists.{at}
use Rattle.paper.specs.Walk.{reaches, Due, place_after, Decoder, Tape, next_bit, is_one, test_set, refined, begun, walk_number, walk_numbers, walk_set, walk_plane, walk_planes, depth, decode_of, ◌next◌}
use Rattle.walk_laws.specs.Asks.{test_known, test_asks, number_known, number_asks, after_bit, opened}
use Rattle.walk_laws.specs.Together.{tape, Decodes}
use Rattle.walk_laws.specs.Read.{enough_is, enough_more, Outcome, enough, short, Reads, Length, reads_bit, reads_both, reads_done, reads_more, reads_next}
use Rattle.walk_laws.specs.Planes.{plane_finished, plane_stopped}
use Rattle.walk_laws.specs.Down.{count_most}
use Rattle.walk_laws.specs.Over.{Walk, split, over_set, over_plane}

-- ---- over n places, from the place z on
-- all are settled, or a bit was missed and the place is one of them
pub data Moved (n z : ℕ) (t : Tape) : Type 0 where
  past : (l : List Bool) → t ≡ tape l false (z + n) → Moved n z t
  within : (j : ℕ) → j < n → t ≡ tape [] true (z + j) → Moved n z t

moved_from : {n z : ℕ} {t : Tape} → Moved n z t → z ≤ t.place
moved_from (past l e) = omega (arith, ap (λ (t : Tape). t.place) e)
moved_from (within j h e) = omega (arith, ap (λ (t : Tape). t.place) e)

pub record Moves (n : ℕ) (f : Decodes (List ℤ)) : Type 0 where
  pub most : ℕ
  pub reads : Reads (Length n) most f
  pub still : (z : ℕ) → (f (tape [] true z)).1 ≡ tape [] true z
  pub moved : (l : List Bool) (z : ℕ) → Moved n z (f (tape l false z)).1
  pub more : (l r : List Bool) (z : ℕ) → (f (tape l false z)).1.place ≤ (f (tape (l ++ r) false z)).1.place
  pub keeps : (l r : List Bool) (z i : ℕ) → z + i < (f (tape l false z)).1.place → at (f (tape l false z)).0 i ≡ at (f (tape (l ++ r) false z)).0 i

-- as many numbers come back as it walks over
pub moves_length : {n : ℕ} {f : Decodes (List ℤ)} → Moves n f → (l : List Bool) (z : ℕ) → length (f (tape l false z)).0 ≡ n
moves_length {n} {f} M l z = go (M.reads.from l z)
  where
    go : Outcome (Length n) M.most f l z → length (f (tape l false z)).0 ≡ n
    go (enough E) = ap (λ r. length r.0) (enough_is E) ∙ E.known
    go (short h S) = ap (λ r. length r.0) S.is ∙ S.known

pub moves_done : (xs : List ℤ) → length xs ≡ 0 → Moves 0 (λ t. (xs, t))
moves_done xs h = record {
  most = 0;
  reads = reads_done {P = Length 0} xs (λ _. h);
  still = λ z. refl;
  moved = λ l z. past l (ap (tape l false) (sym (add-zero z)));
  more = λ l r z. omega arith;
  keeps = λ l r z i h. refl;
}

-- ---- one part, then the next
module _ {m n : ℕ} {f g : Decodes (List ℤ)} (F : Moves m f) (G : Moves n g) where
  abbrev both : Decodes (List ℤ)
  both = ◌next◌ Decoder f g

  moved_both : (s : ℕ) → m + n ≡ s → (l : List Bool) (z : ℕ) → Moved s z (both (tape l false z)).1
  unfolding ◌next◌
  moved_both s e l z = go (F.moved l z)
    where
      on : (k : List Bool) → (f (tape l false z)).1 ≡ tape k false (z + m) → Moved n (z + m) (g (tape k false (z + m))).1 → Moved s z (both (tape l false z)).1
      on k h (past i q) = past i (ap (λ t. (g t).1) h ∙ q ∙ ap (tape i false) (let y : z + m + n ≡ z + s = omega arith in y))
      on k h (within j a q) = within (m + j) (omega arith) (ap (λ t. (g t).1) h ∙ q ∙ ap (tape [] true) (let y : z + m + j ≡ z + (m + j) = omega arith in y))

      go : Moved m z (f (tape l false z)).1 → Moved s z (both (tape l false z)).1
      go (past k h) = on k h (G.moved k (z + m))
      go (within j a h) = within j (omega arith) (ap (λ t. (g t).1) h ∙ G.still (z + j))

  -- the second part starts where the first left off, and goes no lower
  second_from : (l : List Bool) (z : ℕ) → (f (tape l false z)).1.place ≤ (both (tape l false z)).1.place
  unfolding ◌next◌
  second_from l z = go (F.moved l z)
    where
      go : Moved m z (f (tape l false z)).1 → (f (tape l false z)).1.place ≤ (g (f (tape l false z)).1).1.place
      go (past k h) = rw h (moved_from (G.moved k (z + m)))
      go (within j a h) = rw h (omega (arith, ap (λ (t : Tape). t.place) (G.still (z + j))))

  more_both : (l r : List Bool) (z : ℕ) → (both (tape l false z)).1.place ≤ (both (tape (l ++ r) false z)).1.place
  unfolding ◌next◌
  more_both l r z = go (F.reads.from l z)
    where
      go : Outcome (Length m) F.most f l z → (both (tape l false z)).1.place ≤ (both (tape (l ++ r) false z)).1.place
      go (enough E) = rw (ap (λ s. s.1) (enough_is E), ap (λ s. s.1) (enough_is (enough_more r E))) (G.more E.rest r E.place)
      go (short h M) =
          let stops : (both (tape l false z)).1.place ≡ (f (tape l false z)).1.place = ap (λ s. (g s.1).1.place) M.is ∙ ap (λ (t : Tape). t.place) (G.still M.place) ∙ ap (λ s. s.1.place) (sym M.is) in
          omega (arith, stops, F.more l r z, second_from (l ++ r) z)

  -- the numbers of the first part, and those of the second
  first_at : (l : List Bool) (z i : ℕ) → i < m → at (both (tape l false z)).0 i ≡ at (f (tape l false z)).0 i
  unfolding ◌next◌
  first_at l z i h = get_or-append (f (tape l false z)).0 (g (f (tape l false z)).1).0 (pos 0) i (omega (arith, moves_length F l z))

  second_at : (l : List Bool) (z j : ℕ) → at (both (tape l false z)).0 (m + j) ≡ at (g (f (tape l false z)).1).0 j
  unfolding ◌next◌
  second_at l z j =
      let a = (f (tape l false z)).0 in
      let b = (g (f (tape l false z)).1).0 in
      ap (λ k. at (a ++ b) (k + j)) (sym (moves_length F l z)) ∙ get_or-append-add a b j (pos 0)

  keeps_both : (l r : List Bool) (z i : ℕ) → z + i < (both (tape l false z)).1.place → at (both (tape l false z)).0 i ≡ at (both (tape (l ++ r) false z)).0 i
  unfolding ◌next◌
  keeps_both l r z i h = go (ltb i m) refl
    where
      -- the place is the first part's, or beyond it
      early : i < m → Moved m z (f (tape l false z)).1 → z + i < (f (tape l false z)).1.place
      early k (past q e) = omega (arith, ap (λ (t : Tape). t.place) e)
      early k (within j a e) = omega (arith, h, ap (λ t. (g t).1.place) e, ap (λ (t : Tape). t.place) (G.still (z + j)), ap (λ (t : Tape). t.place) e)

      late : (j : ℕ) → m + j ≡ i → Moved m z (f (tape l false z)).1 → Outcome (Length m) F.most f l z → at (g (f (tape l false z)).1).0 j ≡ at (g (f (tape (l ++ r) false z)).1).0 j
      late j e (within k a q) O = absurd (omega (arith, h, ap (λ t. (g t).1.place) q, ap (λ (t : Tape). t.place) (G.still (z + k))))
      late j e (past k q) (short _ S) = absurd (let t : ◌≡◌ {A = Bool} true false = ap (λ s. s.1.missed) (sym S.is) ∙ ap (λ (t : Tape). t.missed) q in let y : ◌≡◌ {A = ℕ} 0 1 = cc in omega arith)
      late j e (past k q) (enough E) =
          let at_end : E.place ≡ z + m = ap (λ s. s.1.place) (sym (enough_is E)) ∙ ap (λ (t : Tape). t.place) q in
          let here : E.place + j < (g (tape E.rest false E.place)).1.place = omega (arith, h, e, at_end, ap (λ s. (g s.1).1.place) (enough_is E)) in
          rw (ap (λ s. s.1) (enough_is E), ap (λ s. s.1) (enough_is (enough_more r E))) (G.keeps E.rest r E.place j here)

      go : (o : Bool) → ltb i m ≡ o → at (both (tape l false z)).0 i ≡ at (both (tape (l ++ r) false z)).0 i
      go true o = let k = ltb-true i m o in first_at l z i k ∙ F.keeps l r z i (early k (F.moved l z)) ∙ sym (first_at (l ++ r) z i k)
      go false o =
          let j = i - m in
          let e : m + j ≡ i = omega (arith, ltb-false i m o) in
          ap (at (both (tape l false z)).0) (sym e) ∙ second_at l z j ∙ late j e (F.moved l z) (F.reads.from l z) ∙ sym (second_at (l ++ r) z j) ∙ ap (at (both (tape (l ++ r) false z)).0) e

  pub moves_next : (s : ℕ) → m + n ≡ s → Moves s (◌next◌ Decoder f g)
  unfolding ◌next◌
  moves_next s e = record {
    most = F.most + G.most;
    reads = reads_next s e F.reads G.reads;
    still = λ z. ap (λ t. (g t).1) (F.still z) ∙ G.still z;
    moved = moved_both s e;
    more = more_both;
    keeps = keeps_both;
  }

-- ---- a bit, and what it leads to
abbrev pub on_bit : Due → (Option Bool → Decodes (List ℤ)) → Decodes (List ℤ)
on_bit due g t = let r = next_bit due t.left t.missed t.place in g r.0 r.1

-- no places, or all of them, are settled by it
data Leads (n : ℕ) (due : Due) (b : Bool) (g : Decodes (List ℤ)) : Type 0 where
  ends : (ys : List ℤ) → length ys ≡ n → g ≡ (λ t. (ys, t)) → ((z : ℕ) → place_after due b z ≡ z + n) → Leads n due b g
  opens : ((z : ℕ) → place_after due b z ≡ z) → Moves n g → Leads n due b g

module _ (n : ℕ) (some-places : 0 < n) (due : Due) (g : Option Bool → Decodes (List ℤ)) (xs : List ℤ) (long : length xs ≡ n) (none_is : g none ≡ (λ t. (xs, t)))
    (one : Leads n due true (g (some true))) (nil : Leads n due false (g (some false))) where
  leads : (b : Bool) → Leads n due b (g (some b))
  leads true = one
  leads false = nil

  heard : (l : List Bool) (z : ℕ) → Moved n z (on_bit due g (tape l false z)).1
  heard [] z = within 0 some-places (ap (λ f. (f (tape [] true z)).1) none_is ∙ ap (tape [] true) (sym (add-zero z)))
  heard (b ∷ l) z = go (leads b)
    where
      go : Leads n due b (g (some b)) → Moved n z (g (some b) (tape l false (place_after due b z))).1
      go (ends ys h e k) = past l (ap (λ f. (f (tape l false (place_after due b z))).1) e ∙ ap (tape l false) (k z))
      go (opens k G) = rw (k z) (G.moved l z)

  onward : (l r : List Bool) (z : ℕ) → (on_bit due g (tape l false z)).1.place ≤ (on_bit due g (tape (l ++ r) false z)).1.place
  onward [] r z = omega (arith, ap (λ f. (f (tape [] true z)).1.place) none_is, moved_from (heard r z))
  onward (b ∷ l) r z = go (leads b)
    where
      go : Leads n due b (g (some b)) → (g (some b) (tape l false (place_after due b z))).1.place ≤ (g (some b) (tape (l ++ r) false (place_after due b z))).1.place
      go (ends ys h e k) = rw e (omega arith)
      go (opens k G) = G.more l r (place_after due b z)

  kept : (l r : List Bool) (z i : ℕ) → z + i < (on_bit due g (tape l false z)).1.place → at (on_bit due g (tape l false z)).0 i ≡ at (on_bit due g (tape (l ++ r) false z)).0 i
  kept [] r z i h = absurd (omega (arith, h, ap (λ f. (f (tape [] true z)).1.place) none_is))
  kept (b ∷ l) r z i h = go (leads b)
    where
      go : Leads n due b (g (some b)) → at (g (some b) (tape l false (place_after due b z))).0 i ≡ at (g (some b) (tape (l ++ r) false (place_after due b z))).0 i
      go (ends ys long e k) = rw e
      go (opens k G) = G.keeps l r (place_after due b z) i (omega (arith, h, k z))

  most_of : {b : Bool} → Leads n due b (g (some b)) → ℕ
  most_of (ends ys h e k) = 0
  most_of (opens k G) = G.most

  lead_reads : (b : Bool) (L : Leads n due b (g (some b))) → Reads (Length n) (most_of L) (g (some b))
  unfolding most_of
  lead_reads b (ends ys h e k) = rw e (reads_done {P = Length n} ys (λ _. h))
  lead_reads b (opens k G) = G.reads

  abbrev most : ℕ
  most = most_of one + most_of nil

  then_reads : (b : Option Bool) → Reads (Length n) most (g b)
  then_reads none = reads_more {K = 0} most (omega arith) (rw none_is (reads_done {P = Length n} xs (λ _. long)))
  then_reads (some true) = reads_more most (omega arith) (lead_reads true one)
  then_reads (some false) = reads_more most (omega arith) (lead_reads false nil)

  moves_bit : Moves n (on_bit due g)
  moves_bit = record {
    most = 1 + most;
    reads = reads_both g (reads_bit due) (λ _ b _. then_reads b);
    still = λ z. ap (λ f. (f (tape [] true z)).1) none_is;
    moved = heard;
    more = onward;
    keeps = kept;
  }

-- ---- the walk
pub moves_tested : (p : ℕ) (xs : List ℤ) (f : Decodes (List ℤ)) → 0 < length xs → Moves (length xs) f → Moves (length xs) (Decoder.then (test_set Decoder p xs) (opened Decoder xs f))
moves_tested p xs f there F = go (reaches (2 ^ suc p) xs) refl
  where
    go : (b : Bool) → reaches (2 ^ suc p) xs ≡ b → Moves (length xs) (Decoder.then (test_set Decoder p xs) (opened Decoder xs f))
    go true e = rw (test_known Decoder p xs e) F
    go false e = rw (test_asks Decoder p xs e)
        (moves_bit (length xs) there (Due.test (length xs)) (λ b. opened Decoder xs f (is_one Decoder b)) xs refl refl (opens (λ z. refl) F) (ends xs refl refl (λ z. refl)))

-- an open test settles nothing
pub open_still : (p : ℕ) (xs : List ℤ) (t : Tape) → (test_set Decoder p xs t).0 ≡ true → (test_set Decoder p xs t).1.place ≡ t.place
open_still p xs t = go (reaches (2 ^ suc p) xs) refl
  where
    after : (l : List Bool) (m : Bool) (z : ℕ) → is_one Decoder (next_bit (Due.test (length xs)) l m z).0 ≡ true → (next_bit (Due.test (length xs)) l m z).1.place ≡ z
    after [] m z o = refl
    after (true ∷ l) m z o = refl
    after (false ∷ l) m z o = absurd (let y : ◌≡◌ {A = ℕ} 0 1 = cc in omega arith)

    go : (b : Bool) → reaches (2 ^ suc p) xs ≡ b → (test_set Decoder p xs t).0 ≡ true → (test_set Decoder p xs t).1.place ≡ t.place
    go true e = rw (test_known Decoder p xs e) (λ _. refl)
    go false e = rw (test_asks Decoder p xs e) (after t.left t.missed t.place)

-- a number that a bit ends, whatever it says
moves_last : (due : Due) → ((b : Bool) (z : ℕ) → place_after due b z ≡ z + 1) → (x : Option Bool → ℤ) → Moves 1 (on_bit due (λ b t. (x b ∷ [], t)))
moves_last due k x =
    moves_bit 1 (omega arith) due (λ b t. (x b ∷ [], t)) (x none ∷ []) refl refl (ends (x (some true) ∷ []) refl refl (k true)) (ends (x (some false) ∷ []) refl refl (k false))

pub moves_number : (p : ℕ) (x : ℤ) → Moves 1 (walk_number Decoder p x)
moves_number p x = go (leb (2 ^ suc p) (nat_abs x)) refl
  where
    go : (b : Bool) → leb (2 ^ suc p) (nat_abs x) ≡ b → Moves 1 (walk_number Decoder p x)
    go true e = rw (number_known Decoder p x e) (moves_last Due.more (λ b z. refl) (refined Decoder p x))
    go false e = rw (number_asks Decoder p x e)
        (moves_bit 1 (omega arith) (Due.test 1) (λ b. after_bit Decoder p x (is_one Decoder b)) (x ∷ []) refl refl
        (opens (λ z. refl) (moves_last Due.sign (λ b z. refl) (begun Decoder p x))) (ends (x ∷ []) refl refl (λ z. refl)))

pub moves_numbers : (p : ℕ) (xs : List ℤ) → Moves (length xs) (walk_numbers Decoder p xs)
unfolding walk_numbers
moves_numbers p [] = moves_done [] refl
moves_numbers p (x ∷ xs) = moves_next (moves_number p x) (moves_numbers p xs) (length (x ∷ xs)) (omega arith)

module _ (p : ℕ) where
  abbrev MovesOver : Walk → List ℤ → Type 0
  MovesOver w xs = Moves (length xs) (w Decoder xs)

  pub moves_split : (w v : Walk) (n : ℕ) (xs : List ℤ) → n ≤ length xs → MovesOver w (take n xs) → MovesOver v (drop n xs) → MovesOver (split w v n) xs
  moves_split w v n xs _ F G = moves_next F G (length xs) (sym (length-append (take n xs) (drop n xs)) ∙ ap length (take-append-drop n xs))

  pub moves_set : (d : ℕ) (xs : List ℤ) → length xs ≡ 4 ^ suc d → Moves (length xs) (walk_set Decoder p d xs)
  moves_set = over_set p MovesOver (moves_done [] refl) (moves_numbers p) (λ w xs there F. moves_tested p xs _ there F) moves_split

  pub moves_plane : (d L : ℕ) (xs : List ℤ) → length xs ≡ 4 ^ (suc d + L) → Moves (length xs) (walk_plane Decoder d L p xs)
  moves_plane = over_plane p MovesOver (moves_done [] refl) (moves_numbers p) (λ w xs there F. moves_tested p xs _ there F) moves_split

-- ---- the planes
-- the place is one of N, and 0 where no plane is unfinished
pub record Placed (N p z : ℕ) : Type 0 where
  pub below : z < N
  pub none : p ≡ 0 → z ≡ 0

-- two first parts of the bits, the second not shorter: planes and place never move back
pub record NeverBack (p z p' z' : ℕ) : Type 0 where
  pub fewer : p' ≤ p
  pub higher : p' ≡ p → z ≤ z'

-- while the same plane runs, the numbers before the place stay as they are
abbrev pub Stay : ℕ → ℕ → ℕ → (xs ys : List ℤ) → Type 0
Stay p p' z xs ys = p' ≡ p → (i : ℕ) → i < z → at ys i ≡ at xs i

module _ (d L : ℕ) where
  abbrev N : ℕ
  N = 4 ^ (suc d + L)

  abbrev planes : ℕ → List ℤ → List Bool → (List ℤ × ℕ) × Tape
  planes n xs l = walk_planes Decoder d L n xs (tape l false 0)

  abbrev InPlace : (List ℤ × ℕ) × Tape → Type 0
  InPlace r = Placed N r.0.1 r.1.place

  abbrev GoesOn : (r s : (List ℤ × ℕ) × Tape) → Type 0
  GoesOn r s = NeverBack r.0.1 r.1.place s.0.1 s.1.place × Stay r.0.1 s.0.1 r.1.place r.0.0 s.0.0

  module _ (p : ℕ) (xs : List ℤ) (h : length xs ≡ N) where
    abbrev M : Moves (length xs) (walk_plane Decoder d L p xs)
    M = moves_plane p d L xs h

    abbrev Ends : List Bool → Type 0
    Ends l = Outcome (Length (length xs)) M.most (walk_plane Decoder d L p xs) l 0

    stopped_in : (l : List Bool) {zs : List ℤ} {z : ℕ} → walk_plane Decoder d L p xs (tape l false 0) ≡ (zs, tape [] true z) → z < N
    stopped_in l {z = z} e = go (M.moved l 0)
      where
        go : Moved (length xs) 0 (walk_plane Decoder d L p xs (tape l false 0)).1 → z < N
        go (past k q) = absurd (let t : ◌≡◌ {A = Bool} true false = ap (λ s. s.1.missed) (sym e) ∙ ap (λ (t : Tape). t.missed) q in let y : ◌≡◌ {A = ℕ} 0 1 = cc in omega arith)
        go (within j a q) = omega (arith, a, h, ap (λ s. s.1.place) (sym e) ∙ ap (λ (t : Tape). t.place) q)

    plane_placed : ((ys : List ℤ) → length ys ≡ N → (l : List Bool) → InPlace (planes p ys l)) → (l : List Bool) → InPlace (planes (suc p) xs l)
    plane_placed ih l = go (M.reads.from l 0)
      where
        go : Ends l → InPlace (planes (suc p) xs l)
        go (enough E) = rw (plane_finished d L p xs (tape l false 0) (enough_is E)) (ih E.answer (E.known ∙ h) E.rest)
        go (short g S) = rw (plane_stopped d L p xs (tape l false 0) S.is) (record { below = stopped_in l S.is; none = λ e. absurd (omega arith) })

    pub plane_goes_on : ((ys : List ℤ) → length ys ≡ N → (l r : List Bool) → GoesOn (planes p ys l) (planes p ys (l ++ r))) → (l r : List Bool) → GoesOn (planes (suc p) xs l) (planes (suc p) xs (l ++ r))
    plane_goes_on ih l r = go (M.reads.from l 0) (M.reads.from (l ++ r) 0)
      where
        go : Ends l → Ends (l ++ r) → GoesOn (planes (suc p) xs l) (planes (suc p) xs (l ++ r))
        go (enough E) O =
            rw (plane_finished d L p xs (tape l false 0) (enough_is E), plane_finished d L p xs (tape (l ++ r) false 0) (enough_is (enough_more r E))) (ih E.answer (E.known ∙ h) E.rest r)
        go (short g S) (enough E) =
            let c = count_most d L p E.answer (tape E.rest false 0) in
            rw (plane_stopped d L p xs (tape l false 0) S.is, plane_finished d L p xs (tape (l ++ r) false 0) (enough_is E))
            (record { fewer = omega (arith, c); higher = λ e. absurd (omega (arith, c)) }, λ e. absurd (omega (arith, c)))
        go (short g S) (short g' S') =
            rw (plane_stopped d L p xs (tape l false 0) S.is, plane_stopped d L p xs (tape (l ++ r) false 0) S'.is) (
              record { fewer = omega arith; higher = λ _. omega (arith, M.more l r 0, ap (λ s. s.1.place) S.is, ap (λ s. s.1.place) S'.is) },
              λ _ i h. ap (λ s. at s.0 i) (sym S'.is) ∙ sym (M.keeps l r 0 i (omega (arith, h, ap (λ s. s.1.place) S.is))) ∙ ap (λ s. at s.0 i) S.is,
            )

  planes_placed : (n : ℕ) (xs : List ℤ) → length xs ≡ N → (l : List Bool) → InPlace (planes n xs l)
  planes_placed zero xs h l = unfold walk_planes in (record { below = omega (arith, pow-le-pow_right {n = 4} (omega arith) {i = 0} {j = suc d + L} (omega arith)); none = λ _. refl })
  planes_placed (suc p) xs h l = plane_placed p xs h (planes_placed p) l

-- ---- decoding
module _ (k L n : ℕ) (levels : L < k) where
  abbrev start : List ℤ
  start = replicate (4 ^ k) (pos 0)

  pub size : 4 ^ (suc (depth k L) + L) ≡ 4 ^ k
  size = ap (λ j. 4 ^ j) (let e : suc (depth k L) + L ≡ k = omega arith in e)

  -- Of any bits: the place is one of the S², and 0 where no plane is unfinished.
  pub decoded_placed : (l : List Bool) → Placed (4 ^ k) (decode_of k L n l).unfinished (decode_of k L n l).place
  unfolding decode_of
  decoded_placed l = rw size at (planes_placed (depth k L) L n start (length-replicate (4 ^ k) (pos 0) ∙ sym size) l)
