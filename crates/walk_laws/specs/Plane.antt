-- Over one plane the coder's walk and the decoder's go together: a test, a number, a set, the rest, the plane.
use Rattle.std.proofs.Math.Path.{◌≡◌, refl, ap}
use Rattle.std.proofs.Common.{sym, ◌∙◌, subst, add-zero, arith, leb-true, leb-false, take-append-drop}
use Rattle.std.specs.Prelude.{Bool, nat_abs, length, take, drop}
use Rattle.std.proofs.Math.Bool.{true, false}
use Rattle.std.proofs.Math.Option.{some}
use mathlib.Core.List.{List, [], ◌∷◌, ◌++◌, map, append-nil, append_assoc}
use Prim.Native.Nat.{ℕ, suc, ◌+◌, ◌^◌, ◌≤◌, ◌<◌}
use Rattle.std.proofs.Math.Dec.{leb}
use Rattle.std.proofs.Math.IntN.{ℤ}
use Rattle.std.proofs.lemmas.List.{length-map}
use Rattle.paper.specs.Walk.{negative, signed, bit_of, worth, reaches, Due, Coder, Decoder, Tape, next_bit, is_one, test_set, refined, begun, walk_number, walk_numbers, walk_plane, ◌next◌}
use Rattle.list_laws.specs.Mapped.{take_map, drop_map}
use Rattle.walk_laws.specs.Cleared.{cleared, leb_cleared, cleared_refined, cleared_begun, cleared_still, reaches_cleared, closed_still}
use Rattle.walk_laws.specs.Asks.{test_known, test_asks, number_known, number_asks, after_bit, opened}
use Rattle.walk_laws.specs.Over.{Walk, split, over_plane}
use Rattle.walk_laws.specs.Together.{tape, Decodes, Grows, stops_unsettled, Together, nothing_after, tail_of, together_next}

-- ---- one piece
-- what is coded in one piece: a first part of its bits settles nothing
together_piece : (p : ℕ) (xs : List ℤ) (B : List Bool) (f : Decodes (List ℤ))
    → ((r : List Bool) (z : ℕ) → f (tape (B ++ r) false z) ≡ (map (cleared p) xs, tape r false (z + length xs)))
    → ((l : List Bool) (b : Bool) (m : List Bool) → l ++ b ∷ m ≡ B → (z : ℕ) → f (tape l false z) ≡ (map (cleared (suc p)) xs, tape [] true z))
    → ((z : ℕ) → f (tape [] true z) ≡ (map (cleared (suc p)) xs, tape [] true z))
    → Together p xs (xs, B) f
together_piece p xs B f full part over = record {
  held = refl;
  full = full;
  over = over;
  part = λ l k b m h z. record {
    j = 0;
    i = 0;
    grows = omega arith;
    fewer = stops_unsettled p xs z (early l (k ++ b ∷ m) (λ e. nothing_after k b m e) (sym (append_assoc l k (b ∷ m)) ∙ h) z);
    more = stops_unsettled p xs z (part (l ++ k) b m h z);
  };
}
  where
    early : (l k : List Bool) → (k ≡ [] → ⊥) → l ++ k ≡ B → (z : ℕ) → f (tape l false z) ≡ (map (cleared (suc p)) xs, tape [] true z)
    early l [] n e = absurd (n refl)
    early l (b ∷ m) n e = part l b m e

-- ---- a part behind a test
abbrev Behind : (p : ℕ) (xs : List ℤ) (c : List ℤ × List Bool) (f : Decodes (List ℤ)) → Bool × List Bool → Decodes Bool → Type 0
Behind p xs c f s t = Together p xs (Coder.then s (opened Coder xs c)) (Decoder.then t (opened Decoder (map (cleared (suc p)) xs) f))

module _ (p : ℕ) (xs : List ℤ) (c : List ℤ × List Bool) (f : Decodes (List ℤ)) (G : Together p xs c f) where
  -- the test takes a bit
  heard : Decodes Bool
  heard t = let r = next_bit (Due.test (length (map (cleared (suc p)) xs))) t.left t.missed t.place in (is_one Decoder r.0, r.1)

  onward : Decodes (List ℤ)
  onward = Decoder.then heard (opened Decoder (map (cleared (suc p)) xs) f)

  asked : (b : Bool) → reaches (2 ^ p) xs ≡ b → Behind p xs c f (b, b ∷ []) heard
  unfolding heard onward
  asked true e = record { held = G.held; full = λ r. G.full r; over = λ z. refl; part = go }
    where
      first : (l : List Bool) (b : Bool) (m : List Bool) → l ++ b ∷ m ≡ true ∷ c.1 → (z : ℕ) → Grows p xs z (map (cleared (suc p)) xs, tape [] true z) (onward (tape l false z))
      first [] b m h z = record { j = 0; i = 0; grows = omega arith; fewer = stops_unsettled p xs z refl; more = stops_unsettled p xs z refl }
      first (true ∷ l) b m h z =
          let P = G.part l [] b m (ap (λ l. l ++ b ∷ m) (append-nil l) ∙ tail_of h) z in
          record { j = 0; i = P.j; grows = omega arith; fewer = stops_unsettled p xs z refl; more = P.fewer }
      first (false ∷ l) b m h z = absurd (let z : ◌≡◌ {A = ℕ} 0 1 = cc in omega arith)

      go : (l k : List Bool) (b : Bool) (m : List Bool) → (l ++ k) ++ b ∷ m ≡ true ∷ c.1 → (z : ℕ) → Grows p xs z (onward (tape l false z)) (onward (tape (l ++ k) false z))
      go [] k b m h = first k b m h
      go (true ∷ l) k b m h = G.part l k b m (tail_of h)
      go (false ∷ l) k b m h = absurd (let z : ◌≡◌ {A = ℕ} 0 1 = cc in omega arith)
  asked false e =
      together_piece p xs (false ∷ []) _ (λ r z i. (closed_still p xs e i, tape r false (z + length-map xs (cleared (suc p)) i))) go (λ z. refl)
    where
      go : (l : List Bool) (b : Bool) (m : List Bool) → l ++ b ∷ m ≡ false ∷ [] → (z : ℕ) → onward (tape l false z) ≡ (map (cleared (suc p)) xs, tape [] true z)
      go [] b m h z = refl
      go (x ∷ l) b m h z = absurd (nothing_after l b m (tail_of h))

  together_tested : Behind p xs c f (test_set Coder p xs) (test_set Decoder p (map (cleared (suc p)) xs))
  unfolding heard
  together_tested = go (reaches (2 ^ suc p) xs) refl
    where
      go : (b : Bool) → reaches (2 ^ suc p) xs ≡ b → Behind p xs c f (test_set Coder p xs) (test_set Decoder p (map (cleared (suc p)) xs))
      go true e = rw (test_known Coder p xs e, test_known Decoder p (map (cleared (suc p)) xs) (reaches_cleared (suc p) xs ∙ e)) G
      go false e = rw (test_asks Coder p xs e, test_asks Decoder p (map (cleared (suc p)) xs) (reaches_cleared (suc p) xs ∙ e)) (asked (reaches (2 ^ p) xs) refl)

-- ---- a number
module _ (p : ℕ) (x : ℤ) where
  -- as the plane finds it
  abbrev y : ℤ
  y = cleared (suc p) x

  together_refined : 2 ^ suc p ≤ nat_abs x → (b : Bool) → bit_of p (nat_abs x) ≡ b
      → Together p (x ∷ []) (x ∷ [], b ∷ []) (λ t. let r = next_bit Due.more t.left t.missed t.place in (refined Decoder p y r.0 ∷ [], r.1))
  unfolding refined
  together_refined h b e =
      together_piece p (x ∷ []) (b ∷ []) _
      (λ r z. ap (λ w. (w ∷ [], tape r false (z + 1))) (ap (λ b. signed (negative y) (nat_abs y + worth b p)) (sym e) ∙ cleared_refined p x h)) go (λ z. refl)
    where
      go : (l : List Bool) (b' : Bool) (m : List Bool) → l ++ b' ∷ m ≡ b ∷ [] → (z : ℕ) → ◌≡◌ {A = List ℤ × Tape} (let r = next_bit Due.more l false z in (refined Decoder p y r.0 ∷ [], r.1)) (y ∷ [], tape [] true z)
      go [] b' m h z = refl
      go (w ∷ l) b' m h z = absurd (nothing_after l b' m (tail_of h))

  abbrev signing : Decodes (List ℤ)
  signing t = let r = next_bit (Due.test 1) t.left t.missed t.place in after_bit Decoder p y (is_one Decoder r.0) r.1

  together_begun : nat_abs x < 2 ^ suc p → (b : Bool) → leb (2 ^ p) (nat_abs x) ≡ b
      → Together p (x ∷ []) (Coder.then (some b, b ∷ []) (λ b. after_bit Coder p x (is_one Coder b))) signing
  unfolding begun
  together_begun h true e =
      together_piece p (x ∷ []) (true ∷ negative x ∷ []) _ (λ r z. ap (λ w. (w ∷ [], tape r false (z + 1))) (cleared_begun p x h (leb-true (2 ^ p) (nat_abs x) e))) go (λ z. refl)
    where
      go : (l : List Bool) (b : Bool) (m : List Bool) → l ++ b ∷ m ≡ true ∷ negative x ∷ [] → (z : ℕ) → signing (tape l false z) ≡ (y ∷ [], tape [] true z)
      go [] b m h z = refl
      go (true ∷ []) b m h z = refl
      go (false ∷ []) b m h z = absurd (let z : ◌≡◌ {A = ℕ} 0 1 = cc in omega arith)
      go (v ∷ w ∷ l) b m h z = absurd (nothing_after l b m (tail_of (tail_of h)))
  together_begun h false e =
      together_piece p (x ∷ []) (false ∷ []) _ (λ r z. ap (λ w. (w ∷ [], tape r false (z + 1))) (cleared_still p x (leb-false (2 ^ p) (nat_abs x) e))) go (λ z. refl)
    where
      go : (l : List Bool) (b : Bool) (m : List Bool) → l ++ b ∷ m ≡ false ∷ [] → (z : ℕ) → signing (tape l false z) ≡ (y ∷ [], tape [] true z)
      go [] b m h z = refl
      go (w ∷ l) b m h z = absurd (nothing_after l b m (tail_of h))

  together_number : Together p (x ∷ []) (walk_number Coder p x) (walk_number Decoder p y)
  unfolding refined
  together_number = go (leb (2 ^ suc p) (nat_abs x)) refl
    where
      go : (b : Bool) → leb (2 ^ suc p) (nat_abs x) ≡ b → Together p (x ∷ []) (walk_number Coder p x) (walk_number Decoder p y)
      go true e =
          rw (number_known Coder p x e, number_known Decoder p y (leb_cleared (suc p) x ∙ e)) (together_refined (leb-true (2 ^ suc p) (nat_abs x) e) (bit_of p (nat_abs x)) refl)
      go false e =
          rw (number_asks Coder p x e, number_asks Decoder p y (leb_cleared (suc p) x ∙ e)) (together_begun (leb-false (2 ^ suc p) (nat_abs x) e) (leb (2 ^ p) (nat_abs x)) refl)

together_done : (p : ℕ) → Together p [] ([], []) (λ t. ([], t))
together_done p = together_piece p [] [] _ (λ r z. ap (λ z. ([], tape r false z)) (sym (add-zero z))) (λ l b m h. absurd (nothing_after l b m h)) (λ z. refl)

together_numbers : (p : ℕ) (xs : List ℤ) → Together p xs (walk_numbers Coder p xs) (walk_numbers Decoder p (map (cleared (suc p)) xs))
unfolding walk_numbers
together_numbers p [] = together_done p
together_numbers p (x ∷ xs) = together_next (together_number p x) (together_numbers p xs)

-- ---- the walk
-- a walk of which the coder and the decoder go together in plane p
Well : ℕ → Walk → List ℤ → Type 0
Well p w xs = Together p xs (w Coder xs) (w Decoder (map (cleared (suc p)) xs))

well_split : (p n : ℕ) (w v : Walk) (xs : List ℤ) → Well p w (take n xs) → Well p v (drop n xs) → Well p (split w v n) xs
unfolding Well
well_split p n w v xs G H =
    let f = cleared (suc p) in
    rw (take_map f n xs, drop_map f n xs)
    (subst (λ l. Together p l (split w v n Coder xs) (◌next◌ Decoder (w Decoder (map f (take n xs))) (v Decoder (map f (drop n xs))))) (take-append-drop n xs) (together_next G H))

pub together_plane : (p d L : ℕ) (xs : List ℤ) → length xs ≡ 4 ^ (suc d + L)
    → Together p xs (walk_plane Coder d L p xs) (walk_plane Decoder d L p (map (cleared (suc p)) xs))
unfolding Well
together_plane p = over_plane p (Well p) (together_done p) (together_numbers p) (λ w xs _ G. together_tested p xs _ _ G) (λ w v n xs _. well_split p n w v xs)
