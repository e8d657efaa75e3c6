-- The planes one after the other: where a first part of the coding stops, what is settled there, and that more bits settle more.
use Rattle.std.specs.Prelude.{◌≡◌, ◌⊎◌, true, false, ℕ, zero, suc, ◌+◌, ◌-◌, ◌^◌, ◌≤◌, ◌<◌, ltb, ℤ, pos, length}
use Rattle.std.proofs.Math.Path.{refl, ap}
use Rattle.std.proofs.Common.{sym, ◌∙◌, inl, inr, zero-add, arith, pow_pos, ltb-true, ltb-false}
use Rattle.std.proofs.Math.Bool.{Bool}
use mathlib.Core.List.{List, [], ◌∷◌, ◌++◌, map, append-nil, append_assoc}
use Rattle.paper.specs.Lists.{at, pick}
use Rattle.paper.specs.Walk.{Coder, Decoder, Tape, behind_plane, walk_plane, walk_planes, unread_at}
use Rattle.walk_laws.specs.Cleared.{cleared, cleared_small}
use Rattle.walk_laws.specs.Together.{tape, settled, Together, Stops, Ends, Goes, first_part_splits, nothing_after}
use Rattle.walk_laws.specs.Plane.{together_plane}

-- ---- number by number
-- how many low bits of number i are not settled, where plane p has settled j numbers
unfoldable pub unsettled : ℕ → ℕ → ℕ → ℕ
unsettled p zero i = suc p
unsettled p (suc j) zero = p
unsettled p (suc j) (suc i) = unsettled p j i

pub unsettled_most : (p j i : ℕ) → unsettled p j i ≤ suc p
unfolding unsettled
unsettled_most p zero i = omega arith
unsettled_most p (suc j) zero = omega arith
unsettled_most p (suc j) (suc i) = unsettled_most p j i

unsettled_least : (p j i : ℕ) → p ≤ unsettled p j i
unfolding unsettled
unsettled_least p zero i = omega arith
unsettled_least p (suc j) zero = omega arith
unsettled_least p (suc j) (suc i) = unsettled_least p j i

unsettled_mono : (p j k i : ℕ) → j ≤ k → unsettled p k i ≤ unsettled p j i
unfolding unsettled
unsettled_mono p zero k i h = unsettled_most p k i
unsettled_mono p (suc j) zero i h = absurd (omega arith)
unsettled_mono p (suc j) (suc k) zero h = omega arith
unsettled_mono p (suc j) (suc k) (suc i) h = unsettled_mono p j k i (omega arith)

unsettled_before : (p j i : ℕ) → i < j → unsettled p j i ≡ p
unfolding unsettled
unsettled_before p zero i h = absurd (omega arith)
unsettled_before p (suc j) zero h = refl
unsettled_before p (suc j) (suc i) h = unsettled_before p j i (omega arith)

unsettled_from : (p j i : ℕ) → j ≤ i → unsettled p j i ≡ suc p
unfolding unsettled
unsettled_from p zero i h = refl
unsettled_from p (suc j) zero h = absurd (omega arith)
unsettled_from p (suc j) (suc i) h = unsettled_from p j i (omega arith)

pub unsettled_is : (p j i : ℕ) → unsettled p j i ≡ unread_at (suc p) j i
unfolding unread_at
unsettled_is p j i = go (ltb i j) refl
  where
    go : (b : Bool) → ltb i j ≡ b → unsettled p j i ≡ pick b (suc p - 1) (suc p)
    go true e = omega (arith, unsettled_before p j i (ltb-true i j e))
    go false e = unsettled_from p j i (ltb-false i j e)

pub settled_at : (p j : ℕ) (xs : List ℤ) (i : ℕ) → at (settled p j xs) i ≡ cleared (unsettled p j i) (at xs i)
unfolding settled unsettled
settled_at p j [] i = sym (cleared_small (unsettled p j i) (pos 0) (pow_pos (unsettled p j i)))
settled_at p zero (x ∷ xs) zero = refl
settled_at p (suc j) (x ∷ xs) zero = refl
settled_at p zero (x ∷ xs) (suc i) = settled_at p zero xs i
settled_at p (suc j) (x ∷ xs) (suc i) = settled_at p j xs i

-- ---- the planes
-- the bits of planes n - 1 to 0
abbrev pub planes_code : ℕ → ℕ → List ℤ → ℕ → List Bool
planes_code d L xs n = (walk_planes Coder d L n xs).1

-- the bits are out in plane `plane`, of which `count` numbers are settled, and the place says so
pub record Stopped (xs : List ℤ) (n plane count : ℕ) (r : (List ℤ × ℕ) × Tape) : Type 0 where
  pub under : plane < n
  pub is : r ≡ ((settled plane count xs, suc plane), tape [] true count)

-- two first parts of the bits, the second not shorter: of no number does it leave more unsettled
pub record Further (xs : List ℤ) (n : ℕ) (r s : (List ℤ × ℕ) × Tape) : Type 0 where
  pub plane : ℕ
  pub count : ℕ
  pub fewer : Stopped xs n plane count r
  pub plane' : ℕ
  pub count' : ℕ
  pub more : Stopped xs n plane' count' s
  pub settles : (i : ℕ) → unsettled plane' count' i ≤ unsettled plane count i

-- what follows a plane
abbrev after_plane : ℕ → ℕ → ℕ → List ℤ × Tape → (List ℤ × ℕ) × Tape
after_plane d L p r = (elim r.1.missed as (λ _. (Tape → (List ℤ × ℕ) × Tape)) [ true ↦ Decoder.done (r.0, suc p) | false ↦ walk_planes Decoder d L p r.0 ]) (behind_plane r.1)

module _ (d L p : ℕ) (ys : List ℤ) (t : Tape) {zs : List ℤ} {l : List Bool} {z : ℕ} where
  pub plane_finished : walk_plane Decoder d L p ys t ≡ (zs, tape l false z) → walk_planes Decoder d L (suc p) ys t ≡ walk_planes Decoder d L p zs (tape l false 0)
  unfolding walk_planes
  plane_finished h = ap (after_plane d L p) h

  pub plane_stopped : walk_plane Decoder d L p ys t ≡ (zs, tape l true z) → walk_planes Decoder d L (suc p) ys t ≡ ((zs, suc p), tape l true z)
  unfolding walk_planes
  plane_stopped h = ap (after_plane d L p) h

module _ (d L : ℕ) (xs : List ℤ) (h : length xs ≡ 4 ^ (suc d + L)) where
  abbrev code : ℕ → List Bool
  code = planes_code d L xs

  abbrev plane_code : ℕ → List Bool
  plane_code p = (walk_plane Coder d L p xs).1

  -- what the decoder makes of bits l, where planes n - 1 to 0 are to come
  abbrev pub run : ℕ → List Bool → (List ℤ × ℕ) × Tape
  run n l = walk_planes Decoder d L n (map (cleared n) xs) (tape l false 0)

  plane_held : (p : ℕ) → (walk_plane Coder d L p xs).0 ≡ xs
  plane_held p = (together_plane p d L xs h).held

  -- the coding of a plane, then that of the planes below it
  pub code_step : (p : ℕ) → code (suc p) ≡ plane_code p ++ code p
  unfolding walk_planes
  code_step p = ap (λ z. plane_code p ++ (walk_planes Coder d L p z).1) (plane_held p)

  past : (p : ℕ) (l l' : List Bool) → l ≡ plane_code p ++ l' → run (suc p) l ≡ run p l'
  past p l l' e = plane_finished d L p _ _ (ap (λ l. walk_plane Decoder d L p (map (cleared (suc p)) xs) (tape l false 0)) e ∙ (together_plane p d L xs h).full l' 0)

  pub run_whole : (n : ℕ) (r : List Bool) → run n (code n ++ r) ≡ ((map (cleared 0) xs, 0), tape r false 0)
  run_whole zero r = unfold walk_planes in refl
  run_whole (suc p) r = past p _ (code p ++ r) (ap (λ l. l ++ r) (code_step p) ∙ append_assoc (plane_code p) (code p) r) ∙ run_whole p r

  stopped_in : (p : ℕ) (l : List Bool) (j : ℕ) → Stops p xs 0 j (walk_plane Decoder d L p (map (cleared (suc p)) xs) (tape l false 0)) → Stopped xs (suc p) p j (run (suc p) l)
  stopped_in p l j S = record { under = omega arith; is = plane_stopped d L p _ _ S.1 ∙ ap (λ z. ((settled p j xs, suc p), tape [] true z)) (zero-add j) }

  stopped_below : (p : ℕ) (l l' : List Bool) {u j : ℕ} → l ≡ plane_code p ++ l' → Stopped xs p u j (run p l') → Stopped xs (suc p) u j (run (suc p) l)
  stopped_below p l l' e S = record { under = omega (arith, S.under); is = past p l l' e ∙ S.is }

  pub run_part : (n : ℕ) (l k : List Bool) (b : Bool) (m : List Bool) → (l ++ k) ++ b ∷ m ≡ code n → Further xs n (run n l) (run n (l ++ k))
  run_part zero l k b m e = absurd (nothing_after (l ++ k) b m (e ∙ (unfold walk_planes in refl)))
  run_part (suc p) l k b m e = go (first_part_splits B C (l ++ k) (b ∷ m) (e ∙ code_step p)) (λ l' k'. run_part p l' k' b m)
    where
      B : List Bool
      B = plane_code p

      C : List Bool
      C = code p

      G : Together p xs (walk_plane Coder d L p xs) (walk_plane Decoder d L p (map (cleared (suc p)) xs))
      G = together_plane p d L xs h

      Goal : Type 0
      Goal = Further xs (suc p) (run (suc p) l) (run (suc p) (l ++ k))

      Below : Type 0
      Below = (l' k' : List Bool) → (l' ++ k') ++ b ∷ m ≡ C → Further xs p (run p l') (run p (l' ++ k'))

      on : (g : Goes (l ++ k) (b ∷ m) B C) → Ends l B ⊎ Goes l k B g.0 → Below → Goal
      on g (inl i) ih =
          let P = G.part l [] i.0 i.1 (ap (λ l. l ++ i.0 ∷ i.1) (append-nil l) ∙ i.2) 0 in
          let Q = ih g.0 [] (ap (λ l. l ++ b ∷ m) (append-nil g.0) ∙ g.2) in
          record {
            plane = p;
            count = P.j;
            plane' = Q.plane;
            count' = Q.count;
            fewer = stopped_in p l P.j P.fewer;
            more = stopped_below p (l ++ k) g.0 g.1 Q.fewer;
            settles = λ n. omega (arith, unsettled_most Q.plane Q.count n, unsettled_least p P.j n, Q.fewer.under);
          }
      on g (inr i) ih =
          let Q = ih i.0 k (ap (λ l. l ++ b ∷ m) i.2 ∙ g.2) in
          record {
            plane = Q.plane;
            count = Q.count;
            plane' = Q.plane';
            count' = Q.count';
            fewer = stopped_below p l i.0 i.1 Q.fewer;
            more = stopped_below p (l ++ k) (i.0 ++ k) (g.1 ∙ ap (λ l. B ++ l) (sym i.2)) Q.more;
            settles = Q.settles;
          }

      go : Ends (l ++ k) B ⊎ Goes (l ++ k) (b ∷ m) B C → Below → Goal
      go (inl i) ih =
          let Q = G.part l k i.0 i.1 i.2 0 in
          record {
            plane = p;
            count = Q.j;
            plane' = p;
            count' = Q.i;
            fewer = stopped_in p l Q.j Q.fewer;
            more = stopped_in p (l ++ k) Q.i Q.more;
            settles = λ n. unsettled_mono p Q.j Q.i n Q.grows;
          }
      go (inr g) ih = on g (first_part_splits B g.0 l k g.1) ih
