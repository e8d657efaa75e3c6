-- Every plane takes a bit: where none is left, one is missed.
use Rattle.std.specs.Prelude.{◌≡◌, refl, Bool, true, false, List, [], ◌∷◌, ℕ, zero, suc, ◌^◌, ◌<◌, leb, ℤ, nat_abs, length, take, drop}
use Rattle.std.proofs.Common.{ap, ◌∙◌, arith, length-take}
use Rattle.std.proofs.Math.Nat.{pow-le-pow_right}
use Rattle.paper.specs.Walk.{reaches, Decoder, test_set, walk_number, walk_numbers, walk_set, walk_plane, ◌next◌}
use Rattle.walk_laws.specs.Asks.{test_known, test_asks, number_known, number_asks, opened}
use Rattle.walk_laws.specs.Together.{tape, Decodes}
use Rattle.walk_laws.specs.Read.{Reads, Length, reads_numbers, walks_set, walks_rest, walks_split}

-- where no bit is left the walk f misses one
record TakesBit (f : Decodes (List ℤ)) : Type 0 where
  missed : (z : ℕ) → (y : ℕ) × ((f (tape [] false z)).1 ≡ tape [] true y)

due_next : {f g : Decodes (List ℤ)} {n K : ℕ} → TakesBit f → Reads (Length n) K g → TakesBit (◌next◌ Decoder f g)
unfolding ◌next◌
due_next {f} {g} F G = record { missed = λ z. let M = F.missed z in let O = G.over M.0 in (O.place, ap (λ t. (g t).1) M.1 ∙ ap (λ r. r.1) O.is) }

due_tested : (p : ℕ) (xs : List ℤ) (f : Decodes (List ℤ)) → TakesBit f → TakesBit (Decoder.then (test_set Decoder p xs) (opened Decoder xs f))
due_tested p xs f F = record { missed = λ z. go z (reaches (2 ^ suc p) xs) refl }
  where
    go : (z : ℕ) (b : Bool) → reaches (2 ^ suc p) xs ≡ b → (y : ℕ) × ((Decoder.then (test_set Decoder p xs) (opened Decoder xs f) (tape [] false z)).1 ≡ tape [] true y)
    go z true e = rw (test_known Decoder p xs e) (F.missed z)
    go z false e = (z, rw (test_asks Decoder p xs e))

due_number : (p : ℕ) (x : ℤ) → TakesBit (walk_number Decoder p x)
due_number p x = record { missed = λ z. (z, go z (leb (2 ^ suc p) (nat_abs x)) refl) }
  where
    go : (z : ℕ) (b : Bool) → leb (2 ^ suc p) (nat_abs x) ≡ b → (walk_number Decoder p x (tape [] false z)).1 ≡ tape [] true z
    go z true e = rw (number_known Decoder p x e)
    go z false e = rw (number_asks Decoder p x e)

due_numbers : (p : ℕ) (xs : List ℤ) → 0 < length xs → TakesBit (walk_numbers Decoder p xs)
unfolding walk_numbers
due_numbers p [] h = absurd (omega arith)
due_numbers p (x ∷ xs) h = due_next (due_number p x) (reads_numbers p xs)

-- the first of a set's parts has a number if the set has
first_some : (d : ℕ) (xs : List ℤ) → 0 < length xs → 0 < length (take (4 ^ suc d) xs)
first_some d xs h = omega (arith, length-take (4 ^ suc d) xs, pow-le-pow_right {n = 4} (omega arith) {i = 0} {j = suc d} (omega arith))

due_set : (p d : ℕ) (xs : List ℤ) → 0 < length xs → TakesBit (walk_set Decoder p d xs)
unfolding walk_set
due_set p zero xs h = due_tested p xs _ (due_numbers p xs h)
due_set p (suc d) xs h =
    let q = 4 ^ suc d in
    due_tested p xs _
    (due_next (due_set p d (take q xs) (first_some d xs h)) (walks_split q (drop q xs) (walks_set p d _) (walks_split q (drop q (drop q xs)) (walks_set p d _) (walks_set p d _))).reads)

pub plane_due : (d L p : ℕ) (xs : List ℤ) → 0 < length xs → (z : ℕ) → (y : ℕ) × ((walk_plane Decoder d L p xs (tape [] false z)).1 ≡ tape [] true y)
unfolding walk_plane
plane_due d L p xs h = (due_next (due_set p d (take (4 ^ suc d) xs) (first_some d xs h)) (walks_rest p d L (drop (4 ^ suc d) xs)).reads).missed
