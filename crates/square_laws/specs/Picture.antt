-- What the paper asks of a picture: it comes back whole, and setting greys into 0 to 255 moves none further apart. proofs/Picture.antt
-- has the error law.
use Rattle.std.specs.Prelude.{◌≡◌, refl, List, ℕ, ◌+◌, ◌-◌, ◌^◌, ◌<◌, ◌≤◌, min, length, get_or, pos, ◌+ℤ◌, ◌-ℤ◌}
use Rattle.std.proofs.Common.{sym, ap, ◌∙◌, arith, ext_get_or}
use Rattle.std.proofs.Math.IntN.{ℤ, -ℤ-+ℤ_cancel}
use Rattle.paper.specs.Lists.{at, Bytes}
use Rattle.paper.specs.Places.{z_of, raster_of}
use Rattle.paper.specs.Square.{lowered, raised, grey, pictured, numbers_of, greys_of}
use Rattle.integer_laws.specs.Difference.{◌⊖◌, ⊖-cases, split}
use Rattle.integer_laws.specs.Order.{ints}
use Rattle.places.proofs.Round.{z_below, raster_of_z}
use Rattle.lift.specs.Off.{Over, Off}
use Rattle.lift.proofs.Near.{overs}
use Rattle.line.proofs.FiveThree.{five_three_undoes}
use Rattle.list_laws.specs.Made.{length_made, get_d_made}
use Rattle.square_laws.specs.Undone.{levels_undone}
use Rattle.square_laws.specs.Numbers.{length_lowered}

-- ---- every place
pub at_lowered : (k : ℕ) (picture : List ℕ) (z : ℕ) → z < 4 ^ k → at (lowered k picture) z ≡ pos (get_or picture (raster_of k z) 0) -ℤ pos 128
unfolding lowered
at_lowered k picture z h = get_d_made (4 ^ k) _ z (pos 0) h

pub at_raised : (k : ℕ) (xs : List ℤ) (z : ℕ) → z < 4 ^ k → at (raised k xs) z ≡ at xs z +ℤ pos 128
unfolding raised
at_raised k xs z h = get_d_made (4 ^ k) _ z (pos 0) h

pub length_pictured : (k : ℕ) (greys : List ℤ) → length (pictured k greys) ≡ 4 ^ k
unfolding pictured
length_pictured k greys = length_made (4 ^ k) _

pub at_pictured : (k : ℕ) (greys : List ℤ) (p : ℕ) → p < 4 ^ k → get_or (pictured k greys) p 0 ≡ grey (at greys (z_of k p))
unfolding pictured
at_pictured k greys p h = get_d_made (4 ^ k) _ p 0 h

-- a grey, as `omega` reads it
pub grey-⊖ : (p n : ℕ) → grey (p ⊖ n) ≡ min (p - n) 255
unfolding grey
grey-⊖ p n = ⊖-cases (λ z. grey z ≡ min (p - n) 255) p n (λ h. refl) (λ h. omega arith)

-- ---- the picture comes back whole
back_grey : (g : ℕ) → g < 256 → grey (pos g -ℤ pos 128 +ℤ pos 128) ≡ g
unfolding grey
back_grey g h = rw (-ℤ-+ℤ_cancel (pos g) (pos 128)) (omega arith)

pub picture_back : (k : ℕ) (picture : List ℕ) → length picture ≡ 4 ^ k → Bytes picture → pictured k (raised k (lowered k picture)) ≡ picture
picture_back k picture e B = ext_get_or 0 _ picture (length_pictured k _ ∙ sym e) (λ p h. go p (omega (arith, length_pictured k (raised k (lowered k picture)))))
  where
    go : (p : ℕ) → p < 4 ^ k → get_or (pictured k (raised k (lowered k picture))) p 0 ≡ get_or picture p 0
    go p h = at_pictured k _ p h ∙ rw (at_raised k (lowered k picture) (z_of k p) (z_below k p), at_lowered k picture (z_of k p) (z_below k p), raster_of_z k p h) (back_grey (get_or picture p 0) (B p))

pub lossless : (L k : ℕ) (picture : List ℕ) → L ≤ k → length picture ≡ 4 ^ k → Bytes picture → pictured k (greys_of k L (numbers_of k L picture)) ≡ picture
unfolding greys_of numbers_of
lossless L k picture h e B = ap (λ (xs : List ℤ). pictured k (raised k xs)) (levels_undone five_three_undoes L k h (lowered k picture) (length_lowered k picture)) ∙ picture_back k picture e B

-- ---- the error law
over_raised : {B : ℕ} {x y : ℤ} → Over B x y → Over B (x +ℤ pos 128) (y +ℤ pos 128)
over_raised {B} {x} {y} = rw (split x, split y) (simp ints (omega overs))

over_grey : {B : ℕ} {x y : ℤ} → Over B x y → grey x ≤ grey y + B
over_grey {B} {x} {y} = rw (split x, split y) (simp grey-⊖ (omega overs))

pub raised_near : (B k : ℕ) (xs ys : List ℤ) (z : ℕ) → z < 4 ^ k → Off B (at xs z) (at ys z) → Off B (at (raised k xs) z) (at (raised k ys) z)
raised_near B k xs ys z h o = rw (at_raised k xs z h, at_raised k ys z h) (record { up = over_raised o.up; down = over_raised o.down })

-- setting greys into 0 to 255 moves none of them further apart
pub pictured_near : (B k : ℕ) (xs ys : List ℤ) → ((z : ℕ) → z < 4 ^ k → Off B (at xs z) (at ys z))
    → (p : ℕ) → p < 4 ^ k → (get_or (pictured k xs) p 0 ≤ get_or (pictured k ys) p 0 + B) × (get_or (pictured k ys) p 0 ≤ get_or (pictured k xs) p 0 + B)
pictured_near B k xs ys N p h =
    let o = N (z_of k p) (z_below k p) in
    rw (at_pictured k xs p h, at_pictured k ys p h) (over_grey o.up, over_grey o.down)
