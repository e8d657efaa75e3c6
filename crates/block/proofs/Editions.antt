-- Where an edition's payload starts, what stands before it, and how arm and mount read back. Assumes nothing.
use Prim.Native.Nat.{ℕ, ◌+◌, ◌<◌, ◌≤◌}
use mathlib.Core.Path.{◌≡◌, refl, sym, ap, ◌∙◌}
use mathlib.Core.Bool.{Bool, true, false, ◌&&◌, ◌||◌}
use mathlib.Core.List.{List, [], ◌∷◌}
use native.Mathlib.Omega.{arith}
use lib.Dec.{leb}
use lib.ListN.{length, drop}
use lib.Seq.{get_or-take, get_or-drop}
use borrow.Author.Tests.{leb-true, le-leb, eq-eqb, ne_eqb}
use Rattle.sizes.proofs.Ranges.{both_first, both_second}
use Rattle.paper.specs.Lists.{pick}
use Rattle.paper.specs.Block.{Origin, edition_in, unnamed, arm_in, most_mount, origin_in, given_back, header_bytes, start_of, three_bytes, named, byte_at, triple_at, edition_of, named_of, arm_of, mount_of, origin_right}

-- the edition chooses between byte 16 and byte 20
pub start_least : (e : ℕ) → header_bytes ≤ start_of e
unfolding start_of
start_least e = go (unnamed e)
  where
    go : (b : Bool) → header_bytes ≤ pick b header_bytes (header_bytes + 4)
    go true = omega arith
    go false = omega arith

pub start_most : (e : ℕ) → start_of e ≤ header_bytes + 4
unfolding start_of
start_most e = go (unnamed e)
  where
    go : (b : Bool) → pick b header_bytes (header_bytes + 4) ≤ header_bytes + 4
    go true = omega arith
    go false = omega arith

-- what names the origin fills the bytes between
pub named_length : (o : Origin) → header_bytes + length (named o) ≡ start_of o.edition
unfolding start_of named
named_length o = go (unnamed o.edition)
  where
    go : (b : Bool) → header_bytes + length (pick b [] (o.arm ∷ three_bytes o.mount)) ≡ pick b header_bytes (header_bytes + 4)
    go true = refl
    go false = refl

-- what a reader finds of it: 0 and 0 in edition 1
pub arm_back : (o : Origin) → byte_at (named o) 0 ≡ pick (unnamed o.edition) 0 o.arm
unfolding named
arm_back o = go (unnamed o.edition)
  where
    go : (b : Bool) → byte_at (pick b [] (o.arm ∷ three_bytes o.mount)) 0 ≡ pick b 0 o.arm
    go true = refl
    go false = refl

module _ (o : Origin) (right : origin_in o ≡ true) where
  pub arm_right : (unnamed o.edition || arm_in (byte_at (named o) 0)) ≡ true
  unfolding origin_in named
  arm_right = go (unnamed o.edition) right
    where
      go : (b : Bool) → (b || (arm_in o.arm && leb o.mount most_mount)) ≡ true → (b || arm_in (byte_at (pick b [] (o.arm ∷ three_bytes o.mount)) 0)) ≡ true
      go true h = refl
      go false h = both_first (arm_in o.arm) (leb o.mount most_mount) h

  pub mount_back : triple_at (named o) 1 ≡ pick (unnamed o.edition) 0 o.mount
  unfolding origin_in named
  mount_back = go (unnamed o.edition) right
    where
      go : (b : Bool) → (b || (arm_in o.arm && leb o.mount most_mount)) ≡ true
          → triple_at (pick b [] (o.arm ∷ three_bytes o.mount)) 1 ≡ pick b 0 o.mount
      go true h = refl
      go false h = omega (arith, leb-true o.mount most_mount (both_second (arm_in o.arm) (leb o.mount most_mount) h))

-- ---- how the code's tests judge it
pub edition_high : (e : ℕ) → 1 ≤ e → edition_in e ≡ leb e 2
unfolding edition_in
edition_high e h = rw (le-leb 1 e h)

pub edition_few : (e : ℕ) → edition_in e ≡ true → e ≤ 2
unfolding edition_in
edition_few e h = leb-true e 2 (both_second (leb 1 e) (leb e 2) h)

pub start_first : (e : ℕ) → e ≡ 1 → start_of e ≡ header_bytes
unfolding start_of
start_first e h = rw (eq-eqb e 1 h)

-- arm and mount are not looked at in edition 1, and both must be right else
module _ (o : Origin) where
  pub origin_ignored : o.edition ≡ 1 → origin_in o ≡ true
  unfolding origin_in
  origin_ignored h = rw (eq-eqb o.edition 1 h)

  pub origin_looked_at : (o.edition ≡ 1 → ⊥) → origin_in o ≡ (arm_in o.arm && leb o.mount most_mount)
  unfolding origin_in
  origin_looked_at h = rw (ne_eqb o.edition 1 h)

  pub arm_few : (o.edition ≡ 1 → ⊥) → origin_in o ≡ true → o.arm ≤ 2
  unfolding arm_in
  arm_few h right =
      let arm = both_first (arm_in o.arm) (leb o.mount most_mount) (sym (origin_looked_at h) ∙ right) in
      leb-true o.arm 2 (both_second (leb 1 o.arm) (leb o.arm 2) arm)

-- nothing is named in edition 1, whatever it is
pub named_none : (o : Origin) → o.edition ≡ 1 → named o ≡ []
unfolding named
named_none o h = rw (eq-eqb o.edition 1 h)

-- what is given back of an origin: nothing of arm and mount in edition 1, and all of it else
pub given_first : (o : Origin) → o.edition ≡ 1 → given_back o ≡ record { edition = 1; arm = 0; mount = 0 }
given_first o h = rw (eq-eqb o.edition 1 h) (λ t. record { edition = h t; arm = 0; mount = 0 })

pub given_later : (o : Origin) → (o.edition ≡ 1 → ⊥) → given_back o ≡ o
given_later o h = rw (ne_eqb o.edition 1 h)

-- so what is given back of an origin names the same
pub named_given : (o : Origin) → named (given_back o) ≡ named o
unfolding named
named_given o = go (unnamed o.edition)
  where
    go : (b : Bool) → pick b [] (pick b 0 o.arm ∷ three_bytes (pick b 0 o.mount)) ≡ pick b [] (o.arm ∷ three_bytes o.mount)
    go true = refl
    go false = refl

-- a block's arm and mount stand in bytes 16 to 19, if its edition names them
module _ (block : List ℕ) where
  pub named_of_first : edition_of block ≡ 1 → named_of block ≡ []
  unfolding named_of start_of
  named_of_first h = rw (eq-eqb (edition_of block) 1 h)

  pub named_byte : (edition_of block ≡ 1 → ⊥) → (j : ℕ) → j < 4 → byte_at (named_of block) j ≡ byte_at block (header_bytes + j)
  unfolding named_of start_of
  named_byte h j few = rw (ne_eqb (edition_of block) 1 h) (get_or-take 4 (drop header_bytes block) j 0 few ∙ get_or-drop header_bytes block j 0)

  -- they are 0 where nothing is named
  pub arm_none : edition_of block ≡ 1 → arm_of block ≡ 0
  arm_none h = ap (λ n. byte_at n 0) (named_of_first h)

  pub mount_none : edition_of block ≡ 1 → mount_of block ≡ 0
  mount_none h = ap (λ n. triple_at n 1) (named_of_first h)

  pub mount_there : (edition_of block ≡ 1 → ⊥) → mount_of block ≡ triple_at block (header_bytes + 1)
  mount_there h = omega (arith, named_byte h 1 (omega arith), named_byte h 2 (omega arith), named_byte h 3 (omega arith))

  pub origin_unknown : edition_in (edition_of block) ≡ false → origin_right block ≡ false
  unfolding origin_right
  origin_unknown h = rw h

  pub origin_first : edition_in (edition_of block) ≡ true → edition_of block ≡ 1 → origin_right block ≡ true
  unfolding origin_right
  origin_first h e = rw (h, eq-eqb (edition_of block) 1 e)

  pub origin_armed : edition_in (edition_of block) ≡ true → (edition_of block ≡ 1 → ⊥) → origin_right block ≡ arm_in (byte_at block header_bytes)
  unfolding origin_right
  origin_armed h e = rw (h, ne_eqb (edition_of block) 1 e) (ap arm_in (named_byte e 0 (omega arith)))
