-- What is shown of a damaged record. A block that the check catches ends the record there: what is decoded and shown is what is
-- decoded and shown of the record cut before it, of which demand 3 speaks where that is one coding's; and if it is block 0, nothing is.
-- check_laws/proofs/Caught.antt says what is caught: one or two bytes changed, two unequal bytes exchanged.
use mathlib.Core.Path.{◌≡◌, refl, ap}
use mathlib.Core.List.{List}
use Prim.Native.Nat.{ℕ, ◌*◌, ◌<◌}
use lib.IntN.{ℤ}
use lib.ListN.{take}
use Rattle.paper.specs.Sizes.{size_in}
use Rattle.paper.specs.Block.{block_bytes}
use Rattle.paper.specs.Jobs.{Read, read_refused, sizes_refusal, Decoding, decoding_refusal, decoding_job, Inverse, inverse_refusal, inverse_job, display_refusal, display_job, thumbnail_refusal, thumbnail_job}
use Rattle.check_laws.specs.Damage.{Caught}
use Rattle.record_laws.specs.Damaged.{with_block}
use Rattle.record_laws.specs.ReadDamaged.{Comes, read_cut_there}
use Rattle.record_laws.proofs.ReadDamaged.{first_damaged, later_damaged}
use Rattle.label.specs.Journey.{Seen, seen_by, out_of_record, softer_out_of_record, thumbnail_out_of_record}

-- block i of a record, to which the reading job comes, replaced by one that the check catches
module _ (s label payload : List ℕ) (i : ℕ) (comes : Comes s label payload i) (block : List ℕ) (caught : Caught block) (numbers : List ℤ) (picture : List ℕ) (room : List ℤ) where
  abbrev damaged : Seen
  damaged = out_of_record label (with_block i block s) payload numbers picture room

  -- the reading is refused, and so are decoding and inverse: numbers and picture are what they were
  pub block_0_damaged : i ≡ 0 → (damaged.read ≡ read_refused payload 8) × (damaged.decoded.numbers ≡ numbers) × (damaged.rebuilt.picture ≡ picture)
  unfolding out_of_record size_in sizes_refusal decoding_refusal decoding_job inverse_refusal inverse_job
  block_0_damaged e = rw (first_damaged s label payload i comes block caught e) (refl, refl, refl)

  -- nor is a softer picture shown, nor a thumbnail
  pub softer_block_0_damaged : i ≡ 0 → (softer_out_of_record label (with_block i block s) payload numbers picture room).rebuilt.picture ≡ picture
  unfolding softer_out_of_record size_in sizes_refusal display_refusal display_job
  softer_block_0_damaged e = rw (first_damaged s label payload i comes block caught e)

  pub thumbnail_block_0_damaged : (r : ℕ) → i ≡ 0 → (thumbnail_out_of_record r label (with_block i block s) payload numbers picture room).rebuilt.picture ≡ picture
  unfolding thumbnail_out_of_record size_in sizes_refusal thumbnail_refusal thumbnail_job
  thumbnail_block_0_damaged r e = rw (first_damaged s label payload i comes block caught e)

  module _ (some : 0 < i) where
    abbrev cut : Seen
    cut = out_of_record label (take (block_bytes * i) s) payload numbers picture room

    pub damaged_ended : (damaged.read.blocks ≡ i) × (damaged.read.ended ≡ 8)
    unfolding out_of_record
    damaged_ended =
        let e = later_damaged s label payload i comes block caught some in
        (ap (λ (r : Read). r.blocks) e, ap (λ (r : Read). r.ended) e)

    -- whatever job makes greys of what is decoded
    shows_cut : (rebuilds : ℕ → ℕ → Decoding → Inverse) → let d = seen_by rebuilds label (with_block i block s) payload numbers in let c = seen_by rebuilds label (take (block_bytes * i) s) payload numbers in
        (d.decoded ≡ c.decoded) × (d.rebuilt ≡ c.rebuilt)
    shows_cut rebuilds = rw (later_damaged s label payload i comes block caught some, read_cut_there s label payload i comes some) (refl, refl)

    pub damaged_shows_cut : (damaged.decoded ≡ cut.decoded) × (damaged.rebuilt ≡ cut.rebuilt)
    unfolding out_of_record
    damaged_shows_cut = shows_cut (λ k L d. inverse_job k L d.numbers picture room)

    pub softer_damaged_shows_cut : (softer_out_of_record label (with_block i block s) payload numbers picture room).rebuilt ≡ (softer_out_of_record label (take (block_bytes * i) s) payload numbers picture room).rebuilt
    unfolding softer_out_of_record
    softer_damaged_shows_cut = (shows_cut (λ k L d. display_job k L d.unfinished d.place d.numbers picture room)).1

    pub thumbnail_damaged_shows_cut : (r : ℕ) → (thumbnail_out_of_record r label (with_block i block s) payload numbers picture room).rebuilt ≡ (thumbnail_out_of_record r label (take (block_bytes * i) s) payload numbers picture room).rebuilt
    unfolding thumbnail_out_of_record
    thumbnail_damaged_shows_cut r = (shows_cut (λ k L d. thumbnail_job k L r d.numbers picture room)).1
