-- What a picture's journey comes to, whatever was lent on the way: the record of its first bits, and from any first part of
-- that record with a whole block, what the bits in it settle.
use mathlib.Core.Path.{◌≡◌, ap, ◌∙◌}
use mathlib.Core.Bool.{Bool, true}
use mathlib.Core.List.{List}
use Prim.Native.Nat.{ℕ, ◌*◌, ◌-◌, ◌/◌, ◌^◌, ◌≤◌}
use native.Mathlib.Omega.{arith}
use lib.IntN.{ℤ}
use lib.ListN.{length, take}
use borrow.Author.Tests.{eq-eqb, le-leb, lt-ltb}
use Rattle.paper.specs.Sizes.{most_planes, size_in, levels_in, halvings_in, planes_in}
use Rattle.paper.specs.Lists.{Bytes}
use Rattle.paper.specs.Square.{numbers_of, greys_of, pictured, thumbnail_of}
use Rattle.paper.specs.Walk.{plane_count, code_of, decode_of, Settled}
use Rattle.paper.specs.Softer.{softer_of}
use Rattle.paper.specs.Bits.{laid}
use Rattle.paper.specs.Block.{block_bytes, Origin, is_label}
use Rattle.paper.specs.Record.{blocks_for}
use Rattle.paper.specs.Jobs.{room_bytes, Forward, forward_refusal, forward_job, Coding, coding_job, written_of, Decoding, settled_job, decoding_job, Inverse, picture_refusal, inverse_refusal, inverse_job, display_refusal, display_job, thumbnail_refusal, thumbnail_job, Writing, writing_job, Read, reading_job}
use Rattle.sizes.proofs.Ranges.{levels_few, levels_less, planes_few}
use Rattle.sizes.proofs.Refusals.{sizes_passed, done_is}
use Rattle.sizes.proofs.Numbers.{count_in}
use Rattle.square_laws.specs.Numbers.{numbers_in_lem, length_numbers}
use Rattle.square_laws.specs.Thumbnail.{first_in}
use Rattle.record_laws.specs.ReadBack.{bits_in, read_back}
use Rattle.walk_laws.specs.Read.{decoded_length}
use Rattle.walk_laws.specs.Place.{decoded_placed}
use Rattle.walk_laws.specs.Unfinished.{unfinished_most}
use Rattle.walk_laws.specs.Room.{decoded_in}
use Rattle.label.specs.Journey.{into_record, Seen, seen_by, out_of_record, softer_out_of_record, thumbnail_out_of_record}
use Rattle.label.proofs.Way.{Numbers, Known, coded, read, decoded}

-- ---- whatever bits were decoded, no row of inverse and display applies to what they settle
module _ (k L n : ℕ) (l : List Bool) (size : size_in k ≡ true) (levels : levels_in k L ≡ true) (planes : planes_in n ≡ true) (picture : List ℕ) (picture_fits : length picture ≡ 4 ^ k) (room : List ℤ) (room_fits : length room ≡ 4 ^ k) where
  abbrev d : Settled
  d = decode_of k L n l

  pub picture_taken : (later : ℕ) → picture_refusal k L d.numbers picture room later ≡ later
  picture_taken later = sizes_passed k L _ size levels ∙ rw (
    eq-eqb (length d.numbers) (4 ^ k) (decoded_length k L n l),
    eq-eqb (length picture) (4 ^ k) picture_fits,
    eq-eqb (length room) (4 ^ k) room_fits,
    decoded_in k L n l (planes_few n planes),
  )

  few : planes_in d.unfinished ≡ true
  unfolding planes_in
  few = le-leb d.unfinished most_planes (omega (arith, unfinished_most k L n l, planes_few n planes))

  pub display_taken : display_refusal k L d.unfinished d.place d.numbers picture room ≡ 0
  unfolding display_refusal
  display_taken = picture_taken _ ∙ rw (few, lt-ltb d.place (4 ^ k) (decoded_placed k L n (levels_less k L levels) l).below)

-- greys made a picture of side 2 ^ k
abbrev pub rebuilt_as : ℕ → List ℤ → Inverse
rebuilt_as k greys = record { refusal = 0; picture = pictured k greys; room = greys }

-- what is seen of the first j blocks of the record of l, where its bits settle s
abbrev pub seen_as : Origin → ℕ → ℕ → ℕ → List Bool → List ℕ → ℕ → Settled → Inverse → Seen
seen_as o k L n l payload j s rebuilt = record { read = read_back o k L n l payload j; decoded = settled_job s; rebuilt = rebuilt }

-- the first m bytes of the record of l, in edition e, still open: one whole block at least; and there is room for the payload of
-- its whole blocks
pub record Opens (e : ℕ) (l : List Bool) (payload : List ℕ) (m : ℕ) : Type 0 where
  pub some : block_bytes ≤ m
  pub within : m ≤ block_bytes * blocks_for e (length l)
  pub payload_fits : room_bytes * (m / block_bytes) ≤ length payload

-- a picture of S² greys, sizes in their range, a label
pub record Given (k L : ℕ) (label picture : List ℕ) : Type 0 where
  pub size : size_in k ≡ true
  pub levels : levels_in k L ≡ true
  pub labelled : is_label label ≡ true
  pub square : length picture ≡ 4 ^ k
  pub greys : Bytes picture

module _ (k L : ℕ) (label picture : List ℕ) (given : Given k L label picture) where
  -- the true wavelet numbers, their plane count and their coding
  abbrev pub truth : List ℤ
  truth = numbers_of k L picture

  abbrev pub n : ℕ
  n = plane_count truth

  abbrev pub code : List Bool
  code = code_of k L truth

  pub truth_given : Numbers k L truth
  truth_given = record {
    size = given.size;
    levels = given.levels;
    square = length_numbers L k picture;
    small = numbers_in_lem L k picture (levels_few k L given.levels) (omega (arith, levels_less k L given.levels)) given.greys;
  }

  forwarded : (numbers : List ℤ) → length numbers ≡ 4 ^ k → forward_job k L picture numbers ≡ record { refusal = 0; n = n; numbers = truth }
  unfolding forward_job forward_refusal
  forwarded numbers e = done_is _ _ _ (sizes_passed k L _ given.size given.levels ∙ rw (eq-eqb (length picture) (4 ^ k) given.square, eq-eqb (length numbers) (4 ^ k) e))

  module _ (o : Origin) (from : Known o) (limit : ℕ) (numbers : List ℤ) (numbers_fit : length numbers ≡ 4 ^ k) (bytes room : List ℕ) (room_fits : block_bytes * blocks_for o.edition (length (written_of k L truth limit bytes)) ≤ length room) where
    -- the bits in the record
    abbrev pub recorded : List Bool
    recorded = written_of k L truth limit bytes

    pub into_is : into_record k L o label picture limit numbers bytes room ≡ writing_job k L n o label (laid recorded bytes) (length recorded) room
    unfolding into_record
    into_is =
        ap (λ (f : Forward). let c = coding_job k L f.numbers limit bytes in writing_job k L c.n o label c.bytes c.written room) (forwarded numbers numbers_fit)
        ∙ ap (λ (c : Coding). writing_job k L c.n o label c.bytes c.written room) (coded k L truth truth_given limit bytes)

    -- ---- out of its first m bytes
    module _ (m : ℕ) (payload : List ℕ) (opens : Opens o.edition recorded payload m) (lent : List ℤ) (lent_fits : length lent ≡ 4 ^ k) where
      -- the bits that are left, and what they settle
      abbrev pub left : ℕ
      left = bits_in o.edition recorded (m / block_bytes)

      abbrev pub settled : Settled
      settled = decode_of k L n (take left code)

      -- whatever job makes greys of it
      by_is : (rebuilds : ℕ → ℕ → Decoding → Inverse) → seen_by rebuilds label (take m (into_record k L o label picture limit numbers bytes room).room) payload lent
          ≡ seen_as o k L n recorded payload (m / block_bytes) settled (rebuilds k L (settled_job settled))
      by_is rebuilds =
          ap (λ (r : Read). let d = decoding_job r.k r.L r.n lent r.room r.bits in record { read = r; decoded = d; rebuilt = rebuilds r.k r.L d })
          (ap (λ (w : Writing). reading_job (take m w.room) label payload) into_is ∙ read k L truth truth_given limit bytes o from label given.labelled room room_fits m opens.some opens.within payload opens.payload_fits)
          ∙ ap (λ (d : Decoding). record { read = read_back o k L n recorded payload (m / block_bytes); decoded = d; rebuilt = rebuilds k L d })
          (decoded k L truth truth_given limit bytes o from label given.labelled room room_fits m opens.some opens.within payload opens.payload_fits lent lent_fits)

      -- the picture
      pub out_is : (shown : List ℕ) → length shown ≡ 4 ^ k → (greys : List ℤ) → length greys ≡ 4 ^ k
          → out_of_record label (take m (into_record k L o label picture limit numbers bytes room).room) payload lent shown greys
          ≡ seen_as o k L n recorded payload (m / block_bytes) settled (rebuilt_as k (greys_of k L settled.numbers))
      unfolding out_of_record inverse_job inverse_refusal
      out_is shown e greys f = by_is (λ k L d. inverse_job k L d.numbers shown greys)
          ∙ ap {B = Seen} (seen_as o k L n recorded payload (m / block_bytes) settled) (done_is _ _ _ (picture_taken k L n (take left code) given.size given.levels (count_in truth) shown e greys f 0))

      -- the softer picture
      pub softer_out_is : (shown : List ℕ) → length shown ≡ 4 ^ k → (greys : List ℤ) → length greys ≡ 4 ^ k
          → softer_out_of_record label (take m (into_record k L o label picture limit numbers bytes room).room) payload lent shown greys
          ≡ seen_as o k L n recorded payload (m / block_bytes) settled (rebuilt_as k (softer_of k L settled.unfinished settled.place settled.numbers))
      unfolding softer_out_of_record display_job
      softer_out_is shown e greys f = by_is (λ k L d. display_job k L d.unfinished d.place d.numbers shown greys)
          ∙ ap {B = Seen} (seen_as o k L n recorded payload (m / block_bytes) settled) (done_is _ _ _ (display_taken k L n (take left code) given.size given.levels (count_in truth) shown e greys f))

      -- a thumbnail
      pub thumbnail_out_is : (r : ℕ) → halvings_in L r ≡ true → (shown : List ℕ) → length shown ≡ 4 ^ (k - r) → (greys : List ℤ) → length greys ≡ 4 ^ (k - r)
          → thumbnail_out_of_record r label (take m (into_record k L o label picture limit numbers bytes room).room) payload lent shown greys
          ≡ seen_as o k L n recorded payload (m / block_bytes) settled (rebuilt_as (k - r) (thumbnail_of k L r settled.numbers))
      unfolding thumbnail_out_of_record thumbnail_job thumbnail_refusal
      thumbnail_out_is r halves shown e greys f = by_is (λ k L d. thumbnail_job k L r d.numbers shown greys) ∙ ap {B = Seen} (seen_as o k L n recorded payload (m / block_bytes) settled) (done_is _ _ _ (sizes_passed k L _ given.size given.levels ∙ rw (
        halves,
        eq-eqb (length settled.numbers) (4 ^ k) (decoded_length k L n (take left code)),
        eq-eqb (length shown) (4 ^ (k - r)) e,
        eq-eqb (length greys) (4 ^ (k - r)) f,
        first_in (4 ^ (k - r)) settled.numbers (decoded_in k L n (take left code) (planes_few n (count_in truth))),
      )))
