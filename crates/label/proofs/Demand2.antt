-- Demand 2. A whole record gives back the very picture. Any bits at all, cut anywhere, decode to exactly what the walk has
-- settled, zero for the rest, all of them written, with the true count of unfinished planes and the place where the cut fell. The
-- softer picture of a whole record is the very picture too, and a thumbnail of it is the low band of the very picture.
use mathlib.Core.Path.{◌≡◌, ap, ◌∙◌}
use mathlib.Core.Bool.{Bool, true}
use mathlib.Core.List.{List, ◌++◌}
use Prim.Native.Nat.{ℕ, ◌*◌, ◌-◌, ◌/◌, ◌^◌, ◌≤◌}
use native.Mathlib.Omega.{arith}
use lib.IntN.{ℤ}
use lib.ListN.{length, take}
use lib.Seq.{length-take-le}
use borrow.Author.Tests.{eq-eqb, le-leb}
use Rattle.paper.specs.Sizes.{size_in, levels_in, halvings_in, planes_in}
use Rattle.paper.specs.Square.{greys_of, pictured, low_greys_of, thumbnail_of}
use Rattle.paper.specs.Walk.{decode_of, Settled}
use Rattle.paper.specs.Softer.{softer_of}
use Rattle.paper.specs.Bits.{bits, laid}
use Rattle.paper.specs.Block.{block_bytes, Origin, given_back}
use Rattle.paper.specs.Record.{blocks_for}
use Rattle.paper.specs.Jobs.{room_bytes, Decoding, decoding_refusal, settled_job, decoding_job, Writing, written_of, Inverse, display_job}
use Rattle.sizes.proofs.Ranges.{levels_less}
use Rattle.sizes.proofs.Refusals.{sizes_passed, done_is}
use Rattle.bits.proofs.OneBit.{bits_length}
use Rattle.square_laws.specs.Picture.{lossless}
use Rattle.square_laws.specs.Thumbnail.{thumbnail_whole}
use Rattle.thumbnail.proofs.Refusals.{halvings_few}
use Rattle.walk_laws.specs.Decoded.{all_bits}
use Rattle.walk_laws.specs.Softer.{softened_none}
use Rattle.walk_laws.specs.Place.{Placed, NeverBack, Stay, decoded_placed}
use Rattle.walk_laws.proofs.Place.{first_never_back, first_stay}
use Rattle.walk_laws.specs.Unfinished.{AllRead, planes_read}
use Rattle.walk_laws.proofs.Unfinished.{unfinished_true}
use Rattle.record_laws.specs.BothJobs.{room_written}
use Rattle.record_laws.specs.ReadBack.{bits_in, every_bit}
use Rattle.label.specs.Journey.{into_record, Seen, origin_seen, out_of_record, softer_out_of_record, thumbnail_out_of_record}
use Rattle.label.proofs.Way.{Known, written_all, accepted}
use Rattle.label.proofs.Journeys.{display_taken, Given, truth, n, code, truth_given, into_is, Opens, settled, rebuilt_as, out_is, softer_out_is, thumbnail_out_is}

-- ---- any bits at all
pub any_bits : (k L n : ℕ) (numbers : List ℤ) (bytes : List ℕ) (b : ℕ) → size_in k ≡ true → levels_in k L ≡ true → length numbers ≡ 4 ^ k → planes_in n ≡ true → b ≤ 8 * length bytes
    → decoding_job k L n numbers bytes b ≡ settled_job (decode_of k L n (take b (bits bytes)))
unfolding decoding_job decoding_refusal
any_bits k L n numbers bytes b s l e p h = done_is _ _ _ (sizes_passed k L _ s l ∙ rw (eq-eqb (length numbers) (4 ^ k) e, p, le-leb b (8 * length bytes) h))

-- The count of unfinished planes is the true one: n less the planes whose every bit is among the b bits, whatever bits r behind
-- them make every plane whole (there are such r: `most_read_lem`).
pub any_bits_unfinished : (k L n : ℕ) (numbers : List ℤ) (bytes : List ℕ) (b : ℕ) → size_in k ≡ true → levels_in k L ≡ true → length numbers ≡ 4 ^ k → planes_in n ≡ true → b ≤ 8 * length bytes
    → (r : List Bool) → AllRead k L n 0 (take b (bits bytes) ++ r)
    → (decoding_job k L n numbers bytes b).unfinished ≡ n - planes_read k L n (take b (bits bytes) ++ r) b
any_bits_unfinished k L n numbers bytes b s l e p h r a =
    ap (λ (d : Decoding). d.unfinished) (any_bits k L n numbers bytes b s l e p h) ∙ unfinished_true k L n (take b (bits bytes)) r a
    ∙ ap (λ c. n - planes_read k L n (take b (bits bytes) ++ r) c) (length-take-le b (bits bytes) (omega (arith, bits_length bytes)))

-- Where the cut fell is one of the S² places, and 0 where no plane is unfinished.
pub any_bits_placed : (k L n : ℕ) (numbers : List ℤ) (bytes : List ℕ) (b : ℕ) → size_in k ≡ true → levels_in k L ≡ true → length numbers ≡ 4 ^ k → planes_in n ≡ true → b ≤ 8 * length bytes
    → let d = decoding_job k L n numbers bytes b in Placed (4 ^ k) d.unfinished d.place
any_bits_placed k L n numbers bytes b s l e p h = rw (any_bits k L n numbers bytes b s l e p h) (decoded_placed k L n (levels_less k L l) (take b (bits bytes)))

-- So no decoding is refused for display: not by its unfinished planes, nor by its place.
pub any_bits_displayed : (k L n : ℕ) (numbers : List ℤ) (bytes : List ℕ) (b : ℕ) → size_in k ≡ true → levels_in k L ≡ true → length numbers ≡ 4 ^ k → planes_in n ≡ true → b ≤ 8 * length bytes
    → (picture : List ℕ) → length picture ≡ 4 ^ k → (room : List ℤ) → length room ≡ 4 ^ k
    → let d = decoding_job k L n numbers bytes b in (display_job k L d.unfinished d.place d.numbers picture room).refusal ≡ 0
unfolding display_job
any_bits_displayed k L n numbers bytes b s l e p h picture f room g =
    rw (any_bits k L n numbers bytes b s l e p h) (ap (λ (i : Inverse). i.refusal) (done_is _ _ _ (display_taken k L n (take b (bits bytes)) s l p picture f room g)))

-- More of the bits never move unfinished planes and place back.
pub any_bits_never_back : (k L n : ℕ) (numbers : List ℤ) (bytes : List ℕ) (b c : ℕ) → size_in k ≡ true → levels_in k L ≡ true → length numbers ≡ 4 ^ k → planes_in n ≡ true → b ≤ c → c ≤ 8 * length bytes
    → let d = decoding_job k L n numbers bytes b in let e = decoding_job k L n numbers bytes c in NeverBack d.unfinished d.place e.unfinished e.place
any_bits_never_back k L n numbers bytes b c s l e p g h =
    rw (any_bits k L n numbers bytes b s l e p (omega arith), any_bits k L n numbers bytes c s l e p h) (first_never_back k L n (levels_less k L l) (bits bytes) b c g)

-- And what is settled stays: while the same plane runs, no further bit changes a number before the place.
pub any_bits_stay : (k L n : ℕ) (numbers : List ℤ) (bytes : List ℕ) (b c : ℕ) → size_in k ≡ true → levels_in k L ≡ true → length numbers ≡ 4 ^ k → planes_in n ≡ true → b ≤ c → c ≤ 8 * length bytes
    → let d = decoding_job k L n numbers bytes b in let e = decoding_job k L n numbers bytes c in Stay d.unfinished e.unfinished d.place d.numbers e.numbers
any_bits_stay k L n numbers bytes b c s l e p g h =
    rw (any_bits k L n numbers bytes b s l e p (omega arith), any_bits k L n numbers bytes c s l e p h) (first_stay k L n (levels_less k L l) (bits bytes) b c g)

-- ---- a whole record
-- a picture, and room enough for all of its bits; whatever the lent places held
pub record Enough (o : Origin) (k L : ℕ) (label picture : List ℕ) (limit : ℕ) (numbers : List ℤ) (bytes room payload : List ℕ) (lent : List ℤ) : Type 0 where
  pub from : Known o
  pub given : Given k L label picture
  pub limit_holds : length (code k L label picture given) ≤ limit
  pub numbers_hold : length numbers ≡ 4 ^ k
  pub bytes_hold : length (code k L label picture given) ≤ 8 * length bytes
  pub room_holds : block_bytes * blocks_for o.edition (length (code k L label picture given)) ≤ length room
  pub payload_holds : room_bytes * blocks_for o.edition (length (code k L label picture given)) ≤ length payload
  pub lent_holds : length lent ≡ 4 ^ k

module _ (o : Origin) (k L : ℕ) (label picture : List ℕ) (limit : ℕ) (numbers : List ℤ) (bytes room payload : List ℕ) (lent : List ℤ) (enough : Enough o k L label picture limit numbers bytes room payload lent) where
  abbrev G : Given k L label picture
  G = enough.given

  abbrev T : List ℤ
  T = truth k L label picture G

  abbrev C : List Bool
  C = code k L label picture G

  abbrev W : Writing
  W = into_record k L o label picture limit numbers bytes room

  all_written : written_of k L T limit bytes ≡ C
  all_written = written_all k L T (truth_given k L label picture G) limit bytes enough.limit_holds enough.bytes_hold

  fits : block_bytes * blocks_for o.edition (length (written_of k L T limit bytes)) ≤ length room
  fits = omega (arith, ap (λ (l : List Bool). blocks_for o.edition (length l)) all_written, enough.room_holds)

  -- the record is written, and its blocks counted
  pub whole_written : (W.refusal ≡ 0) × (W.blocks ≡ blocks_for o.edition (length C))
  whole_written =
      let e = into_is k L label picture G o enough.from limit numbers enough.numbers_hold bytes room fits in
      let w = room_written k L (n k L label picture G) o label (laid (written_of k L T limit bytes) bytes) (length (written_of k L T limit bytes)) room (accepted k L T (truth_given k L label picture G) limit bytes o enough.from label G.labelled room fits) in
      (ap (λ (a : Writing). a.refusal) (e ∙ w), ap (λ (a : Writing). a.blocks) (e ∙ w) ∙ ap (λ (l : List Bool). blocks_for o.edition (length l)) all_written)

  -- the whole record, as it lies in the room: it opens, and every number is settled
  abbrev pub whole : List ℕ
  whole = take (block_bytes * W.blocks) W.room

  blocks_are : blocks_for o.edition (length (written_of k L T limit bytes)) ≡ blocks_for o.edition (length C)
  blocks_are = ap (λ (l : List Bool). blocks_for o.edition (length l)) all_written

  whole_opens : Opens o.edition (written_of k L T limit bytes) payload (block_bytes * W.blocks)
  whole_opens = record {
    some = omega (arith, whole_written.1);
    within = omega (arith, whole_written.1, blocks_are);
    payload_fits = let m : block_bytes * W.blocks / block_bytes ≡ blocks_for o.edition (length C) = omega (arith, whole_written.1) in omega (arith, m, enough.payload_holds);
  }

  all_settled : settled k L label picture G o enough.from limit numbers enough.numbers_hold bytes room fits (block_bytes * W.blocks) payload whole_opens lent enough.lent_holds ≡ record { numbers = T; unfinished = 0; read = length C; place = 0 }
  all_settled =
      let m : block_bytes * W.blocks / block_bytes ≡ blocks_for o.edition (length (written_of k L T limit bytes)) = omega (arith, whole_written.1, blocks_are) in
      let all_left = ap (bits_in o.edition (written_of k L T limit bytes)) m ∙ every_bit o.edition (written_of k L T limit bytes) in
      all_bits k L T (levels_less k L G.levels) (truth_given k L label picture G).square (truth_given k L label picture G).small (bits_in o.edition (written_of k L T limit bytes) (block_bytes * W.blocks / block_bytes)) (omega (arith, all_left, ap length all_written))

  -- The whole record, read, decoded and inverted, is the very picture, with no plane unfinished, and says where it was shot.
  pub very_picture : (shown : List ℕ) → length shown ≡ 4 ^ k → (greys : List ℤ) → length greys ≡ 4 ^ k → let S = out_of_record label whole payload lent shown greys in
      (S.read.refusal ≡ 0) × (origin_seen S ≡ given_back o) × (S.decoded ≡ record { refusal = 0; unfinished = 0; read = length C; place = 0; numbers = T }) × (S.rebuilt ≡ record { refusal = 0; picture = picture; room = greys_of k L T })
  very_picture shown e greys f =
      let out = out_is k L label picture G o enough.from limit numbers enough.numbers_hold bytes room fits (block_bytes * W.blocks) payload whole_opens lent enough.lent_holds shown e greys f in
      let back : pictured k (greys_of k L T) ≡ picture = lossless L k picture (omega (arith, levels_less k L G.levels)) G.square G.greys in (
        ap (λ (s : Seen). s.read.refusal) out,
        ap origin_seen out,
        ap (λ (s : Seen). s.decoded) out ∙ ap settled_job all_settled,
        ap (λ (s : Seen). s.rebuilt) out ∙ ap {B = Inverse} (λ (s : Settled). rebuilt_as k (greys_of k L s.numbers)) all_settled
            ∙ ap {B = Inverse} (λ (g : List ℕ). record { refusal = 0; picture = g; room = greys_of k L T }) back,
      )

  -- Nothing of it is moved for display: the softer picture is the very picture too.
  pub very_softer : (shown : List ℕ) → length shown ≡ 4 ^ k → (greys : List ℤ) → length greys ≡ 4 ^ k
      → (softer_out_of_record label whole payload lent shown greys).rebuilt ≡ record { refusal = 0; picture = picture; room = greys_of k L T }
  unfolding softer_of
  very_softer shown e greys f =
      ap (λ (s : Seen). s.rebuilt) (softer_out_is k L label picture G o enough.from limit numbers enough.numbers_hold bytes room fits (block_bytes * W.blocks) payload whole_opens lent enough.lent_holds shown e greys f)
      ∙ ap {B = Inverse} (λ (s : Settled). rebuilt_as k (softer_of k L s.unfinished s.place s.numbers)) all_settled
      ∙ ap {B = Inverse} (λ (xs : List ℤ). rebuilt_as k (greys_of k L xs)) (softened_none 0 T)
      ∙ ap {B = Inverse} (λ (g : List ℕ). record { refusal = 0; picture = g; room = greys_of k L T }) (lossless L k picture (omega (arith, levels_less k L G.levels)) G.square G.greys)

  -- With its side halved r times it is the r-level low band of the original, and 128, set into 0 to 255; before it is set, it is in the room.
  pub very_thumbnail : (r : ℕ) → halvings_in L r ≡ true → (shown : List ℕ) → length shown ≡ 4 ^ (k - r) → (greys : List ℤ) → length greys ≡ 4 ^ (k - r)
      → (thumbnail_out_of_record r label whole payload lent shown greys).rebuilt ≡ record { refusal = 0; picture = pictured (k - r) (low_greys_of k r picture); room = low_greys_of k r picture }
  very_thumbnail r halves shown e greys f =
      ap (λ (s : Seen). s.rebuilt) (thumbnail_out_is k L label picture G o enough.from limit numbers enough.numbers_hold bytes room fits (block_bytes * W.blocks) payload whole_opens lent enough.lent_holds r halves shown e greys f)
      ∙ ap {B = Inverse} (λ (s : Settled). rebuilt_as (k - r) (thumbnail_of k L r s.numbers)) all_settled
      ∙ ap {B = Inverse} (rebuilt_as (k - r)) (thumbnail_whole r L k picture (halvings_few L r halves) (omega (arith, levels_less k L G.levels)))
