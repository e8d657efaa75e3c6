-- What a thumbnail of a cut picture is worth: with p planes unfinished no grey is further than (7 (L - r) + 1) (2 ^ p - 1) from the
-- thumbnail of the original, which is its r-level low band and 128, set into 0 to 255 (`very_thumbnail` of demand 2). In a stream, or in
-- the blocks of a cut record.
use mathlib.Core.Path.{◌≡◌, refl, ap, ◌∙◌}
use mathlib.Core.Bool.{Bool, true}
use mathlib.Core.List.{List}
use Prim.Native.Nat.{ℕ, zero, suc, ◌+◌, ◌*◌, ◌-◌, ◌/◌, ◌^◌, ◌<◌, ◌≤◌}
use native.Mathlib.Omega.{arith}
use lib.IntN.{ℤ}
use lib.ListN.{length, take, get_or}
use Rattle.paper.specs.Sizes.{halvings_in, grey_limit, judged}
use Rattle.paper.specs.Square.{raised, pictured, low_greys_of, thumbnail_of}
use Rattle.paper.specs.Block.{block_bytes, Origin, given_back}
use Rattle.paper.specs.Record.{blocks_for}
use Rattle.paper.specs.Jobs.{Inverse, thumbnail_refusal, thumbnail_job, written_of}
use Rattle.sizes.proofs.Ranges.{levels_less}
use Rattle.square_laws.specs.Thumbnail.{thumbnail_whole, thumbnail_smallest}
use Rattle.square_laws.proofs.Thumbnail.{thumbnail_near}
use Rattle.thumbnail.proofs.Refusals.{halvings_few}
use Rattle.walk_laws.specs.Read.{decoded_length}
use Rattle.record_laws.specs.ReadBack.{bits_in}
use Rattle.label.specs.Journey.{into_record, Seen, origin_seen, thumbnail_out_of_record}
use Rattle.label.proofs.Way.{Known}
use Rattle.label.proofs.Journeys as way
use Rattle.label.proofs.Journeys.{Given, truth_given, rebuilt_as, seen_as, Opens, thumbnail_out_is}
use Rattle.label.proofs.Demand3.{true_numbers, first, numbers_truthful, truthful_off, pictured_most, off_told}

-- a job that is not refused is done
done : (n : ℕ) (picture : List ℕ) (room : List ℤ) (i : Inverse) → let j : Inverse = judged n (λ r. record { refusal = r; picture = picture; room = room }) i in j.refusal ≡ 0 → j ≡ i
done zero picture room i h = refl
done (suc n) picture room i h = absurd (omega arith)

-- At r = L it is the smallest band, and 128.
pub smallest_band : (k L : ℕ) (numbers : List ℤ) (picture : List ℕ) (room : List ℤ) → (thumbnail_job k L L numbers picture room).refusal ≡ 0
    → thumbnail_job k L L numbers picture room ≡ rebuilt_as (k - L) (raised (k - L) (take (4 ^ (k - L)) numbers))
unfolding thumbnail_job
smallest_band k L numbers picture room h = done (thumbnail_refusal k L L numbers picture room) picture room _ h ∙ ap {B = Inverse} (rebuilt_as (k - L)) (thumbnail_smallest k L numbers)

-- It is made of the first (S / 2 ^ r)² numbers alone: numbers that differ behind them make no difference, not even by a refusal.
pub first_numbers_alone : (k L r : ℕ) (xs ys : List ℤ) (picture : List ℕ) (room : List ℤ) → length xs ≡ length ys → take (4 ^ (k - r)) xs ≡ take (4 ^ (k - r)) ys
    → thumbnail_job k L r xs picture room ≡ thumbnail_job k L r ys picture room
unfolding thumbnail_job thumbnail_refusal thumbnail_of
first_numbers_alone k L r xs ys picture room e f = rw (e, f)

-- ---- any first part of the bits
module _ (k L : ℕ) (label picture : List ℕ) (given : Given k L label picture) (r : ℕ) (halves : halvings_in L r ≡ true) where
  -- the thumbnail of the original, and the greys that the first b bits show of it
  abbrev pub original : List ℕ
  original = pictured (k - r) (low_greys_of k r picture)

  abbrev pub shows : ℕ → ℕ → ℕ
  shows b place = get_or (pictured (k - r) (thumbnail_of k L r (first k L label picture given b).numbers)) place 0

  abbrev pub unfinished : ℕ → ℕ
  unfinished b = (first k L label picture given b).unfinished

  -- No grey is off by more than (7 (L - r) + 1) (2 ^ p - 1).
  pub thumbnail_limit : (b place : ℕ) → place < 4 ^ (k - r)
      → (shows b place ≤ get_or original place 0 + (7 * (L - r) + 1) * (2 ^ unfinished b - 1)) × (get_or original place 0 ≤ shows b place + (7 * (L - r) + 1) * (2 ^ unfinished b - 1))
  thumbnail_limit b place h =
      let less : L ≤ k = omega (arith, levels_less k L given.levels) in
      let near = thumbnail_near (2 ^ unfinished b - 1) r L k (true_numbers k L label picture given) (first k L label picture given b).numbers less (truth_given k L label picture given).square (decoded_length k L _ _) (λ z g. truthful_off _ _ _ (numbers_truthful k L label picture given b z)) place h in
      let back : get_or (pictured (k - r) (thumbnail_of k L r (true_numbers k L label picture given))) place 0 ≡ get_or original place 0 = ap (λ (g : List ℤ). get_or (pictured (k - r) g) place 0) (thumbnail_whole r L k picture (halvings_few L r halves) less) in
      (omega (arith, near.1, back), omega (arith, near.0, back))

  -- Nor by more than the number that a person is told, which stops at 255.
  pub thumbnail_limit_told : (b place : ℕ) → place < 4 ^ (k - r)
      → (shows b place ≤ get_or original place 0 + grey_limit (L - r) (unfinished b)) × (get_or original place 0 ≤ shows b place + grey_limit (L - r) (unfinished b))
  thumbnail_limit_told b place h = off_told (L - r) (unfinished b) _ _ (pictured_most (k - r) _ place h) (pictured_most (k - r) (low_greys_of k r picture) place h) (thumbnail_limit b place h)

  -- ---- any record of it, cut anywhere that still opens
  module _ (o : Origin) (from : Known o) (limit : ℕ) (numbers : List ℤ) (numbers_fit : length numbers ≡ 4 ^ k) (bytes room : List ℕ) (room_fits : block_bytes * blocks_for o.edition (length (written_of k L (true_numbers k L label picture given) limit bytes)) ≤ length room)
      (payload : List ℕ) (lent : List ℤ) (lent_fits : length lent ≡ 4 ^ k) (shown : List ℕ) (shown-fits : length shown ≡ 4 ^ (k - r)) (greys : List ℤ) (greys-fit : length greys ≡ 4 ^ (k - r)) where
    -- the bits in the record; what is seen of its first m bytes, and the bits that are left in them
    abbrev pub recorded : List Bool
    recorded = written_of k L (true_numbers k L label picture given) limit bytes

    abbrev pub seen : ℕ → Seen
    seen m = thumbnail_out_of_record r label (take m (into_record k L o label picture limit numbers bytes room).room) payload lent shown greys

    abbrev pub left : ℕ → ℕ
    left m = bits_in o.edition recorded (m / block_bytes)

    module _ (m : ℕ) (opens : Opens o.edition recorded payload m) where
      seen_is : seen m ≡ seen_as o k L (way.n k L label picture given) recorded payload (m / block_bytes) (first k L label picture given (left m)) (rebuilt_as (k - r) (thumbnail_of k L r (first k L label picture given (left m)).numbers))
      seen_is = thumbnail_out_is k L label picture given o from limit numbers numbers_fit bytes room room_fits m payload opens lent lent_fits r halves shown shown-fits greys greys-fit

      -- It opens, and says where it was shot, with as many planes unfinished as the picture has.
      pub thumbnail_opens : ((seen m).read.refusal ≡ 0) × ((seen m).decoded.refusal ≡ 0) × ((seen m).rebuilt.refusal ≡ 0) × (origin_seen (seen m) ≡ given_back o)
      thumbnail_opens = (ap (λ (s : Seen). s.read.refusal) seen_is, ap (λ (s : Seen). s.decoded.refusal) seen_is, ap (λ (s : Seen). s.rebuilt.refusal) seen_is, ap origin_seen seen_is)

      pub cut_unfinished : (seen m).decoded.unfinished ≡ unfinished (left m)
      cut_unfinished = ap (λ (s : Seen). s.decoded.unfinished) seen_is

      cut_picture : (seen m).rebuilt.picture ≡ pictured (k - r) (thumbnail_of k L r (first k L label picture given (left m)).numbers)
      cut_picture = ap (λ (s : Seen). s.rebuilt.picture) seen_is

      pub cut_thumbnail_limit : (place : ℕ) → place < 4 ^ (k - r)
          → (get_or (seen m).rebuilt.picture place 0 ≤ get_or original place 0 + (7 * (L - r) + 1) * (2 ^ (seen m).decoded.unfinished - 1))
          × (get_or original place 0 ≤ get_or (seen m).rebuilt.picture place 0 + (7 * (L - r) + 1) * (2 ^ (seen m).decoded.unfinished - 1))
      cut_thumbnail_limit place h = rw (cut_unfinished, cut_picture) (thumbnail_limit (left m) place h)

      pub cut_thumbnail_limit_told : (place : ℕ) → place < 4 ^ (k - r)
          → (get_or (seen m).rebuilt.picture place 0 ≤ get_or original place 0 + grey_limit (L - r) (seen m).decoded.unfinished)
          × (get_or original place 0 ≤ get_or (seen m).rebuilt.picture place 0 + grey_limit (L - r) (seen m).decoded.unfinished)
      cut_thumbnail_limit_told place h = rw (cut_unfinished, cut_picture) (thumbnail_limit_told (left m) place h)
