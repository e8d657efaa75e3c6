-- What a softer picture of a cut record is worth. Where u bits of a number are unread, the number shown lies within 2 ^ (u - 1) of
-- the truth if it isn't zero, and is the very number where u is 0; so the picture shown keeps the grey limit of demand 3, by the law
-- of lines that demand 3 rests on. The stored numbers are those that demand 3 speaks of. In a stream, or in the blocks of a cut record.
use mathlib.Core.Path.{◌≡◌, refl, ap, ◌∙◌}
use mathlib.Core.Bool.{Bool}
use mathlib.Core.List.{List}
use Prim.Native.Nat.{ℕ, ◌+◌, ◌*◌, ◌-◌, ◌/◌, ◌^◌, ◌<◌, ◌≤◌}
use native.Mathlib.Omega.{arith}
use lib.IntN.{ℤ, nat_abs}
use lib.ListN.{length, take, get_or}
use Rattle.paper.specs.Sizes.{grey_limit}
use Rattle.paper.specs.Lists.{at}
use Rattle.paper.specs.Square.{pictured}
use Rattle.paper.specs.Walk.{Settled, unread_at}
use Rattle.paper.specs.Softer.{softened, softer_of}
use Rattle.paper.specs.Block.{block_bytes, Origin, given_back}
use Rattle.paper.specs.Record.{blocks_for}
use Rattle.paper.specs.Jobs.{settled_job, written_of}
use Rattle.sizes.proofs.Ranges.{levels_less}
use Rattle.lift.proofs.Near.{off}
use Rattle.walk_laws.specs.Read.{decoded_length}
use Rattle.walk_laws.specs.Softer.{Softer, length_softened}
use Rattle.walk_laws.proofs.Softer.{decoded_softer, softer_in_planes, softer_off}
use Rattle.record_laws.specs.ReadBack.{bits_in}
use Rattle.label.specs.Journey.{into_record, Seen, origin_seen, out_of_record, softer_out_of_record}
use Rattle.label.proofs.Way.{Known}
use Rattle.label.proofs.Journeys as way
use Rattle.label.proofs.Journeys.{Given, truth_given, rebuilt_as, seen_as, Opens, softer_out_is}
use Rattle.label.proofs.Demand3.{true_numbers, first, pictured_most, near_greys, off_told}

-- The stored numbers don't change: what is read and decoded of any record is what is read and decoded for the plain picture.
pub stored_same : (label s payload : List ℕ) (numbers : List ℤ) (picture : List ℕ) (room : List ℤ) → let soft = softer_out_of_record label s payload numbers picture room in let plain = out_of_record label s payload numbers picture room in
    (soft.read ≡ plain.read) × (soft.decoded ≡ plain.decoded)
unfolding out_of_record softer_out_of_record
stored_same label s payload numbers picture room = (refl, refl)

-- ---- any first part of the bits
module _ (k L : ℕ) (label picture : List ℕ) (given : Given k L label picture) where
  -- the true numbers, what the first b bits settle, the numbers shown of that, and their greys
  abbrev T : List ℤ
  T = true_numbers k L label picture given

  abbrev S : ℕ → Settled
  S b = first k L label picture given b

  abbrev pub shown : ℕ → List ℤ
  shown b = softened (S b).unfinished (S b).place (S b).numbers

  abbrev pub shows : ℕ → ℕ → ℕ
  shows b place = get_or (pictured k (softer_of k L (S b).unfinished (S b).place (S b).numbers)) place 0

  -- Each number shown lies within 2 ^ (u - 1) of the truth, or is the very number where u is 0; zeros stay, and no sign is wrong.
  pub numbers_softer : (b i : ℕ) → Softer (unread_at (S b).unfinished (S b).place i) (at T i) (at (S b).numbers i) (at (shown b) i)
  numbers_softer = decoded_softer k L T (levels_less k L given.levels) (truth_given k L label picture given).square (truth_given k L label picture given).small

  -- It stays below 2 ^ n.
  pub numbers_softer_below : (b i : ℕ) → nat_abs (at (shown b) i) < 2 ^ way.n k L label picture given
  numbers_softer_below = softer_in_planes k L T (levels_less k L given.levels) (truth_given k L label picture given).square (truth_given k L label picture given).small

  -- No grey is off by more than (7 L + 1) (2 ^ p - 1).
  pub softer_limit : (b place : ℕ) → place < 4 ^ k
      → (shows b place ≤ get_or picture place 0 + (7 * L + 1) * (2 ^ (S b).unfinished - 1)) × (get_or picture place 0 ≤ shows b place + (7 * L + 1) * (2 ^ (S b).unfinished - 1))
  unfolding softer_of
  softer_limit b =
      near_greys k L label picture given (S b).unfinished (shown b) (length_softened _ _ _ ∙ decoded_length k L _ _)
      (λ z. off _ _ (record { size = softer_off k L T (levels_less k L given.levels) (truth_given k L label picture given).square (truth_given k L label picture given).small b z }))

  -- Nor by more than the number that a person is told, which stops at 255.
  pub softer_limit_told : (b place : ℕ) → place < 4 ^ k
      → (shows b place ≤ get_or picture place 0 + grey_limit L (S b).unfinished) × (get_or picture place 0 ≤ shows b place + grey_limit L (S b).unfinished)
  softer_limit_told b place h = off_told L (S b).unfinished _ _ (pictured_most k _ place h) (omega (arith, given.greys place)) (softer_limit b place h)

  -- ---- any record of it, cut anywhere that still opens
  module _ (o : Origin) (from : Known o) (limit : ℕ) (numbers : List ℤ) (numbers_fit : length numbers ≡ 4 ^ k) (bytes room : List ℕ) (room_fits : block_bytes * blocks_for o.edition (length (written_of k L T limit bytes)) ≤ length room)
      (payload : List ℕ) (lent : List ℤ) (lent_fits : length lent ≡ 4 ^ k) (screen : List ℕ) (screen-fits : length screen ≡ 4 ^ k) (greys : List ℤ) (greys-fit : length greys ≡ 4 ^ k) where
    -- the bits in the record; what is seen of its first m bytes, and the bits that are left in them
    abbrev pub recorded : List Bool
    recorded = written_of k L T limit bytes

    abbrev pub seen : ℕ → Seen
    seen m = softer_out_of_record label (take m (into_record k L o label picture limit numbers bytes room).room) payload lent screen greys

    abbrev pub left : ℕ → ℕ
    left m = bits_in o.edition recorded (m / block_bytes)

    module _ (m : ℕ) (opens : Opens o.edition recorded payload m) where
      seen_is : seen m ≡ seen_as o k L (way.n k L label picture given) recorded payload (m / block_bytes) (S (left m)) (rebuilt_as k (softer_of k L (S (left m)).unfinished (S (left m)).place (S (left m)).numbers))
      seen_is = softer_out_is k L label picture given o from limit numbers numbers_fit bytes room room_fits m payload opens lent lent_fits screen screen-fits greys greys-fit

      -- It opens, and says where it was shot; what is decoded is what demand 3 speaks of.
      pub softer_opens : ((seen m).read.refusal ≡ 0) × ((seen m).decoded.refusal ≡ 0) × ((seen m).rebuilt.refusal ≡ 0) × (origin_seen (seen m) ≡ given_back o)
      softer_opens = (ap (λ (s : Seen). s.read.refusal) seen_is, ap (λ (s : Seen). s.decoded.refusal) seen_is, ap (λ (s : Seen). s.rebuilt.refusal) seen_is, ap origin_seen seen_is)

      pub cut_settled : (seen m).decoded ≡ settled_job (S (left m))
      cut_settled = ap (λ (s : Seen). s.decoded) seen_is

      -- the picture seen is that of the numbers shown
      pub cut_softer_picture : (seen m).rebuilt.picture ≡ pictured k (softer_of k L (S (left m)).unfinished (S (left m)).place (S (left m)).numbers)
      cut_softer_picture = ap (λ (s : Seen). s.rebuilt.picture) seen_is

      pub cut_numbers_softer : (i : ℕ) → let d = (seen m).decoded in
          Softer (unread_at d.unfinished d.place i) (at T i) (at d.numbers i) (at (softened d.unfinished d.place d.numbers) i)
      cut_numbers_softer i = rw cut_settled (numbers_softer (left m) i)

      pub cut_softer_limit : (place : ℕ) → place < 4 ^ k
          → (get_or (seen m).rebuilt.picture place 0 ≤ get_or picture place 0 + (7 * L + 1) * (2 ^ (seen m).decoded.unfinished - 1))
          × (get_or picture place 0 ≤ get_or (seen m).rebuilt.picture place 0 + (7 * L + 1) * (2 ^ (seen m).decoded.unfinished - 1))
      cut_softer_limit place h = rw (cut_settled, cut_softer_picture) (softer_limit (left m) place h)

      pub cut_softer_limit_told : (place : ℕ) → place < 4 ^ k
          → (get_or (seen m).rebuilt.picture place 0 ≤ get_or picture place 0 + grey_limit L (seen m).decoded.unfinished)
          × (get_or picture place 0 ≤ get_or (seen m).rebuilt.picture place 0 + grey_limit L (seen m).decoded.unfinished)
      cut_softer_limit_told place h = rw (cut_settled, cut_softer_picture) (softer_limit_told (left m) place h)
