-- Demand 3. Of a picture coded by the walk keep any first part of its bits, in a stream or in the blocks of a cut record: the
-- wavelet numbers keep three promises, those before the place where the cut fell with p - 1, more bits never move a number away
-- from the truth, and after L levels no grey in the rebuilt picture is off by more than (7 L + 1) times 2 ^ p - 1, p the unfinished
-- planes.
use mathlib.Core.Path.{◌≡◌, ap}
use mathlib.Core.List.{List}
use Prim.Native.Nat.{ℕ, zero, suc, ◌+◌, ◌*◌, ◌-◌, ◌/◌, ◌^◌, ◌<◌, ◌≤◌}
use native.Mathlib.Nat.{mul-le-mul_left}
use native.Mathlib.Omega.{arith}
use lib.IntN.{ℤ, pos, negsuc, nat_abs, ◌-ℤ◌}
use lib.ListN.{length, take, get_or}
use Rattle.paper.specs.Sizes.{grey_limit}
use Rattle.paper.specs.Lists.{at}
use Rattle.paper.specs.Places.{z_of}
use Rattle.paper.specs.Square.{grey, greys_of, pictured}
use Rattle.paper.specs.Walk.{Settled}
use Rattle.paper.specs.Block.{block_bytes, Origin, given_back, start_of, payload_bits}
use Rattle.paper.specs.Record.{blocks_for}
use Rattle.paper.specs.Jobs.{written_of}
use Rattle.sizes.proofs.Ranges.{levels_less}
use Rattle.list_laws.specs.Made.{get_d_made}
use Rattle.integer_laws.specs.Difference.{pos-⊖, negsuc-⊖}
use Rattle.lift.specs.Off.{Over, Off}
use Rattle.lift.proofs.Near.{overs}
use Rattle.square_laws.specs.Picture.{lossless}
use Rattle.square_laws.proofs.Picture.{picture_near}
use Rattle.walk_laws.specs.Decoded.{Truthful, decoded_first}
use Rattle.walk_laws.proofs.Decoded.{decoded_truthful, decoded_truthful_before, decoded_never_worse}
use Rattle.walk_laws.specs.Place.{NeverBack}
use Rattle.walk_laws.proofs.Place.{first_never_back}
use Rattle.walk_laws.specs.Read.{decoded_length}
use Rattle.record_laws.specs.ReadBack.{bits_in}
use Rattle.label.specs.Journey.{into_record, Seen, origin_seen, out_of_record}
use Rattle.label.proofs.Way.{Known}
use Rattle.label.proofs.Journeys as way
use Rattle.label.proofs.Journeys.{Given, truth_given, rebuilt_as, seen_as, Opens, out_is}

-- ---- a number that keeps the three promises is off by at most 2 ^ p - 1
both_off : {B : ℕ} {x y : ℤ} → Over B x y × Over B y x → Off B x y
both_off h = record { up = h.0; down = h.1 }

off_above : (B a c : ℕ) → a ≤ c + B → c ≤ a + B → Over B (pos a) (pos c) × Over B (pos c) (pos a)
off_above B a c = rw (pos-⊖ a, pos-⊖ c) (omega overs)

off_below : (B a c : ℕ) → a ≤ c + B → c ≤ a + B → Over B (negsuc a) (negsuc c) × Over B (negsuc c) (negsuc a)
off_below B a c = rw (negsuc-⊖ a, negsuc-⊖ c) (omega overs)

off_none : (B a : ℕ) → suc a ≤ B → Over B (negsuc a) (pos 0) × Over B (pos 0) (negsuc a)
off_none B a = rw (negsuc-⊖ a, pos-⊖ 0) (omega overs)

pub truthful_off : (p : ℕ) (x z : ℤ) → Truthful p x z → Off (2 ^ p - 1) x z
truthful_off p (pos a) (pos c) t = both_off (off_above (2 ^ p - 1) a c (omega (arith, t.not_short)) (omega (arith, t.not_above)))
truthful_off p (pos a) (negsuc c) t = absurd (let z : ◌≡◌ {A = ℕ} 0 1 = cc (t.right_sign (λ (e : negsuc c ≡ pos 0). let z : ◌≡◌ {A = ℕ} 0 1 = cc in omega arith)) in omega arith)
truthful_off p (negsuc a) (pos zero) t = both_off (off_none (2 ^ p - 1) a (omega (arith, t.not_short)))
truthful_off p (negsuc a) (pos (suc c)) t = absurd (let z : ◌≡◌ {A = ℕ} 0 1 = cc (t.right_sign (λ (e : pos (suc c) ≡ pos 0). let z : suc c ≡ 0 = ap nat_abs e in omega arith)) in omega arith)
truthful_off p (negsuc a) (negsuc c) t = both_off (off_below (2 ^ p - 1) a c (omega (arith, t.not_short)) (omega (arith, t.not_above)))

-- ---- a grey is 255 at most
grey_most : (z : ℤ) → grey z ≤ 255
unfolding grey
grey_most (pos g) = omega arith
grey_most (negsuc g) = omega arith

pub pictured_most : (k : ℕ) (greys : List ℤ) (place : ℕ) → place < 4 ^ k → get_or (pictured k greys) place 0 ≤ 255
unfolding pictured
pictured_most k greys place h = rw (get_d_made (4 ^ k) (λ place. grey (at greys (z_of k place))) place 0 h) (grey_most (at greys (z_of k place)))

-- so what a person is told may stop at 255
pub off_told : (L p seen meant : ℕ) → seen ≤ 255 → meant ≤ 255 → (seen ≤ meant + (7 * L + 1) * (2 ^ p - 1)) × (meant ≤ seen + (7 * L + 1) * (2 ^ p - 1)) → (seen ≤ meant + grey_limit L p) × (meant ≤ seen + grey_limit L p)
unfolding grey_limit
off_told L p seen meant a b off = (omega (arith, off.0), omega (arith, off.1))

-- ---- any first part of the bits
module _ (k L : ℕ) (label picture : List ℕ) (given : Given k L label picture) where
  -- the true wavelet numbers, and what the first b bits of their coding settle
  abbrev pub true_numbers : List ℤ
  true_numbers = way.truth k L label picture given

  abbrev pub first : ℕ → Settled
  first b = decoded_first k L true_numbers b

  -- the greys that the first b bits show
  abbrev pub shows : ℕ → ℕ → ℕ
  shows b place = get_or (pictured k (greys_of k L (first b).numbers)) place 0

  abbrev N : length true_numbers ≡ 4 ^ k
  N = (truth_given k L label picture given).square

  -- No magnitude is above the true one, none short by more than 2 ^ p - 1, and none that isn't zero has the wrong sign.
  pub numbers_truthful : (b i : ℕ) → Truthful (first b).unfinished (at true_numbers i) (at (first b).numbers i)
  numbers_truthful = decoded_truthful k L true_numbers (levels_less k L given.levels) N (truth_given k L label picture given).small

  -- Those before the place where the cut fell keep the three promises with p - 1.
  pub numbers_truthful_before : (b i : ℕ) → i < (first b).place → Truthful ((first b).unfinished - 1) (at true_numbers i) (at (first b).numbers i)
  numbers_truthful_before = decoded_truthful_before k L true_numbers (levels_less k L given.levels) N (truth_given k L label picture given).small

  -- Keeping more bits never moves p and the place back.
  pub never_back : (b c : ℕ) → b ≤ c → NeverBack (first b).unfinished (first b).place (first c).unfinished (first c).place
  never_back b c = first_never_back k L (way.n k L label picture given) (levels_less k L given.levels) (way.code k L label picture given) b c

  -- Keeping more bits never moves a number away from the truth.
  pub never_away : (b c i : ℕ) → b ≤ c → nat_abs (at true_numbers i -ℤ at (first c).numbers i) ≤ nat_abs (at true_numbers i -ℤ at (first b).numbers i)
  never_away = decoded_never_worse k L true_numbers (levels_less k L given.levels) N (truth_given k L label picture given).small

  -- The greys of any numbers that are off by at most 2 ^ p - 1, by the law of lines.
  pub near_greys : (p : ℕ) (ys : List ℤ) → length ys ≡ 4 ^ k → ((z : ℕ) → Off (2 ^ p - 1) (at true_numbers z) (at ys z))
      → (place : ℕ) → place < 4 ^ k → let seen = get_or (pictured k (greys_of k L ys)) place 0 in
      (seen ≤ get_or picture place 0 + (7 * L + 1) * (2 ^ p - 1)) × (get_or picture place 0 ≤ seen + (7 * L + 1) * (2 ^ p - 1))
  near_greys p ys e near place h =
      let less : L ≤ k = omega (arith, levels_less k L given.levels) in
      let off = picture_near (2 ^ p - 1) L k true_numbers ys less N e (λ z g. near z) place h in
      let back : get_or (pictured k (greys_of k L true_numbers)) place 0 ≡ get_or picture place 0 = ap (λ (g : List ℕ). get_or g place 0) (lossless L k picture less given.square given.greys) in
      (omega (arith, off.1, back), omega (arith, off.0, back))

  -- No grey is off by more than (7 L + 1) (2 ^ p - 1).
  pub grey_limit_lem : (b place : ℕ) → place < 4 ^ k
      → (shows b place ≤ get_or picture place 0 + (7 * L + 1) * (2 ^ (first b).unfinished - 1)) × (get_or picture place 0 ≤ shows b place + (7 * L + 1) * (2 ^ (first b).unfinished - 1))
  grey_limit_lem b = near_greys (first b).unfinished (first b).numbers (decoded_length k L _ _) (λ z. truthful_off _ _ _ (numbers_truthful b z))

  -- Nor by more than the number that a person is told, which stops at 255.
  pub grey_limit_told : (b place : ℕ) → place < 4 ^ k
      → (shows b place ≤ get_or picture place 0 + grey_limit L (first b).unfinished) × (get_or picture place 0 ≤ shows b place + grey_limit L (first b).unfinished)
  grey_limit_told b place h = off_told L (first b).unfinished _ _ (pictured_most k (greys_of k L (first b).numbers) place h) (omega (arith, given.greys place)) (grey_limit_lem b place h)

  -- ---- any record of it, cut anywhere that still opens
  module _ (o : Origin) (from : Known o) (limit : ℕ) (numbers : List ℤ) (numbers_fit : length numbers ≡ 4 ^ k) (bytes room : List ℕ) (room_fits : block_bytes * blocks_for o.edition (length (written_of k L true_numbers limit bytes)) ≤ length room)
      (payload : List ℕ) (lent : List ℤ) (lent_fits : length lent ≡ 4 ^ k) (shown : List ℕ) (shown-fits : length shown ≡ 4 ^ k) (greys : List ℤ) (greys-fit : length greys ≡ 4 ^ k) where
    -- what is seen of the record's first m bytes, and the bits that are left in them
    abbrev pub seen : ℕ → Seen
    seen m = out_of_record label (take m (into_record k L o label picture limit numbers bytes room).room) payload lent shown greys

    abbrev pub left : ℕ → ℕ
    left m = bits_in o.edition (written_of k L true_numbers limit bytes) (m / block_bytes)

    -- a cut that still opens
    abbrev pub Open : ℕ → Type 0
    Open m = Opens o.edition (written_of k L true_numbers limit bytes) payload m

    module _ (m : ℕ) (opens : Open m) where
      seen_is : seen m ≡ seen_as o k L (way.n k L label picture given) (written_of k L true_numbers limit bytes) payload (m / block_bytes) (first (left m)) (rebuilt_as k (greys_of k L (first (left m)).numbers))
      seen_is = out_is k L label picture given o from limit numbers numbers_fit bytes room room_fits m payload opens lent lent_fits shown shown-fits greys greys-fit

      -- It opens, and says where it was shot; what is decoded and shown is what its bits settle.
      pub cut_opens : ((seen m).read.refusal ≡ 0) × ((seen m).decoded.refusal ≡ 0) × ((seen m).rebuilt.refusal ≡ 0) × (origin_seen (seen m) ≡ given_back o)
      cut_opens = (ap (λ (s : Seen). s.read.refusal) seen_is, ap (λ (s : Seen). s.decoded.refusal) seen_is, ap (λ (s : Seen). s.rebuilt.refusal) seen_is, ap origin_seen seen_is)

      pub cut_unfinished : (seen m).decoded.unfinished ≡ (first (left m)).unfinished
      cut_unfinished = ap (λ (s : Seen). s.decoded.unfinished) seen_is

      pub cut_numbers : (seen m).decoded.numbers ≡ (first (left m)).numbers
      cut_numbers = ap (λ (s : Seen). s.decoded.numbers) seen_is

      cut_picture : (seen m).rebuilt.picture ≡ pictured k (greys_of k L (first (left m)).numbers)
      cut_picture = ap (λ (s : Seen). s.rebuilt.picture) seen_is

      pub cut_truthful : (i : ℕ) → Truthful (seen m).decoded.unfinished (at true_numbers i) (at (seen m).decoded.numbers i)
      cut_truthful i = rw (cut_unfinished, cut_numbers) (numbers_truthful (left m) i)

      pub cut_place : (seen m).decoded.place ≡ (first (left m)).place
      cut_place = ap (λ (s : Seen). s.decoded.place) seen_is

      pub cut_truthful_before : (i : ℕ) → i < (seen m).decoded.place → Truthful ((seen m).decoded.unfinished - 1) (at true_numbers i) (at (seen m).decoded.numbers i)
      cut_truthful_before i h = rw (cut_unfinished, cut_numbers) (numbers_truthful_before (left m) i (omega (arith, cut_place)))

      pub cut_grey_limit : (place : ℕ) → place < 4 ^ k
          → (get_or (seen m).rebuilt.picture place 0 ≤ get_or picture place 0 + (7 * L + 1) * (2 ^ (seen m).decoded.unfinished - 1))
          × (get_or picture place 0 ≤ get_or (seen m).rebuilt.picture place 0 + (7 * L + 1) * (2 ^ (seen m).decoded.unfinished - 1))
      cut_grey_limit place h = rw (cut_unfinished, cut_picture) (grey_limit_lem (left m) place h)

      pub cut_grey_limit_told : (place : ℕ) → place < 4 ^ k
          → (get_or (seen m).rebuilt.picture place 0 ≤ get_or picture place 0 + grey_limit L (seen m).decoded.unfinished)
          × (get_or picture place 0 ≤ get_or (seen m).rebuilt.picture place 0 + grey_limit L (seen m).decoded.unfinished)
      cut_grey_limit_told place h = rw (cut_unfinished, cut_picture) (grey_limit_told (left m) place h)

    left_more : (m l : ℕ) → m ≤ l → left m ≤ left l
    left_more m l h = omega (arith, mul-le-mul_left {m = m / block_bytes} {n = l / block_bytes} (payload_bits (start_of o.edition)) (omega arith))

    -- A longer part of the record never moves a number away from the truth, nor p and the place back.
    pub cut_never_away : (m l : ℕ) → Open m → Open l → m ≤ l → (i : ℕ)
        → nat_abs (at true_numbers i -ℤ at (seen l).decoded.numbers i) ≤ nat_abs (at true_numbers i -ℤ at (seen m).decoded.numbers i)
    cut_never_away m l p q h i = rw (cut_numbers m p, cut_numbers l q) (never_away (left m) (left l) i (left_more m l h))

    pub cut_never_back : (m l : ℕ) → Open m → Open l → m ≤ l → NeverBack (seen m).decoded.unfinished (seen m).decoded.place (seen l).decoded.unfinished (seen l).decoded.place
    cut_never_back m l p q h = rw (cut_unfinished m p, cut_place m p, cut_unfinished l q, cut_place l q) (never_back (left m) (left l) (left_more m l h))
