-- The way of wavelet numbers into a record and back, through the jobs' definitions: whatever was lent, and wherever the
-- record is cut, what comes back is what the first bits of the coding settle.
use mathlib.Core.Path.{◌≡◌, refl, sym, ap, ◌∙◌}
use mathlib.Core.Bool.{Bool, true}
use mathlib.Core.List.{List, [], ◌∷◌}
use Prim.Native.Nat.{ℕ, suc, ◌*◌, ◌/◌, ◌^◌, ◌≤◌, min}
use native.Mathlib.Omega.{arith}
use lib.IntN.{ℤ}
use lib.ListN.{length, take, drop, length-take, length-append}
use lib.Seq.{take-take, take_all, take-append_seam}
use borrow.Author.Tests.{le-leb, eq-eqb}
use Rattle.paper.specs.Sizes.{size_in, levels_in, numbers_in, most_bits}
use Rattle.paper.specs.Lists.{over, parts}
use Rattle.paper.specs.Walk.{plane_count, code_of, decode_of}
use Rattle.paper.specs.Bits.{bits, packed, laid}
use Rattle.paper.specs.Block.{block_bytes, Origin, edition_in, origin_in, is_label}
use Rattle.paper.specs.Record.{blocks_for}
use Rattle.paper.specs.Jobs.{room_bytes, coding_refusal, written_of, coding_job, decoding_refusal, settled_job, decoding_job, writing_refusal, writing_job, reading_job}
use Rattle.sizes.proofs.Ranges.{levels_less}
use Rattle.sizes.proofs.Refusals.{sizes_passed, done_is}
use Rattle.sizes.proofs.Numbers.{count_in}
use Rattle.bits.proofs.Packing.{bits_take, bits_laid, packed_length}
use Rattle.record_laws.specs.ReadBack.{bits_in, bits_read, read_back}
use Rattle.record_laws.proofs.BothJobs.{read_written}
use Rattle.walk_laws.proofs.Bound.{coding_bound}

length_laid : (l : List Bool) (s : List ℕ) → length (laid l s) ≡ length s
unfolding laid
length_laid l [] = refl
length_laid [] (v ∷ s) = refl
length_laid (b ∷ l) (v ∷ s) = ap suc (length_laid (drop 7 l) s)

-- the first bits of a list of bytes are those of its front
bits_front : (b : ℕ) (front old : List ℕ) → b ≤ 8 * length front → take b (bits (over front old)) ≡ take b (bits front)
bits_front b front old h =
    sym (take-take b (8 * length front) (bits (over front old)) h)
    ∙ ap (take b) (bits_take (length front) (over front old) ∙ ap bits (take-append_seam front (drop (length front) old)))

-- numbers in range, and the room that the calls are lent
pub record Numbers (k L : ℕ) (numbers : List ℤ) : Type 0 where
  pub size : size_in k ≡ true
  pub levels : levels_in k L ≡ true
  pub square : length numbers ≡ 4 ^ k
  pub small : numbers_in numbers ≡ true

-- where it is made: an edition that there is, and arm and mount in range where it names them
pub record Known (o : Origin) : Type 0 where
  pub known : edition_in o.edition ≡ true
  pub origin : origin_in o ≡ true

-- ---- coding
module _ (k L : ℕ) (numbers : List ℤ) (given : Numbers k L numbers) (limit : ℕ) (bytes : List ℕ) where
  abbrev pub written : List Bool
  written = written_of k L numbers limit bytes

  pub coded : coding_job k L numbers limit bytes ≡ record { refusal = 0; written = length written; n = plane_count numbers; bytes = laid written bytes }
  unfolding coding_job coding_refusal
  coded = done_is _ _ _ (sizes_passed k L _ given.size given.levels ∙ rw (eq-eqb (length numbers) (4 ^ k) given.square, given.small))

  -- what is written is a first part of the coding
  pub written_first : (b : ℕ) → b ≤ length written → take b written ≡ take b (code_of k L numbers)
  unfolding written_of
  written_first b h = take-take b (min limit (8 * length bytes)) (code_of k L numbers) (omega (arith, length-take (min limit (8 * length bytes)) (code_of k L numbers)))

  -- and all of it where the limit and the bytes lent cut nothing
  pub written_all : length (code_of k L numbers) ≤ limit → length (code_of k L numbers) ≤ 8 * length bytes → written ≡ code_of k L numbers
  unfolding written_of
  written_all h g = take_all (min limit (8 * length bytes)) (code_of k L numbers) (omega arith)

  fits : length written ≤ 8 * length bytes
  unfolding written_of
  fits = omega (arith, length-take (min limit (8 * length bytes)) (code_of k L numbers))

  bounded : length written ≤ most_bits k (plane_count numbers)
  unfolding written_of
  bounded = omega (arith, length-take (min limit (8 * length bytes)) (code_of k L numbers), coding_bound k L numbers (levels_less k L given.levels) given.square)

  -- the bits come back from the bytes
  pub bits_written : take (length written) (bits (laid written bytes)) ≡ written
  bits_written = bits_laid bytes written fits

  -- ---- record writing
  module _ (o : Origin) (from : Known o) (label : List ℕ) (labelled : is_label label ≡ true) (room : List ℕ) (blocks-fit : block_bytes * blocks_for o.edition (length written) ≤ length room) where
    pub accepted : writing_refusal k L (plane_count numbers) o label (laid written bytes) (length written) room ≡ 0
    unfolding writing_refusal
    accepted = sizes_passed k L _ given.size given.levels ∙ rw (
      count_in numbers,
      from.known,
      le-leb (length written) (8 * length (laid written bytes)) (omega (arith, fits, length_laid written bytes)),
      le-leb (length written) (most_bits k (plane_count numbers)) bounded,
      le-leb (block_bytes * blocks_for o.edition (length written)) (length room) blocks-fit,
      labelled,
      from.origin,
    )

    -- the record, as the writing job leaves it in the room
    abbrev pub record_room : List ℕ
    record_room = (writing_job k L (plane_count numbers) o label (laid written bytes) (length written) room).room

    -- ---- reading a first part of it, of m bytes
    module _ (m : ℕ) (opens : block_bytes ≤ m) (within : m ≤ block_bytes * blocks_for o.edition (length written)) (payload : List ℕ) (payload_fits : room_bytes * (m / block_bytes) ≤ length payload) where
      -- the bits that come back
      abbrev pub kept : ℕ
      kept = bits_in o.edition written (m / block_bytes)

      pub read : reading_job (take m record_room) label payload ≡ read_back o k L (plane_count numbers) written payload (m / block_bytes)
      read =
          read_written k L (plane_count numbers) o label (laid written bytes) (length written) room accepted m payload opens within payload_fits
          ∙ ap (λ l. read_back o k L (plane_count numbers) l payload (m / block_bytes)) bits_written

      -- ---- decoding what was read
      abbrev pub kept_room : List ℕ
      kept_room = (read_back o k L (plane_count numbers) written payload (m / block_bytes)).room

      first_bits : take kept (bits kept_room) ≡ take kept (code_of k L numbers)
      first_bits =
          bits_front kept (packed (parts kept 8) (take kept written)) payload (omega (arith, packed_length (parts kept 8) (take kept written)))
          ∙ bits_read o.edition written (m / block_bytes)
          ∙ written_first kept (omega arith)

      pub decoded : (lent : List ℤ) → length lent ≡ 4 ^ k → decoding_job k L (plane_count numbers) lent kept_room kept ≡ settled_job (decode_of k L (plane_count numbers) (take kept (code_of k L numbers)))
      unfolding decoding_job decoding_refusal
      decoded lent e =
          let front = packed (parts kept 8) (take kept written) in
          let holds : kept ≤ 8 * length kept_room = omega (arith, packed_length (parts kept 8) (take kept written), length-append front (drop (length front) payload)) in
          done_is _ _ _ (sizes_passed k L _ given.size given.levels ∙ rw (eq-eqb (length lent) (4 ^ k) e, count_in numbers, le-leb kept (8 * length kept_room) holds))
          ∙ ap (λ l. settled_job (decode_of k L (plane_count numbers) l)) first_bits
