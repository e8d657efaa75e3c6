-- The writing job and the reading job together: what one wrote, the other gives back (proofs/BothJobs.antt).
use Rattle.std.specs.Prelude.{◌≡◌, true, ◌&&◌, List, ℕ, ◌*◌, ◌≤◌, take}
use Rattle.std.proofs.Common.{sym, ◌∙◌, arith, length-take-le}
use Rattle.std.proofs.Math.Dec.{leb}
use Rattle.std.proofs.Math.ListN.{length}
use borrow.Author.Tests.{leb-true}
use Rattle.sizes.proofs.Ranges.{both_first, both_second, size_high, planes_few, most_bits_grow}
use Rattle.sizes.proofs.Refusals.{row_passed, rows_left, size_accepted, levels_accepted, sizes_left, done_is}
use Rattle.bits.proofs.OneBit.{bits_length}
use Rattle.paper.specs.Sizes.{most_size, most_planes, size_in, levels_in, planes_in, most_bits, unless, judged}
use Rattle.paper.specs.Lists.{over}
use Rattle.paper.specs.Bits.{bits}
use Rattle.paper.specs.Block.{is_label, Origin, edition_in, origin_in, block_bytes, start_of, payload_bits, numbered_blocks}
use Rattle.paper.specs.Record.{blocks_for, record_of}
use Rattle.paper.specs.Jobs.{sizes_refusal, writing_refusal, writing_job}
use Rattle.block.proofs.Editions.{start_most, origin_ignored, named_none}
use Rattle.record_laws.specs.Written.{Writable, same_record}

-- the most bits of a coding are fewer than numbered blocks hold
pub most_bits_lem : (e k n : ℕ) → size_in k ≡ true → planes_in n ≡ true → most_bits k n ≤ payload_bits (start_of e) * numbered_blocks
unfolding most_bits
most_bits_lem e k n size planes = omega (arith, most_bits_grow k n most_size most_planes (size_high k size) (planes_few n planes), start_most e)

-- what an accepted call of the writing job is given
pub record Accepted (k L n : ℕ) (o : Origin) (label bytes : List ℕ) (b : ℕ) (room : List ℕ) : Type 0 where
  pub size : size_in k ≡ true
  pub levels : levels_in k L ≡ true
  pub planes : planes_in n ≡ true
  pub lent : b ≤ 8 * length bytes
  pub bound : b ≤ most_bits k n
  pub known : edition_in o.edition ≡ true
  pub fits : block_bytes * blocks_for o.edition b ≤ length room
  pub labelled : is_label label ≡ true
  pub origin : origin_in o ≡ true

module _ (k L n : ℕ) (o : Origin) (label bytes : List ℕ) (b : ℕ) (room : List ℕ) (passed : writing_refusal k L n o label bytes b room ≡ 0) where
  pub write_accepted : Accepted k L n o label bytes b room
  unfolding writing_refusal
  write_accepted =
      let bytes_hold = leb b (8 * length bytes) in
      let walk_has = leb b (most_bits k n) in
      let room_holds = leb (block_bytes * blocks_for o.edition b) (length room) in
      let five = sizes_left k L _ passed in
      let nine = rows_left 4 (planes_in n) _ five in
      let six = rows_left 8 (edition_in o.edition) _ nine in
      let seven = rows_left 5 (bytes_hold && walk_has && room_holds) _ six in
      let all = row_passed 5 (bytes_hold && walk_has && room_holds) _ six in
      let both = both_first (bytes_hold && walk_has) room_holds all in
      record {
        size = size_accepted k L _ passed;
        levels = levels_accepted k L _ passed;
        planes = row_passed 4 (planes_in n) _ five;
        lent = leb-true _ _ (both_first bytes_hold walk_has both);
        bound = leb-true _ _ (both_second bytes_hold walk_has both);
        fits = leb-true _ _ (both_second (bytes_hold && walk_has) room_holds all);
        known = row_passed 8 (edition_in o.edition) _ nine;
        labelled = row_passed 6 (is_label label) _ seven;
        origin = row_passed 8 (origin_in o) 0 (rows_left 6 (is_label label) _ seven);
      }

  pub bits_given : length (take b (bits bytes)) ≡ b
  bits_given = length-take-le b (bits bytes) (omega (arith, write_accepted.lent, bits_length bytes))

  pub record_writable : Writable o k L n label (take b (bits bytes))
  record_writable = record {
    known = write_accepted.known;
    origin = write_accepted.origin;
    size = write_accepted.size;
    levels = write_accepted.levels;
    planes = write_accepted.planes;
    labelled = write_accepted.labelled;
    few = omega (arith, bits_given, write_accepted.bound, most_bits_lem o.edition k n write_accepted.size write_accepted.planes);
  }

  -- the record stands at the front of the room
  pub room_written : writing_job k L n o label bytes b room ≡ record { refusal = 0; blocks = blocks_for o.edition b; room = over (record_of o k L n label (take b (bits bytes))) room }
  unfolding writing_job
  room_written = done_is _ _ _ passed

-- In edition 1 arm and mount are ignored, whatever they are: refused or not, the job is the same.
pub first_edition_ignores : (o p : Origin) → o.edition ≡ 1 → p.edition ≡ 1 → (k L n : ℕ) (label bytes : List ℕ) (b : ℕ) (room : List ℕ) → writing_job k L n o label bytes b room ≡ writing_job k L n p label bytes b room
unfolding writing_job writing_refusal
first_edition_ignores o p f g k L n label bytes b room =
    let e = f ∙ sym g in
    let asked = origin_ignored o f ∙ sym (origin_ignored p g) in
    let written = same_record o p e (named_none o f ∙ sym (named_none p g)) k L n label (take b (bits bytes)) in
    λ t. judged
    (sizes_refusal k L
    (unless 5 (planes_in n)
    (unless 9 (edition_in (e t))
    (unless 6 (leb b (8 * length bytes) && leb b (most_bits k n) && leb (block_bytes * blocks_for (e t) b) (length room))
    (unless 7 (is_label label)
    (unless 9 (asked t) 0))))))
    (λ r. record { refusal = r; blocks = 0; room = room })
    (record { refusal = 0; blocks = blocks_for (e t) b; room = over (written t) room })
