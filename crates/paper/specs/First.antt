-- The first edition's record, check and reader, as they were before there was a second edition: definitions that stay. A program of
-- that time, still at work in a vault, is unchanged.
use Rattle.std.specs.Prelude.{Bool, ◌&&◌, List, ◌++◌, ℕ, eqb, length, take}
use Rattle.paper.specs.Sizes.{unless, judged}
use Rattle.paper.specs.Lists.{joined, over}
use Rattle.paper.specs.Bits.{packed}
use Rattle.paper.specs.Block.{block_bytes, header_bytes, payload_bytes, header, sealed, byte_at, edition_of, label_of, number_of, same_bytes, checks_right, fields_right}
use Rattle.paper.specs.Record.{blocks_of, bits_of_block, whole_blocks, block_at, turn_row, Run, run_from, bits_kept, payload_kept}
use Rattle.paper.specs.Jobs.{lent_refusal}

-- the record of the bits l: edition 1, and the payload straight behind the header
unfoldable pub first_record_of : ℕ → ℕ → ℕ → List ℕ → List Bool → List ℕ
first_record_of k L n label l =
    joined (blocks_of header_bytes (length l))
    (λ i. sealed (header 1 k L n label i (length (bits_of_block header_bytes l i)) ++ packed (payload_bytes header_bytes) (bits_of_block header_bytes l i)))

-- the single-block check: the edition is 1, and the payload starts at byte 16
unfoldable pub first_refusal : List ℕ → ℕ
first_refusal block =
    unless 6 (eqb (length block) block_bytes)
    (unless 8 (checks_right block)
    (unless 9 (eqb (edition_of block) 1 && fields_right header_bytes block) 0))

-- a block in its turn i: numbered so, with bytes 0 to 11 as block 0's and the label expected
unfoldable pub first_in_turn : List ℕ → List ℕ → ℕ → List ℕ → Bool
first_in_turn first label i block = eqb (number_of block) i && same_bytes (take 12 block) (take 12 first) && same_bytes (label_of block) label

-- block i of s in its turn
abbrev pub first_refusal_at : List ℕ → List ℕ → ℕ → ℕ
first_refusal_at s label i = turn_row (first_refusal (block_at s i)) (first_in_turn (block_at s 0) label i (block_at s i))

abbrev pub first_run_of : List ℕ → List ℕ → Run
first_run_of s label = run_from header_bytes (first_refusal_at s label) s (whole_blocks s) 0

-- record reading
pub record FirstRead : Type 0 where
  pub refusal : ℕ
  pub k : ℕ
  pub L : ℕ
  pub n : ℕ
  pub blocks : ℕ
  pub bits : ℕ
  pub ended : ℕ
  pub room : List ℕ

abbrev pub first_read_run : List ℕ → List ℕ → Run → FirstRead
first_read_run s room run = record {
  refusal = 0;
  k = byte_at s 1;
  L = byte_at s 2;
  n = byte_at s 3;
  blocks = run.kept;
  bits = bits_kept header_bytes s run.kept;
  ended = run.ended;
  room = over (payload_kept header_bytes s run.kept) room;
}

abbrev pub first_refused : List ℕ → ℕ → FirstRead
first_refused room r = record { refusal = r; k = 0; L = 0; n = 0; blocks = 0; bits = 0; ended = 0; room = room }

unfoldable pub first_reading : List ℕ → List ℕ → List ℕ → FirstRead
first_reading s label room =
    judged (lent_refusal s label room (first_refusal_at s label 0))
    (first_refused room)
    (first_read_run s room (first_run_of s label))
