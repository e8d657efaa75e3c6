-- A record is blocks, one behind the other: how its bits become blocks, and which of them a reader keeps. What depends on
-- the payload's size is said over the payload's start.
use Rattle.std.specs.Prelude.{Bool, true, false, ◌&&◌, List, ◌++◌, ℕ, zero, suc, ◌+◌, ◌*◌, ◌/◌, max, eqb, length, take, drop}
use Rattle.paper.specs.Sizes.{unless}
use Rattle.paper.specs.Lists.{joined, parts}
use Rattle.paper.specs.Bits.{packed}
use Rattle.paper.specs.Block.{Origin, block_bytes, start_of, payload_bytes, payload_bits, header, named, sealed, edition_of, label_of, number_of, count_of, named_of, payload_of, same_bytes, block_refusal}

-- ---- writing
-- a record of b bits has max(1, ceil(b / payload bits)) blocks; the payload has 3,936 bits in edition 1, 3,904 in edition 2
abbrev pub blocks_of : ℕ → ℕ → ℕ
blocks_of start b = max 1 (parts b (payload_bits start))

abbrev pub blocks_for : ℕ → ℕ → ℕ
blocks_for e b = blocks_of (start_of e) b

-- the bits that block i holds: all blocks are full but possibly the last
abbrev pub bits_of_block : ℕ → List Bool → ℕ → List Bool
bits_of_block start l i = take (payload_bits start) (drop (payload_bits start * i) l)

-- header, arm and mount, payload and checks
unfoldable pub made_block : Origin → ℕ → ℕ → ℕ → List ℕ → ℕ → ℕ → List ℕ → List ℕ
made_block o k L n label number count payload = sealed (header o.edition k L n label number count ++ (named o ++ payload))

-- block i of the record of the bits l
unfoldable pub block_of : Origin → ℕ → ℕ → ℕ → List ℕ → List Bool → ℕ → List ℕ
block_of o k L n label l i =
    let start = start_of o.edition in
    made_block o k L n label i (length (bits_of_block start l i)) (packed (payload_bytes start) (bits_of_block start l i))

unfoldable pub record_of : Origin → ℕ → ℕ → ℕ → List ℕ → List Bool → List ℕ
record_of o k L n label l = joined (blocks_for o.edition (length l)) (block_of o k L n label l)

-- ---- reading
-- whole blocks from the front; a tail under 512 bytes is ignored
abbrev pub whole_blocks : List ℕ → ℕ
whole_blocks s = length s / block_bytes

abbrev pub block_at : List ℕ → ℕ → List ℕ
block_at s i = take block_bytes (drop (block_bytes * i) s)

-- what block 0 said, in which the blocks of a record agree: its bytes 0 to 11, and what names arm and mount
unfoldable pub said : List ℕ → List ℕ
said block = take 12 block ++ named_of block

-- a block in its turn i: numbered so, as block 0 said, and with the label expected
unfoldable pub in_turn : List ℕ → List ℕ → ℕ → List ℕ → Bool
in_turn first label i block = eqb (number_of block) i && same_bytes (said block) first && same_bytes (label_of block) label

-- why a block can't be kept in its turn: its own refusal (8 or 9; 6 if it is no block) before 10; 0 if it can
abbrev pub turn_row : ℕ → Bool → ℕ
turn_row own here = unless own (eqb own 0) (unless 10 here 0)

unfoldable pub turn_refusal : List ℕ → List ℕ → ℕ → List ℕ → ℕ
turn_refusal first label i block = turn_row (block_refusal block) (in_turn first label i block)

abbrev pub is_full : ℕ → List ℕ → Bool
is_full start block = eqb (count_of block) (payload_bits start)

-- block i of s in its turn
abbrev pub refusal_at : List ℕ → List ℕ → ℕ → ℕ
refusal_at s label i = turn_refusal (said (block_at s 0)) label i (block_at s i)

-- the blocks kept, and the number of the block that ended the run: 0 if none or if a short block ended it
pub record Run : Type 0 where
  pub kept : ℕ
  pub ended : ℕ

-- the longest run, from block i on, where `left` whole blocks are left and `refusal` judges each in its turn
unfoldable pub run_from : ℕ → (ℕ → ℕ) → List ℕ → ℕ → ℕ → Run
run_from start refusal s zero i = record { kept = i; ended = 0 }
run_from start refusal s (suc left) i = elim (refusal i) [
  | zero ↦ elim (is_full start (block_at s i)) [ true ↦ run_from start refusal s left (suc i) | false ↦ record { kept = suc i; ended = 0 } ]
  | suc r ↦ record { kept = i; ended = suc r }
]

-- the payload of all blocks kept starts where the edition of block 0 says
abbrev pub start_in : List ℕ → ℕ
start_in s = start_of (edition_of s)

abbrev pub run_of : List ℕ → List ℕ → Run
run_of s label = run_from (start_in s) (refusal_at s label) s (whole_blocks s) 0

-- the bits that `kept` blocks hold: all are full but possibly the last
unfoldable pub bits_kept : ℕ → List ℕ → ℕ → ℕ
bits_kept start s zero = 0
bits_kept start s (suc i) = payload_bits start * i + count_of (block_at s i)

-- the kept payload, in its used bytes
unfoldable pub payload_kept : ℕ → List ℕ → ℕ → List ℕ
payload_kept start s kept = take (parts (bits_kept start s kept) 8) (joined kept (λ i. payload_of start (block_at s i)))
