-- What was written is read back: whole, and cut to any first part with at least one whole block.
-- Here its blocks; its bits, and what the reading job gives, are in proofs/ReadBack.antt.
use Rattle.std.specs.Prelude.{◌≡◌, Bool, true, List, [], ◌∷◌, ◌++◌, length, drop, get_or}
use Rattle.std.proofs.Math.Path.{refl, ap}
use Rattle.std.proofs.Common.{sym, ◌∙◌, append-nil, arith, length-take, get_or-take, length-take-le}
use Prim.Native.Nat.{ℕ, suc, ◌*◌, ◌/◌, ◌<◌, ◌≤◌, min}
use Rattle.std.proofs.Math.ListN.{take}
use borrow.Author.Tests.{eq-eqb}
use Rattle.paper.specs.Lists.{parts, over}
use Rattle.paper.specs.Bits.{bits, packed}
use Rattle.paper.specs.Block.{Origin, given_back, byte_at, block_bytes, start_of, payload_bits, numbered_blocks, named, count_of, named_of}
use Rattle.paper.specs.Record.{blocks_of, blocks_for, block_of, record_of, whole_blocks, block_at, in_turn, turn_refusal, refusal_at, is_full, run_from, bits_kept, payload_kept}
use Rattle.paper.specs.Jobs.{Read}
use Rattle.block.proofs.Editions.{start_most}
use Rattle.block.proofs.Blocks.{same_bytes_refl}
use Rattle.list_laws.specs.Joined.{length_joined, part_joined}
use Rattle.record_laws.specs.Kept.{whole_kept}
use Rattle.list_laws.specs.Parts.{part_of_front}
use Rattle.record_laws.specs.Packing.{bits_back}
use Rattle.record_laws.specs.Counts.{blocks_hold, blocks_numbered, bits_full}
use Rattle.record_laws.specs.Turn.{named_of_0}
use Rattle.record_laws.specs.Written.{Writable, length_block, front_of_block, named_of_block, said_of_block, label_of_block, count_of_block, number_of_block, block_passes}

-- the whole blocks of the first m bytes of a record
abbrev pub blocks_within : ℕ → List Bool → ℕ → ℕ
blocks_within start l m = min (m / block_bytes) (blocks_of start (length l))

-- the bits that the first j blocks of a record hold
abbrev pub bits_within : ℕ → List Bool → ℕ → ℕ
bits_within start l j = min (length l) (payload_bits start * j)

abbrev pub bits_in : ℕ → List Bool → ℕ → ℕ
bits_in e l j = bits_within (start_of e) l j

-- all blocks hold all bits
pub every_bit_within : (start : ℕ) (l : List Bool) → 0 < payload_bits start → bits_within start l (blocks_of start (length l)) ≡ length l
every_bit_within start l some = omega (arith, blocks_hold (payload_bits start) (length l) some)

pub every_bit : (e : ℕ) (l : List Bool) → bits_in e l (blocks_for e (length l)) ≡ length l
every_bit e l = every_bit_within (start_of e) l (omega (arith, start_most e))

-- the bits of what was read are the first of those that were written
pub bits_read_first : (b : ℕ) (l : List Bool) → b ≤ length l → take b (bits (packed (parts b 8) (take b l))) ≡ take b l
bits_read_first b l h =
    let e : length (take b l) ≡ b = length-take-le b l h in
    ap (λ a. take a (bits (packed (parts b 8) (take b l)))) (sym e) ∙ bits_back (parts b 8) (take b l) (omega arith)

pub bits_read : (e : ℕ) (l : List Bool) (j : ℕ) → take (bits_in e l j) (bits (packed (parts (bits_in e l j) 8) (take (bits_in e l j) l))) ≡ take (bits_in e l j) l
bits_read e l j = bits_read_first (bits_in e l j) l (omega arith)

-- what is kept of the record of l where the whole blocks of s are its first j
pub record KeptBack (start : ℕ) (l : List Bool) (label s : List ℕ) (j : ℕ) : Type 0 where
  pub run : run_from start (refusal_at s label) s (whole_blocks s) 0 ≡ record { kept = j; ended = 0 }
  pub count : bits_kept start s j ≡ bits_within start l j
  pub payload : payload_kept start s j ≡ packed (parts (bits_within start l j) 8) (take (bits_within start l j) l)
  pub again : take (bits_within start l j) (bits (payload_kept start s j)) ≡ take (bits_within start l j) l

-- what the reading job gives of it; arm and mount are 0 in edition 1
abbrev pub read_back : Origin → ℕ → ℕ → ℕ → List Bool → List ℕ → ℕ → Read
read_back o k L n l room j = record {
  refusal = 0;
  k = k;
  L = L;
  n = n;
  blocks = j;
  bits = bits_in o.edition l j;
  ended = 0;
  edition = o.edition;
  arm = (given_back o).arm;
  mount = (given_back o).mount;
  room = over (packed (parts (bits_in o.edition l j) 8) (take (bits_in o.edition l j) l)) room;
}

module _ (o : Origin) (k L n : ℕ) (label : List ℕ) (l : List Bool) (w : Writable o k L n label l) where
  abbrev start : ℕ
  start = start_of o.edition

  abbrev block : ℕ → List ℕ
  block = block_of o k L n label l

  abbrev all : List ℕ
  all = record_of o k L n label l

  pub some_bits : 0 < payload_bits start
  some_bits = omega (arith, start_most o.edition)

  -- ---- the record's bytes
  even : (i : ℕ) → i < blocks_of start (length l) → length (block i) ≡ block_bytes
  even i h = length_block o k L n label l w i

  pub length_record : length all ≡ block_bytes * blocks_of start (length l)
  unfolding record_of
  length_record = length_joined block_bytes block (blocks_of start (length l)) even

  -- block i of a written record, whatever stands behind the record
  pub block_of_record : (tail : List ℕ) (i : ℕ) → i < blocks_of start (length l) → block_at (all ++ tail) i ≡ block i
  unfolding record_of
  block_of_record tail i h = part_joined block_bytes block (blocks_of start (length l)) even tail i h

  -- ---- bytes of which the whole blocks are the first j of the record
  module _ (s : List ℕ) (j : ℕ) (some : 0 < j) (most : j ≤ blocks_of start (length l)) (same : (i : ℕ) → i < j → block_at s i ≡ block i) where
    numbered : (i : ℕ) → i < j → i < numbered_blocks
    numbered i h = blocks_numbered (payload_bits start) (length l) some_bits numbered_blocks i (omega arith) w.few (omega arith)

    pub written_turn : (i : ℕ) → i < j → refusal_at s label i ≡ 0
    unfolding turn_refusal in_turn
    written_turn i h =
        rw (
          same i h,
          same 0 some,
          block_passes o k L n label l w i,
          number_of_block o k L n label l w i (numbered i h),
          eq-eqb i i refl,
          said_of_block o k L n label l w i,
          said_of_block o k L n label l w 0,
          same_bytes_refl ((o.edition ∷ k ∷ L ∷ n ∷ label) ++ named o),
          label_of_block o k L n label l w i,
          same_bytes_refl label,
        )

    pub written_full : (i : ℕ) → suc i < j → is_full start (block_at s i) ≡ true
    written_full i h = eq-eqb _ _ (ap count_of (same i (omega arith)) ∙ count_of_block o k L n label l w i ∙ bits_full (payload_bits start) (length l) some_bits i (omega arith))

    -- what block 0 says is what was asked for
    pub byte_is : (i : ℕ) → i < 12 → byte_at s i ≡ byte_at (o.edition ∷ k ∷ L ∷ n ∷ label) i
    byte_is i h = sym (get_or-take block_bytes s i 0 (omega arith)) ∙ sym (get_or-take 12 (take block_bytes s) i 0 h) ∙ ap (λ b. get_or b i 0) (ap (take 12) (same 0 some) ∙ front_of_block o k L n label l w 0)

    pub named_is : named_of s ≡ named o
    named_is = sym (named_of_0 s) ∙ ap named_of (same 0 some) ∙ named_of_block o k L n label l w 0

    pub written_run : whole_blocks s ≡ j → run_from start (refusal_at s label) s (whole_blocks s) 0 ≡ record { kept = j; ended = 0 }
    written_run e = whole_kept start (refusal_at s label) s j e written_turn written_full

  -- ---- any first part with at least one whole block, and the whole
  whole_blocks_lem : (m blocks : ℕ) → min m (block_bytes * blocks) / block_bytes ≡ min (m / block_bytes) blocks
  whole_blocks_lem m blocks = omega arith

  pub cut_is : (m : ℕ) → whole_blocks (take m all) ≡ blocks_within start l m
  cut_is m = ap (λ a. a / block_bytes) (length-take m all ∙ ap (min m) length_record) ∙ whole_blocks_lem m (blocks_of start (length l))

  pub cut_same : (m i : ℕ) → i < blocks_within start l m → block_at (take m all) i ≡ block i
  cut_same m i h =
      part_of_front (block_bytes * i) block_bytes m all (omega arith)
      ∙ ap (λ s. take block_bytes (drop (block_bytes * i) s)) (sym (append-nil all))
      ∙ block_of_record [] i (omega arith)

  pub whole_is : whole_blocks all ≡ blocks_of start (length l)
  whole_is = omega (arith, length_record)

  pub whole_same : (i : ℕ) → i < blocks_of start (length l) → block_at all i ≡ block i
  whole_same i h = ap (λ s. block_at s i) (sym (append-nil all)) ∙ block_of_record [] i h
