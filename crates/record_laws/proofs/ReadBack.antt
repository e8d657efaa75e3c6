-- What was written is read back: whole, and cut to any first part with at least one whole block.
use Rattle.std.specs.Prelude.{◌≡◌, Bool, List, length}
use Rattle.std.proofs.Math.Path.{ap}
use Rattle.std.proofs.Common.{sym, ◌∙◌, arith, take_all}
use Prim.Native.Nat.{ℕ, zero, suc, ◌+◌, ◌*◌, ◌<◌, ◌≤◌}
use Rattle.std.proofs.Math.Decide.{dec_le}
use Rattle.std.proofs.Math.ListN.{take}
use Rattle.std.proofs.Math.Seq.{take-length}
use borrow.Author.Tests.{le-leb}
use Rattle.paper.specs.Lists.{joined, parts, over}
use Rattle.paper.specs.Bits.{bits, packed}
use Rattle.paper.specs.Block.{Origin, given_back, byte_at, triple_at, block_bytes, start_of, payload_bytes, payload_bits, count_of, payload_of}
use Rattle.paper.specs.Record.{blocks_of, blocks_for, block_of, record_of, whole_blocks, block_at, refusal_at, run_from, bits_kept, payload_kept}
use Rattle.paper.specs.Jobs.{room_bytes, lent_refusal, read_run, read_refused, reading_refusal, reading_job}
use Rattle.sizes.proofs.Refusals.{done_is}
use Rattle.block.proofs.Editions.{arm_back, mount_back}
use Rattle.list_laws.specs.Joined.{joined_same}
use Rattle.record_laws.specs.Packing.{take_packed, packed_take, packed_joined}
use Rattle.record_laws.specs.Counts.{bits_more, bytes_few, bytes_filled}
use Rattle.record_laws.specs.Written.{Writable, count_of_block, payload_of_block}
use Rattle.record_laws.specs.ReadBack.{some_bits, blocks_within, bits_within, every_bit, bits_read_first, KeptBack, read_back, written_turn, byte_is, named_is, written_run, cut_is, cut_same, whole_is, whole_same}

module _ (o : Origin) (k L n : ℕ) (label : List ℕ) (l : List Bool) (w : Writable o k L n label l) where
  abbrev start : ℕ
  start = start_of o.edition

  abbrev block : ℕ → List ℕ
  block = block_of o k L n label l

  abbrev all : List ℕ
  all = record_of o k L n label l

  bits_are : (s : List ℕ) (j : ℕ) → 0 < j → j ≤ blocks_of start (length l) → ((i : ℕ) → i < j → block_at s i ≡ block i) → bits_kept start s j ≡ bits_within start l j
  unfolding bits_kept
  bits_are s zero some most same = absurd (omega arith)
  bits_are s (suc i) some most same = ap (λ c. payload_bits start * i + c) (ap count_of (same i (omega arith)) ∙ count_of_block o k L n label l w i) ∙ bits_more (payload_bits start) (length l) (some_bits o k L n label l w) i most

  -- ---- bytes of which the whole blocks are the first j of the record
  module _ (s : List ℕ) (j : ℕ) (some : 0 < j) (most : j ≤ blocks_of start (length l)) (same : (i : ℕ) → i < j → block_at s i ≡ block i) where
    pub written_bits : bits_kept start s j ≡ bits_within start l j
    written_bits = bits_are s j some most same

    abbrev used : ℕ
    used = parts (bits_within start l j) 8

    held : packed used l ≡ packed used (take (bits_within start l j) l)
    held = elim (dec_le (length l) (payload_bits start * j)) [
      | yes h ↦ ap (packed used) (sym (take_all (bits_within start l j) l (omega arith)))
      | no h ↦ sym (packed_take used (bits_within start l j) l (bytes_filled (payload_bytes start) (length l) j (omega arith)))
    ]

    pub written_payload : payload_kept start s j ≡ packed used (take (bits_within start l j) l)
    unfolding payload_kept
    written_payload =
        ap (λ b. take (parts b 8) (joined j (λ i. payload_of start (block_at s i)))) written_bits
        ∙ ap (take used) (joined_same _ _ j (λ i h. ap (payload_of start) (same i h) ∙ payload_of_block o k L n label l w i) ∙ packed_joined (payload_bytes start) j l)
        ∙ take_packed used (payload_bytes start * j) l (bytes_few (payload_bytes start) (length l) j)
        ∙ held

    pub written_kept : whole_blocks s ≡ j → KeptBack start l label s j
    written_kept e = record {
      run = written_run o k L n label l w s j some most same e;
      count = written_bits;
      payload = written_payload;
      again = ap (λ p. take (bits_within start l j) (bits p)) written_payload ∙ bits_read_first (bits_within start l j) l (omega arith);
    }

  -- ---- any first part with at least one whole block, and the whole
  pub kept_cut : (m : ℕ) → block_bytes ≤ m → KeptBack start l label (take m all) (blocks_within start l m)
  kept_cut m h = written_kept (take m all) (blocks_within start l m) (omega arith) (omega arith) (cut_same o k L n label l w m) (cut_is o k L n label l w m)

  pub kept_whole : KeptBack start l label all (blocks_of start (length l))
  kept_whole = written_kept all (blocks_of start (length l)) (omega arith) (omega arith) (whole_same o k L n label l w) (whole_is o k L n label l w)

-- ---- the reading job
module _ (o : Origin) (k L n : ℕ) (label : List ℕ) (l : List Bool) (w : Writable o k L n label l) where
  abbrev e : ℕ
  e = o.edition

  module _ (s : List ℕ) (j : ℕ) (some : 0 < j) (most : j ≤ blocks_for e (length l)) (same : (i : ℕ) → i < j → block_at s i ≡ block_of o k L n label l i) (room : List ℕ) (whole : whole_blocks s ≡ j) (fits : room_bytes * j ≤ length room) where
    not_refused : reading_refusal s label room ≡ 0
    unfolding reading_refusal lent_refusal
    not_refused = rw (le-leb block_bytes (length s) (omega arith), le-leb (room_bytes * whole_blocks s) (length room) (omega arith), w.labelled, written_turn o k L n label l w s j some most same 0 some)

    pub read_front : reading_job s label room ≡ read_back o k L n l room j
    unfolding reading_job
    read_front =
        let kept = written_kept o k L n label l w s j some most same whole in
        let byte = byte_is o k L n label l w s j some most same in
        let there = named_is o k L n label l w s j some most same in
        let arm_there = ap (λ b. byte_at b 0) there ∙ arm_back o in
        let mount_there = ap (λ b. triple_at b 1) there ∙ mount_back o w.origin in
        done_is (reading_refusal s label room) (read_refused room) _ not_refused
        -- it takes the payload to start where it was written
        ∙ ap (λ e'. read_run e' s room (run_from (start_of e') (refusal_at s label) s (whole_blocks s) 0)) (byte 0 (omega arith))
        ∙ ap (read_run e s room) kept.run
        ∙ (λ t. record {
          refusal = 0;
          k = byte 1 (omega arith) t;
          L = byte 2 (omega arith) t;
          n = byte 3 (omega arith) t;
          blocks = j;
          bits = kept.count t;
          ended = 0;
          edition = e;
          arm = arm_there t;
          mount = mount_there t;
          room = over (kept.payload t) room;
        })

  pub read_cut : (m : ℕ) (room : List ℕ) → block_bytes ≤ m → room_bytes * blocks_within (start_of e) l m ≤ length room → reading_job (take m (record_of o k L n label l)) label room ≡ read_back o k L n l room (blocks_within (start_of e) l m)
  read_cut m room h g = read_front (take m (record_of o k L n label l)) (blocks_within (start_of e) l m) (omega arith) (omega arith) (cut_same o k L n label l w m) room (cut_is o k L n label l w m) g

  -- whole: as many blocks, all bits, and nothing ended the run
  pub read_whole : (room : List ℕ) → room_bytes * blocks_for e (length l) ≤ length room → reading_job (record_of o k L n label l) label room ≡ record {
    refusal = 0;
    k = k;
    L = L;
    n = n;
    blocks = blocks_for e (length l);
    bits = length l;
    ended = 0;
    edition = e;
    arm = (given_back o).arm;
    mount = (given_back o).mount;
    room = over (packed (parts (length l) 8) l) room;
  }
  read_whole room h =
      read_front (record_of o k L n label l) (blocks_for e (length l)) (omega arith) (omega arith) (whole_same o k L n label l w) room (whole_is o k L n label l w) h
      ∙ (λ t. record {
        refusal = 0;
        k = k;
        L = L;
        n = n;
        blocks = blocks_for e (length l);
        bits = every_bit e l t;
        ended = 0;
        edition = e;
        arm = (given_back o).arm;
        mount = (given_back o).mount;
        room = over (packed (parts (every_bit e l t) 8) ((ap (λ b. take b l) (every_bit e l) ∙ take-length l) t)) room;
      })
