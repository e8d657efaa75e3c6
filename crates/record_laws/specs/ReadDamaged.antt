-- What the reading job gives of a record of which one block is so damaged that the check catches it: of block 0 refusal 8, of another
-- all that the blocks before it hold, as of the record cut there, and 8 as the number that ended the run (proofs/ReadDamaged.antt).
use Rattle.std.specs.Prelude.{◌≡◌, true, List, length}
use Rattle.std.proofs.Common.{sym, ◌∙◌, arith, get_or-take}
use Rattle.std.proofs.Math.Path.{ap}
use Prim.Native.Nat.{ℕ, zero, suc, ◌+◌, ◌*◌, ◌<◌, ◌≤◌}
use Rattle.std.proofs.Math.ListN.{take}
use borrow.Author.Tests.{le-leb}
use Rattle.paper.specs.Lists.{parts, over}
use Rattle.paper.specs.Block.{is_label, byte_at, triple_at, block_bytes, payload_bits, edition_of, count_of, named_of, payload_of}
use Rattle.paper.specs.Record.{whole_blocks, block_at, refusal_at, is_full, start_in, run_of, bits_kept, payload_kept}
use Rattle.paper.specs.Jobs.{Read, room_bytes, lent_refusal, reading_refusal, read_run, read_refused, reading_job}
use Rattle.sizes.proofs.Refusals.{done_is}
use Rattle.list_laws.specs.Joined.{joined_same}
use Rattle.record_laws.specs.Kept.{whole_kept}
use Rattle.record_laws.specs.Turn.{named_of_0}
use Rattle.record_laws.specs.Damaged.{Reached, front_long, front_same, same_turn, same_start}

-- what is read of the first i blocks of s, and the number that ended the run
abbrev pub read_first : List ℕ → List ℕ → ℕ → ℕ → Read
read_first s room i ended = read_run (edition_of s) s room (record { kept = i; ended = ended })

-- ---- what is read of i blocks lies in these blocks
module _ (s t : List ℕ) (i : ℕ) (some : 0 < i) (same : (j : ℕ) → j < i → block_at t j ≡ block_at s j) where
  start_same : start_in t ≡ start_in s
  start_same = same_start s t i same some

  same_bits : bits_kept (start_in t) t i ≡ bits_kept (start_in s) s i
  unfolding bits_kept
  same_bits = go i some same
    where
      go : (i : ℕ) → 0 < i → ((j : ℕ) → j < i → block_at t j ≡ block_at s j) → bits_kept (start_in t) t i ≡ bits_kept (start_in s) s i
      go zero some same = absurd (omega arith)
      go (suc j) some same = λ z. payload_bits (start_same z) * j + count_of (same j (omega arith) z)

  same_payload : payload_kept (start_in t) t i ≡ payload_kept (start_in s) s i
  unfolding payload_kept
  same_payload = λ z. take (parts (same_bits z) 8) (joined_same (λ j. payload_of (start_in t) (block_at t j)) (λ j. payload_of (start_in s) (block_at s j)) i (λ j h. λ y. payload_of (start_same y) (same j h y)) z)

  same_byte : (j : ℕ) → j < block_bytes → byte_at t j ≡ byte_at s j
  same_byte j h = sym (get_or-take block_bytes t j 0 h) ∙ ap (λ b. byte_at b j) (same 0 some) ∙ get_or-take block_bytes s j 0 h

  same_named : named_of t ≡ named_of s
  same_named = sym (named_of_0 t) ∙ ap named_of (same 0 some) ∙ named_of_0 s

  pub same_read : (room : List ℕ) (ended : ℕ) → read_first t room i ended ≡ read_first s room i ended
  same_read room ended = λ z. record {
    refusal = 0;
    k = same_byte 1 (omega arith) z;
    L = same_byte 2 (omega arith) z;
    n = same_byte 3 (omega arith) z;
    blocks = i;
    bits = same_bits z;
    ended = ended;
    edition = same_byte 0 (omega arith) z;
    arm = byte_at (same_named z) 0;
    mount = triple_at (same_named z) 1;
    room = over (same_payload z) room;
  }

-- ---- the reading job comes to block i: it is not refused by 6 or 7, block i is whole, and the run comes to it
pub record Comes (s label room : List ℕ) (i : ℕ) : Type 0 where
  pub fits : room_bytes * whole_blocks s ≤ length room
  pub labelled : is_label label ≡ true
  pub within : i < whole_blocks s
  pub reached : Reached s label i

module _ (s label room : List ℕ) (i : ℕ) (comes : Comes s label room i) where
  -- bytes with a whole block, and no longer than s, are refused for block 0 or not at all
  pub by_block_0 : (t : List ℕ) → block_bytes ≤ length t → length t ≤ length s → reading_refusal t label room ≡ refusal_at t label 0
  unfolding reading_refusal lent_refusal
  by_block_0 t h k = rw (le-leb block_bytes (length t) h, le-leb (room_bytes * whole_blocks t) (length room) (omega (arith, comes.fits)), comes.labelled)

  -- ---- the record cut before block i
  module _ (some : 0 < i) where
    abbrev cut : List ℕ
    cut = take (block_bytes * i) s

    cut_long : length cut ≡ block_bytes * i
    cut_long = front_long s i comes.within

    cut_same : (j : ℕ) → j < i → block_at cut j ≡ block_at s j
    cut_same = front_same s i comes.within

    cut_turn : (j : ℕ) → j < i → refusal_at cut label j ≡ 0
    cut_turn j h = same_turn s cut label i cut_same j h ∙ comes.reached.passes j h

    cut_run : run_of cut label ≡ record { kept = i; ended = 0 }
    cut_run = whole_kept (start_in cut) (refusal_at cut label) cut i (omega (arith, cut_long)) cut_turn (λ j h. (λ z. is_full (same_start s cut i cut_same some z) (cut_same j (omega arith) z)) ∙ comes.reached.full j (omega arith))

    pub read_cut_there : reading_job cut label room ≡ read_first s room i 0
    unfolding reading_job
    read_cut_there =
        done_is (reading_refusal cut label room) (read_refused room) _ (by_block_0 cut (omega (arith, cut_long)) (omega (arith, cut_long, comes.within)) ∙ cut_turn 0 some)
        ∙ ap (read_run (edition_of cut) cut room) cut_run
        ∙ same_read s cut i some cut_same room 0
