-- The writing job, refused and done.
use mathlib.Core.Path.{◌≡◌, sym, ap, ◌∙◌}
use mathlib.Core.Bool.{◌&&◌}
use mathlib.Core.List.{List, ◌++◌}
use Prim.Native.Nat.{ℕ, ◌*◌, ◌<◌, ◌≤◌}
use native.Mathlib.Omega.{arith}
use lib.Dec.{leb}
use lib.ListN.{length, take, drop}
use Rattle.std.specs.Prelude.{Result, Err}
use Rattle.refusals.specs.declared.Refusal.{Refusal}
use Rattle.refusals.specs.Numbers.{number_of, refusal_of}
use Rattle.refusals.proofs.Numbers.{numbered}
use Rattle.paper.specs.Sizes.{planes_in, most_bits, unless, judged}
use Rattle.paper.specs.Lists.{joined, over}
use Rattle.paper.specs.Bits.{bits}
use Rattle.paper.specs.Block.{is_label, Origin, edition_in, origin_in, block_bytes, start_of, payload_bits, numbered_blocks, named}
use Rattle.paper.specs.Record.{blocks_for, block_of, record_of}
use Rattle.paper.specs.Jobs.{sizes_refusal, writing_refusal, writing_job}
use Rattle.sizes.proofs.Refusals.{refused_is}
use Rattle.block.proofs.Editions.{start_most}
use Rattle.record_laws.specs.Counts.{blocks_few}
use Rattle.record_laws.specs.Written.{same_blocks}
use Rattle.record_laws.specs.ReadBack.{length_record}
use Rattle.record_laws.specs.BothJobs.{Accepted, most_bits_lem, bits_given, record_writable, room_written}
use Rattle.record.specs.Answers.{writing_answer}

module _ (k L n : ℕ) (o : Origin) (label bytes : List ℕ) (b : ℕ) (room : List ℕ) where
  -- the rows, as they are judged from the lengths alone
  pub write_rows : {r : ℕ} → r ≡ sizes_refusal k L (unless 5 (planes_in n) (unless 9 (edition_in o.edition) (unless 6 (leb b (8 * length bytes) && leb b (most_bits k n) && leb (block_bytes * blocks_for o.edition b) (length room)) (unless 7 (is_label label) (unless 9 (origin_in o) 0)))))
      → writing_refusal k L n o label bytes b room ≡ r
  unfolding writing_refusal
  write_rows e = sym e

  pub write_refused : (r : ℕ) → writing_refusal k L n o label bytes b room ≡ r → 0 < r → writing_job k L n o label bytes b room ≡ record { refusal = r; blocks = 0; room = room }
  unfolding writing_job
  write_refused r e h = ap (λ q. judged q (λ r. record { refusal = r; blocks = 0; room = room }) (record { refusal = 0; blocks = blocks_for o.edition b; room = over (record_of o k L n label (take b (bits bytes))) room })) e ∙ refused_is r _ _ h

  -- a refusal by the rows is the job's answer, with the room as it was
  pub write_unwritten : {A : Type 0} {answer : Result A Refusal} {refusal : Refusal} → answer ≡ Err refusal
      → refusal_of answer ≡ sizes_refusal k L (unless 5 (planes_in n) (unless 9 (edition_in o.edition) (unless 6 (leb b (8 * length bytes) && leb b (most_bits k n) && leb (block_bytes * blocks_for o.edition b) (length room)) (unless 7 (is_label label) (unless 9 (origin_in o) 0)))))
      → writing_job k L n o label bytes b room ≡ writing_answer (Err refusal) room
  write_unwritten {A} {answer} {refusal} is e = write_refused (number_of refusal) (write_rows (sym (ap refusal_of is) ∙ e)) (numbered refusal)

  module _ (passed : writing_refusal k L n o label bytes b room ≡ 0) where
    -- by the blocks of any origin that says the same
    pub write_done : (p : Origin) (blocks : ℕ) (exit : List ℕ) → p.edition ≡ o.edition → named p ≡ named o → blocks ≡ blocks_for o.edition b
        → exit ≡ joined blocks (block_of p k L n label (take b (bits bytes))) ++ drop (block_bytes * blocks) room
        → writing_job k L n o label bytes b room ≡ record { refusal = 0; blocks = blocks; room = exit }
    unfolding record_of
    write_done p blocks exit edition says e f =
        let l = take b (bits bytes) in
        let block = block_of o k L n label l in
        let given : length l ≡ b = bits_given k L n o label bytes b room passed in
        let count = blocks_for o.edition (length l) in
        let all : length (joined count block) ≡ block_bytes * count = length_record o k L n label l (record_writable k L n o label bytes b room passed) in
        let laid : over (joined count block) room ≡ exit =
        ap (λ a. joined count block ++ drop a room) all
        ∙ ap (λ j. joined j block ++ drop (block_bytes * j) room) (ap (blocks_for o.edition) given ∙ sym e)
        ∙ sym (f ∙ ap (λ block. joined blocks block ++ drop (block_bytes * blocks) room) (same_blocks p o edition says k L n label l)) in
        room_written k L n o label bytes b room passed ∙ (λ t. record { refusal = 0; blocks = sym e t; room = laid t })

-- the blocks of an accepted call can be counted
pub bits_numbered : {k L n b : ℕ} {o : Origin} {label bytes room : List ℕ} → Accepted k L n o label bytes b room → b ≤ payload_bits (start_of o.edition) * numbered_blocks
bits_numbered {k} {L} {n} {b} {o} a = omega (arith, a.bound, most_bits_lem o.edition k n a.size a.planes)

pub blocks_numbered : (e b : ℕ) → b ≤ payload_bits (start_of e) * numbered_blocks → blocks_for e b ≤ numbered_blocks
blocks_numbered e b h = blocks_few (payload_bits (start_of e)) b (omega (arith, start_most e)) numbered_blocks (omega arith) h
