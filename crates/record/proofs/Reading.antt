-- The reading job, refused and done.
use mathlib.Core.Path.{◌≡◌, sym, ap, ◌∙◌}
use mathlib.Core.Bool.{Bool, ◌&&◌}
use mathlib.Core.List.{List}
use Prim.Native.Nat.{ℕ, ◌*◌, ◌/◌, ◌<◌, ◌≤◌}
use native.Mathlib.Omega.{arith}
use lib.Dec.{leb}
use lib.ListN.{length}
use borrow.Author.Tests.{leb-true}
use Rattle.std.specs.Prelude.{Result, Err}
use Rattle.refusals.specs.declared.Refusal.{Refusal}
use Rattle.refusals.specs.Numbers.{number_of, refusal_of}
use Rattle.refusals.proofs.Numbers.{numbered}
use Rattle.paper.specs.Sizes.{unless, judged}
use Rattle.paper.specs.Lists.{Bytes, over}
use Rattle.paper.specs.Block.{is_label, byte_at, block_bytes, payload_bits, numbered_blocks, edition_of, arm_of, mount_of}
use Rattle.paper.specs.Record.{whole_blocks, refusal_at, start_in, run_of, bits_kept, payload_kept}
use Rattle.paper.specs.Jobs.{room_bytes, lent_refusal, reading_refusal, read_refused, read_run, reading_job}
use Rattle.sizes.proofs.Ranges.{both_first, both_second}
use Rattle.sizes.proofs.Refusals.{row_passed, refused_is, done_is}
use Rattle.record_laws.specs.Turn.{kept_numbered, kept_within, bits_kept_most, block_0_passes, block_0_refused}
use Rattle.record.specs.Answers.{reading_answer}
use Rattle.record.proofs.RefusalRows.{rows_leave, rows_stand}

-- rows 6 and 7, as they are judged from the lengths
abbrev pub lent_rows : ℕ → List ℕ → ℕ → ℕ
lent_rows blocks label room = unless 6 (leb block_bytes blocks && leb (room_bytes * (blocks / block_bytes)) room) (unless 7 (is_label label) 0)

-- the kept blocks as the functions that read and copy them ask for
pub record Usable (s : List ℕ) (kept : ℕ) : Type 0 where
  pub few : kept ≤ numbered_blocks
  pub whole : kept ≤ whole_blocks s
  pub most : bits_kept (start_in s) s kept ≤ payload_bits (start_in s) * kept

module _ (s label room : List ℕ) where
  pub lent_judged : {r : ℕ} {fitting : Bool} → fitting ≡ (leb block_bytes (length s) && leb (room_bytes * (length s / block_bytes)) (length room)) → r ≡ unless 6 fitting (unless 7 (is_label label) 0)
      → r ≡ lent_rows (length s) label (length room)
  lent_judged f e = e ∙ ap (λ f. unless 6 f (unless 7 (is_label label) 0)) f

  pub lent_refused : {r : ℕ} → r ≡ lent_rows (length s) label (length room) → 0 < r → reading_refusal s label room ≡ r
  unfolding reading_refusal lent_refusal
  lent_refused {r} e h = rows_stand 5 6 (leb block_bytes (length s) && leb (room_bytes * whole_blocks s) (length room)) (is_label label) (refusal_at s label 0) (omega arith) ∙ sym e

  module _ (passed : lent_rows (length s) label (length room) ≡ 0) where
    pub lent_passed : reading_refusal s label room ≡ refusal_at s label 0
    unfolding reading_refusal lent_refusal
    lent_passed = rows_leave 5 6 (leb block_bytes (length s) && leb (room_bytes * whole_blocks s) (length room)) (is_label label) (refusal_at s label 0) passed

    pub lent_holds : (block_bytes ≤ length s) × (room_bytes * whole_blocks s ≤ length room)
    lent_holds =
        let both = row_passed 5 (leb block_bytes (length s) && leb (room_bytes * whole_blocks s) (length room)) (unless 7 (is_label label) 0) passed in
        (leb-true _ _ (both_first (leb block_bytes (length s)) (leb (room_bytes * whole_blocks s) (length room)) both), leb-true _ _ (both_second (leb block_bytes (length s)) (leb (room_bytes * whole_blocks s) (length room)) both))

  pub read_refused_lem : (r : ℕ) → reading_refusal s label room ≡ r → 0 < r → reading_job s label room ≡ read_refused room r
  unfolding reading_job
  read_refused_lem r e h = ap (λ q. judged q (read_refused room) (read_run (edition_of s) s room (run_of s label))) e ∙ refused_is r _ _ h

  -- a refusal by rows 6 and 7 is the job's answer, with the room as it was
  pub read_unread : {A : Type 0} {answer : Result A Refusal} {refusal : Refusal} {fitting : Bool} → answer ≡ Err refusal
      → fitting ≡ (leb block_bytes (length s) && leb (room_bytes * (length s / block_bytes)) (length room)) → refusal_of answer ≡ unless 6 fitting (unless 7 (is_label label) 0)
      → reading_job s label room ≡ reading_answer (Err refusal) room
  read_unread {A} {answer} {refusal} {fitting} is f e =
      let some = numbered refusal in
      read_refused_lem (number_of refusal) (lent_refused (lent_judged f (sym (ap refusal_of is) ∙ e)) some) some

-- the longest run, by its parts
module _ (s label : List ℕ) (kept ended : ℕ) (run : run_of s label ≡ record { kept = kept; ended = ended }) where
  kept_is : (run_of s label).kept ≡ kept
  kept_is = ap (λ r. r.kept) run

  pub kept_usable : Bytes s → Usable s kept
  kept_usable w = record { few = rw (← kept_is) (kept_numbered s label w); whole = rw (← kept_is) (kept_within s label); most = rw (← kept_is) (bits_kept_most s label) }

  -- nothing is kept: the run ended with block 0's number
  pub none_kept : block_bytes ≤ length s → kept ≡ 0 → (ended ≡ refusal_at s label 0) × (0 < ended)
  none_kept one z =
      let (first, fails) = block_0_refused s label (omega arith) (kept_is ∙ z) in
      let e : (run_of s label).ended ≡ ended = ap (λ r. r.ended) run in
      let f : ended ≡ 0 → ⊥ = λ g. fails (e ∙ g) in
      (sym (first ∙ e), omega arith)

  pub read_done : (room : List ℕ) → lent_rows (length s) label (length room) ≡ 0 → (bits : ℕ) (exit : List ℕ) → 0 < kept → bits ≡ bits_kept (start_in s) s kept → exit ≡ over (payload_kept (start_in s) s kept) room
      → reading_job s label room ≡ record { refusal = 0; k = byte_at s 1; L = byte_at s 2; n = byte_at s 3; blocks = kept; bits = bits; ended = ended; edition = edition_of s; arm = arm_of s; mount = mount_of s; room = exit }
  unfolding reading_job
  read_done room passed bits exit h b e =
      let some : 0 < (run_of s label).kept = omega (arith, kept_is) in
      done_is _ _ _ (lent_passed s label room passed ∙ block_0_passes s label some)
      ∙ ap (read_run (edition_of s) s room) run
      ∙ (λ t. record { refusal = 0; k = byte_at s 1; L = byte_at s 2; n = byte_at s 3; blocks = kept; bits = sym b t; ended = ended; edition = edition_of s; arm = arm_of s; mount = mount_of s; room = sym e t })
