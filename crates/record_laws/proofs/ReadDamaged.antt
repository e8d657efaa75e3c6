-- What the reading job gives of a record of which one block is so damaged that the check catches it: of block 0 refusal 8, of another
-- all that the blocks before it hold, as of the record cut there, and 8 as the number that ended the run.
use Rattle.std.specs.Prelude.{◌≡◌, refl, ◌&&◌, List, leb, length}
use Rattle.std.proofs.Common.{sym, ◌∙◌, arith}
use Rattle.std.proofs.Math.Path.{ap}
use Prim.Native.Nat.{ℕ, zero, suc, ◌*◌, ◌<◌}
use borrow.Author.Tests.{leb-true}
use Rattle.paper.specs.Sizes.{judged}
use Rattle.paper.specs.Block.{is_label, block_bytes, edition_of}
use Rattle.paper.specs.Record.{whole_blocks, refusal_at, run_of}
use Rattle.paper.specs.Jobs.{room_bytes, lent_refusal, reading_refusal, read_run, read_refused, reading_job}
use Rattle.sizes.proofs.Ranges.{both_second}
use Rattle.sizes.proofs.Refusals.{row_passed, rows_left, done_is}
use Rattle.check_laws.specs.Damage.{Caught}
use Rattle.record_laws.specs.Turn.{kept_within}
use Rattle.record_laws.specs.Damaged.{with_block, kept_reached, blocks_before, as_before}
use Rattle.record_laws.proofs.Damaged.{new_length, refused_there, ends_as_8}
use Rattle.record_laws.specs.ReadDamaged.{read_first, same_read, Comes, by_block_0}

-- ---- the reading job comes to a block that it kept
pub kept_comes : (s label room : List ℕ) (i : ℕ) → i < (reading_job s label room).blocks → Comes s label room i
unfolding reading_job reading_refusal lent_refusal
kept_comes s label room i kept = go (reading_refusal s label room) refl kept
  where
    go : (r : ℕ) → reading_refusal s label room ≡ r → i < (judged r (read_refused room) (read_run (edition_of s) s room (run_of s label))).blocks → Comes s label room i
    go zero passed h =
        let long = leb block_bytes (length s) in
        let fits = leb (room_bytes * whole_blocks s) (length room) in
        record {
          fits = leb-true _ _ (both_second long fits (row_passed 5 (long && fits) _ passed));
          labelled = row_passed 6 (is_label label) _ (rows_left 5 (long && fits) _ passed);
          within = omega (arith, h, kept_within s label);
          reached = kept_reached s label i h;
        }
    go (suc r) passed h = absurd (omega arith)

module _ (s label room : List ℕ) (i : ℕ) (comes : Comes s label room i) where
  -- ---- block i damaged
  module _ (block : List ℕ) (caught : Caught block) where
    abbrev damaged : List ℕ
    damaged = with_block i block s

    by_first : reading_refusal damaged label room ≡ refusal_at damaged label 0
    by_first =
        let same : length damaged ≡ length s = new_length s i comes.within block caught.long in
        by_block_0 s label room i comes damaged (omega (arith, comes.within)) (omega arith)

    pub first_damaged : i ≡ 0 → reading_job damaged label room ≡ read_refused room 8
    unfolding reading_job
    first_damaged e =
        let eight = by_first ∙ ap (refusal_at damaged label) (sym e) ∙ refused_there s i comes.within block caught label in
        ap (λ r. judged r (read_refused room) (read_run (edition_of damaged) damaged room (run_of damaged label))) eight

    pub later_damaged : 0 < i → reading_job damaged label room ≡ read_first s room i 8
    unfolding reading_job
    later_damaged some =
        done_is (reading_refusal damaged label room) (read_refused room) _ (by_first ∙ as_before s i comes.within block caught label 0 some ∙ comes.reached.passes 0 some)
        ∙ ap (read_run (edition_of damaged) damaged room) (ends_as_8 s i comes.within block caught label comes.reached)
        ∙ same_read s damaged i some (blocks_before s i comes.within block caught.long) room 8
