-- A record of which one block is so damaged that the check catches it: it is not kept, and where the run comes to it, it ends the run as 8.
use Rattle.std.specs.Prelude.{◌≡◌, List, ◌≢◌, ℕ, suc, ◌*◌, ◌<◌, ◌≤◌, length, take, drop}
use Rattle.std.proofs.Common.{ap, ◌∙◌, arith, length-append, length-take, length-drop, take_at, drop_at}
use Rattle.paper.specs.Block.{block_bytes, byte_at, block_refusal}
use Rattle.paper.specs.Record.{whole_blocks, block_at, said, in_turn, turn_refusal, refusal_at, is_full, start_in, run_of}
use Rattle.check_laws.specs.Damage.{Passes, Caught, changed, exchanged}
use Rattle.check_laws.proofs.Caught.{one_byte_changed, two_bytes_changed, two_bytes_exchanged}
use Rattle.record_laws.specs.Kept.{fails_not_kept, fails_ends}
use Rattle.record_laws.specs.Turn.{own_number}
use Rattle.record_laws.specs.Damaged.{with_block, Reached, front_long, blocks_before, same_start, as_before}

-- ---- the record with that block
module _ (s : List ℕ) (i : ℕ) (h : i < whole_blocks s) where
  module _ (block : List ℕ) (long : length block ≡ block_bytes) where
    pub new_length : length (with_block i block s) ≡ length s
    new_length = length-append (take (block_bytes * i) s) _ ∙ omega (arith, length-append block (drop (block_bytes * suc i) s), length-drop (block_bytes * suc i) s, front_long s i h, long)

    block_there : block_at (with_block i block s) i ≡ block
    block_there = ap (take block_bytes) (drop_at (take (block_bytes * i) s) _ (block_bytes * i) (front_long s i h)) ∙ take_at block _ block_bytes long

-- ---- the run
module _ (s : List ℕ) (i : ℕ) (h : i < whole_blocks s) (block : List ℕ) (caught : Caught block) (label : List ℕ) where
  abbrev new : List ℕ
  new = with_block i block s

  pub refused_there : refusal_at new label i ≡ 8
  unfolding turn_refusal
  refused_there = own_number (block_refusal (block_at new i)) 7 (in_turn (said (block_at new 0)) label i (block_at new i)) (ap block_refusal (block_there s i h block caught.long) ∙ caught.refused)

  -- whatever the other blocks are, it is not kept
  pub not_kept : (run_of new label).kept ≤ i
  not_kept = fails_not_kept (start_in new) (refusal_at new label) new (whole_blocks new) i 7 refused_there

  -- where the run comes to it, it ends the run as 8
  pub ends_as_8 : Reached s label i → run_of new label ≡ record { kept = i; ended = 8 }
  ends_as_8 r =
      let before = blocks_before s i h block caught.long in
      fails_ends (start_in new) (refusal_at new label) new (whole_blocks new) i 7 (omega (arith, new_length s i h block caught.long)) refused_there
      (λ j k. as_before s i h block caught label j k ∙ r.passes j k)
      (λ j k. (λ z. is_full (same_start s new i before (omega arith) z) (before j k z)) ∙ r.full j k)

-- ---- what the check catches, in block i of a record
module _ (s label : List ℕ) (i : ℕ) (passes : Passes (block_at s i)) (reached : Reached s label i) where
  within : i < whole_blocks s
  within = omega (arith, passes.long, length-take block_bytes (drop (block_bytes * i) s), length-drop (block_bytes * i) s)

  ends : (block : List ℕ) → Caught block → run_of (with_block i block s) label ≡ record { kept = i; ended = 8 }
  ends block caught = ends_as_8 s i within block caught label reached

  pub run_one_byte_changed : (j v : ℕ) → j < block_bytes → v < 256 → v ≢ byte_at (block_at s i) j → run_of (with_block i (changed j v (block_at s i)) s) label ≡ record { kept = i; ended = 8 }
  run_one_byte_changed j v h small other = ends _ (one_byte_changed (block_at s i) passes j v h small other)

  pub run_two_bytes_changed : (j m v w : ℕ) → j < block_bytes → m < block_bytes → v < 256 → w < 256 → changed m w (changed j v (block_at s i)) ≢ block_at s i
      → run_of (with_block i (changed m w (changed j v (block_at s i))) s) label ≡ record { kept = i; ended = 8 }
  run_two_bytes_changed j m v w h k small-v small-w other = ends _ (two_bytes_changed (block_at s i) passes j m v w h k small-v small-w other)

  pub run_two_bytes_exchanged : (j m : ℕ) → j < block_bytes → m < block_bytes → byte_at (block_at s i) j ≢ byte_at (block_at s i) m
      → run_of (with_block i (exchanged j m (block_at s i)) s) label ≡ record { kept = i; ended = 8 }
  run_two_bytes_exchanged j m h k unequal = ends _ (two_bytes_exchanged (block_at s i) passes j m h k unequal)
