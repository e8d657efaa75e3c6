-- A record of which one block is so damaged that the check catches it: it is not kept, and where the run comes to it, it ends the run as 8
-- (proofs/Damaged.antt).
use Rattle.std.specs.Prelude.{◌≡◌, true, List, ◌++◌, ℕ, suc, ◌+◌, ◌*◌, ◌<◌, ◌≤◌, length, take, drop, set}
use Rattle.std.proofs.Common.{sym, ap, ◌∙◌, arith, length-drop, take-append-drop, length-take-le, drop-drop}
use Rattle.std.proofs.lemmas.List.{take-append-le, drop-append-le, set-append_left, take-set-le, drop-set-add}
use Rattle.paper.specs.Lists.{Bytes}
use Rattle.paper.specs.Block.{block_bytes, start_of, edition_of}
use Rattle.paper.specs.Record.{whole_blocks, block_at, said, turn_refusal, refusal_at, is_full, start_in, run_of}
use Rattle.list_laws.specs.Parts.{part_of_front}
use Rattle.block.proofs.Blocks.{length_of_passed, checks_of_passed}
use Rattle.check_laws.specs.Damage.{Passes, Caught, changed}
use Rattle.record_laws.specs.Kept.{run_longest}
use Rattle.record_laws.specs.Turn.{edition_of_0, block_bytes_lem, block_kept}
use Rattle.record_laws.specs.Ended.{whole_block}

-- ---- the words
-- block i of a record, replaced
abbrev pub with_block : ℕ → List ℕ → List ℕ → List ℕ
with_block i block s = take (block_bytes * i) s ++ (block ++ drop (block_bytes * suc i) s)

-- the run comes to block i: each before it can be kept in its turn, and is full
pub record Reached (s label : List ℕ) (i : ℕ) : Type 0 where
  pub passes : (j : ℕ) → j < i → refusal_at s label j ≡ 0
  pub full : (j : ℕ) → j < i → is_full (start_in s) (block_at s j) ≡ true

-- a block that was kept: the run came to it, and it passes
module _ (s label : List ℕ) (i : ℕ) where
  pub kept_reached : i < (run_of s label).kept → Reached s label i
  kept_reached h =
      let g = run_longest (start_in s) (refusal_at s label) s (whole_blocks s) 0 in
      record { passes = λ j k. g.passes j (omega arith) (omega arith); full = λ j k. g.full j (omega arith) (omega arith) }

  pub kept_passes : Bytes s → i < (run_of s label).kept → Passes (block_at s i)
  kept_passes bytes h =
      let own = (block_kept s label i ((run_longest (start_in s) (refusal_at s label) s (whole_blocks s) 0).passes i (omega arith) h)).passes in
      record { long = length_of_passed (block_at s i) own; bytes = block_bytes_lem s bytes i; right = checks_of_passed (block_at s i) own }

-- ---- the record with that block
module _ (s : List ℕ) (i : ℕ) (h : i < whole_blocks s) where
  -- what stands before it
  pub front_long : length (take (block_bytes * i) s) ≡ block_bytes * i
  front_long = length-take-le (block_bytes * i) s (omega arith)

  pub front_same : (j : ℕ) → j < i → block_at (take (block_bytes * i) s) j ≡ block_at s j
  front_same j k = part_of_front (block_bytes * j) block_bytes (block_bytes * i) s (omega arith)

  module _ (block : List ℕ) (long : length block ≡ block_bytes) where
    pub blocks_before : (j : ℕ) → j < i → block_at (with_block i block s) j ≡ block_at s j
    blocks_before j k =
        let front = take (block_bytes * i) s in
        let enough : block_bytes ≤ length (drop (block_bytes * j) front) = omega (arith, length-drop (block_bytes * j) front, front_long) in
        ap (take block_bytes) (drop-append-le (block_bytes * j) front _ (omega (arith, front_long)))
        ∙ take-append-le block_bytes (drop (block_bytes * j) front) _ enough
        ∙ front_same j k

  -- byte j of block i is byte 512 i + j of the record
  pub changed_in_place : (j v : ℕ) → j < block_bytes → with_block i (changed j v (block_at s i)) s ≡ changed (block_bytes * i + j) v s
  changed_in_place j v k =
      let new = set s (block_bytes * i + j) v in
      let behind : drop block_bytes (drop (block_bytes * i) s) ≡ drop (block_bytes * suc i) s = drop-drop block_bytes (block_bytes * i) s ∙ ap (λ n. drop n s) (let e : block_bytes * i + block_bytes ≡ block_bytes * suc i = omega arith in e) in
      let parted : drop (block_bytes * i) s ≡ block_at s i ++ drop (block_bytes * suc i) s = sym (take-append-drop block_bytes (drop (block_bytes * i) s)) ∙ ap (λ tail. block_at s i ++ tail) behind in
      let tail : drop (block_bytes * i) new ≡ set (block_at s i) j v ++ drop (block_bytes * suc i) s =
      drop-set-add (block_bytes * i) s j v ∙ ap (λ l. set l j v) parted ∙ set-append_left (block_at s i) _ j v (omega (arith, whole_block s i h)) in
      sym (λ z. take-set-le (block_bytes * i) s (block_bytes * i + j) v (omega arith) z ++ tail z) ∙ take-append-drop (block_bytes * i) new

-- ---- the run
-- where the first i blocks are the same, so are their refusals
pub same_turn : (s t label : List ℕ) (i : ℕ) → ((j : ℕ) → j < i → block_at t j ≡ block_at s j) → (j : ℕ) → j < i → refusal_at t label j ≡ refusal_at s label j
same_turn s t label i same j h = λ z. turn_refusal (said (same 0 (omega arith) z)) label j (same j h z)

-- and so is the place where the payload starts
pub same_start : (s t : List ℕ) (i : ℕ) → ((j : ℕ) → j < i → block_at t j ≡ block_at s j) → 0 < i → start_in t ≡ start_in s
same_start s t i same some = ap start_of (sym (edition_of_0 t) ∙ ap edition_of (same 0 some) ∙ edition_of_0 s)

module _ (s : List ℕ) (i : ℕ) (h : i < whole_blocks s) (block : List ℕ) (caught : Caught block) (label : List ℕ) where
  abbrev new : List ℕ
  new = with_block i block s

  pub as_before : (j : ℕ) → j < i → refusal_at new label j ≡ refusal_at s label j
  as_before = same_turn s new label i (blocks_before s i h block caught.long)
