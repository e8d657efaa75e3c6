-- What a block that can be kept is: of the edition, arm and mount of block 0, too; and why no run has more blocks than two bytes number.
use Rattle.std.specs.Prelude.{◌≡◌, Bool, ◌&&◌, List, [], ◌∷◌, eqb, length, take, drop}
use Rattle.std.proofs.Math.Path.{refl}
use Rattle.std.proofs.Common.{sym, ap, ◌∙◌, subst, length-take, length-drop, get_or-take, drop_at, length-take-le, eqb-true}
use Rattle.std.proofs.Math.Bool.{true, false}
use Prim.Native.Nat.{ℕ, zero, suc, ◌+◌, ◌*◌, ◌-◌, ◌<◌, ◌≤◌}
use Rattle.std.proofs.Math.Nat.{mul-suc}
use native.Mathlib.Omega.{arith}
use Rattle.std.proofs.Math.Dec.{eqb-suc-zero}
use Rattle.paper.specs.Sizes.{unless}
use Rattle.paper.specs.Lists.{Bytes}
use Rattle.paper.specs.Block.{block_bytes, header_bytes, start_of, payload_bits, numbered_blocks, same_bytes, byte_at, edition_of, label_of, number_of, count_of, named_of, arm_of, mount_of, pair_at, triple_at, block_refusal}
use Rattle.paper.specs.Record.{whole_blocks, block_at, said, in_turn, turn_row, turn_refusal, refusal_at, start_in, run_of, bits_kept}
use Rattle.sizes.proofs.Ranges.{both_first, both_second}
use Rattle.sizes.proofs.Refusals.{row_passed}
use Rattle.list_laws.specs.Parts.{part_of_front, part_bytes}
use Rattle.block.proofs.Editions.{start_most}
use Rattle.block.proofs.Blocks.{length_of_passed, fields_of_passed, same_bytes_equal}
use Rattle.record_laws.specs.Kept.{LastFull, run_longest}

-- a block that can be kept in its turn: it passes, its number is its turn, it is as block 0 said, and the label is the one expected
pub record Keepable (first label : List ℕ) (i : ℕ) (block : List ℕ) : Type 0 where
  pub passes : block_refusal block ≡ 0
  pub number : number_of block ≡ i
  pub front : said block ≡ first
  pub labelled : label_of block ≡ label

-- the block's own refusal comes first
pub own_row : (r later : ℕ) → unless r (eqb r 0) later ≡ 0 → (r ≡ 0) × (later ≡ 0)
own_row zero later h = (refl, h)
own_row (suc r) later h = let z : suc r ≡ 0 = rw eqb-suc-zero at h in absurd (omega arith)

-- and where it refuses, it is the number that is given
pub own_number : (own r : ℕ) (here : Bool) → own ≡ suc r → turn_row own here ≡ suc r
own_number own r here e = ap (λ r. turn_row r here) e ∙ ap (λ b. unless (suc r) b (unless 10 here 0)) (eqb-suc-zero r)

pub keepable : (first label : List ℕ) (i : ℕ) (block : List ℕ) → turn_refusal first label i block ≡ 0 → Keepable first label i block
unfolding turn_refusal in_turn
keepable first label i block h =
    let numbered = eqb (number_of block) i in
    let like = same_bytes (said block) first in
    let expected = same_bytes (label_of block) label in
    let (passes, later) = own_row (block_refusal block) (unless 10 (numbered && like && expected) 0) h in
    let all = row_passed 9 (numbered && like && expected) 0 later in
    let both = both_first (numbered && like) expected all in
    record {
      passes = passes;
      number = eqb-true _ _ (both_first numbered like both);
      front = same_bytes_equal _ _ (both_second numbered like both);
      labelled = same_bytes_equal _ _ (both_second (numbered && like) expected all);
    }

-- the edition is the first thing said
edition_said : (block : List ℕ) → byte_at (said block) 0 ≡ edition_of block
unfolding said named_of start_of
edition_said [] = refl
edition_said (v ∷ block) = refl

named_said : (block : List ℕ) → 12 ≤ length block → drop 12 (said block) ≡ named_of block
unfolding said
named_said block long = drop_at (take 12 block) (named_of block) 12 (length-take-le 12 block long)

pub edition_of_0 : (s : List ℕ) → edition_of (block_at s 0) ≡ edition_of s
edition_of_0 s = get_or-take block_bytes s 0 0 (omega arith)

pub named_of_0 : (s : List ℕ) → named_of (block_at s 0) ≡ named_of s
unfolding named_of
named_of_0 s =
    ap (λ e. take (start_of e - header_bytes) (drop header_bytes (block_at s 0))) (edition_of_0 s)
    ∙ part_of_front header_bytes (start_of (edition_of s) - header_bytes) block_bytes s (omega (arith, start_most (edition_of s)))

-- the bytes of a block are bytes
pub block_bytes_lem : (s : List ℕ) → Bytes s → (i : ℕ) → Bytes (block_at s i)
block_bytes_lem s w i = part_bytes block_bytes (block_bytes * i) s w

-- two bytes of a block hold no larger number, so no more blocks are numbered in their turn
pub pair_small : (s : List ℕ) → Bytes s → (i j : ℕ) → pair_at (block_at s i) j < numbered_blocks
pair_small s w i j = omega (arith, block_bytes_lem s w i j, block_bytes_lem s w i (j + 1))

module _ (s label : List ℕ) where
  pub block_kept : (i : ℕ) → refusal_at s label i ≡ 0 → Keepable (said (block_at s 0)) label i (block_at s i)
  block_kept i h = keepable (said (block_at s 0)) label i (block_at s i) h

  -- so all blocks kept are of one edition
  pub edition_kept : (i : ℕ) → refusal_at s label i ≡ 0 → edition_of (block_at s i) ≡ edition_of s
  edition_kept i h = sym (edition_said (block_at s i)) ∙ ap (λ b. byte_at b 0) (block_kept i h).front ∙ edition_said (block_at s 0) ∙ edition_of_0 s

  -- and of one arm and mount
  pub named_kept : (i : ℕ) → refusal_at s label i ≡ 0 → named_of (block_at s i) ≡ named_of s
  named_kept i h =
      let long = length_of_passed (block_at s i) (block_kept i h).passes in
      let there : block_bytes ≤ length s = omega (arith, long, length-take block_bytes (drop (block_bytes * i) s), length-drop (block_bytes * i) s) in
      sym (named_said (block_at s i) (omega arith)) ∙ ap (drop 12) (block_kept i h).front ∙ named_said (block_at s 0) (omega (arith, length-take-le block_bytes s there)) ∙ named_of_0 s

  pub origin_kept : (i : ℕ) → refusal_at s label i ≡ 0 → (arm_of (block_at s i) ≡ arm_of s) × (mount_of (block_at s i) ≡ mount_of s)
  origin_kept i h = (ap (λ n. byte_at n 0) (named_kept i h), ap (λ n. triple_at n 1) (named_kept i h))

  -- a block that is sound by itself is refused as 10 or kept
  sound_10 : (i : ℕ) → block_refusal (block_at s i) ≡ 0 → (refusal_at s label i ≡ 0 → ⊥) → refusal_at s label i ≡ 10
  unfolding turn_refusal
  sound_10 i sound = rw sound (go (in_turn (said (block_at s 0)) label i (block_at s i)))
    where
      go : (here : Bool) → (unless 10 here 0 ≡ 0 → ⊥) → unless 10 here 0 ≡ 10
      go true out = absurd (out refl)
      go false out = refl

  -- so if it is of another edition, and if it is of another arm or mount
  pub other_edition_10 : (i : ℕ) → block_refusal (block_at s i) ≡ 0 → (edition_of (block_at s i) ≡ edition_of s → ⊥) → refusal_at s label i ≡ 10
  other_edition_10 i sound other = sound_10 i sound (λ kept. other (edition_kept i kept))

  pub other_origin_10 : (i : ℕ) → block_refusal (block_at s i) ≡ 0 → ((arm_of (block_at s i) ≡ arm_of s) × (mount_of (block_at s i) ≡ mount_of s) → ⊥) → refusal_at s label i ≡ 10
  other_origin_10 i sound other = sound_10 i sound (λ kept. other (origin_kept i kept))

  pub kept_numbered : Bytes s → (run_of s label).kept ≤ numbered_blocks
  kept_numbered w = go (run_of s label).kept (run_longest (start_in s) (refusal_at s label) s (whole_blocks s) 0).passes
    where
      go : (kept : ℕ) → ((j : ℕ) → 0 ≤ j → j < kept → refusal_at s label j ≡ 0) → kept ≤ numbered_blocks
      go zero passes = omega arith
      go (suc j) passes = omega (arith, (block_kept j (passes j (omega arith) (omega arith))).number, pair_small s w j 12)

  pub kept_within : (run_of s label).kept ≤ whole_blocks s
  kept_within = omega (arith, (run_longest (start_in s) (refusal_at s label) s (whole_blocks s) 0).to)

  -- a block that can be kept holds no more bits than its payload
  pub count_of_kept : (i : ℕ) → refusal_at s label i ≡ 0 → count_of (block_at s i) ≤ payload_bits (start_in s)
  count_of_kept i h = subst (λ e. count_of (block_at s i) ≤ payload_bits (start_of e)) (edition_kept i h) (fields_of_passed (block_at s i) (block_kept i h).passes).its_count

  pub bits_kept_most : bits_kept (start_in s) s (run_of s label).kept ≤ payload_bits (start_in s) * (run_of s label).kept
  unfolding bits_kept
  bits_kept_most = go (run_of s label).kept (run_longest (start_in s) (refusal_at s label) s (whole_blocks s) 0).passes
    where
      go : (kept : ℕ) → ((j : ℕ) → 0 ≤ j → j < kept → refusal_at s label j ≡ 0) → bits_kept (start_in s) s kept ≤ payload_bits (start_in s) * kept
      go zero passes = omega arith
      go (suc j) passes = omega (arith, mul-suc (payload_bits (start_in s)) j, count_of_kept j (passes j (omega arith) (omega arith)))

  -- where nothing is kept, the run ends with the number of block 0; where something is, block 0 is
  pub block_0_passes : 0 < (run_of s label).kept → refusal_at s label 0 ≡ 0
  block_0_passes h = (run_longest (start_in s) (refusal_at s label) s (whole_blocks s) 0).passes 0 (omega arith) h

  pub block_0_refused : 0 < whole_blocks s → (run_of s label).kept ≡ 0 → (refusal_at s label 0 ≡ (run_of s label).ended) × ((run_of s label).ended ≡ 0 → ⊥)
  block_0_refused h e =
      let g = run_longest (start_in s) (refusal_at s label) s (whole_blocks s) 0 in
      let none : LastFull (start_in s) s 0 (run_of s label).kept = λ j k z. absurd (no j z e) in
      (ap (refusal_at s label) (sym e) ∙ g.next (omega arith) none, g.fails (omega arith) none)
    where
      no : (j : ℕ) {kept : ℕ} → suc j ≡ kept → kept ≡ 0 → ⊥
      no j z e = omega arith
