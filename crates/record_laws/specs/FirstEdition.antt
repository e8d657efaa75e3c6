-- The first edition's record, check and reader, unchanged, beside today's. They refuse blocks of another edition whose checks are
-- sound as 9, and keep nothing of them; what they open is opened today, and the same; and a record of edition 1 has the bytes it had.
use Rattle.std.specs.Prelude.{◌≡◌, refl, true, false, ◌&&◌, ◌⊎◌, leb, length}
use Rattle.std.proofs.Math.Path.{ap}
use Rattle.std.proofs.Common.{◌∙◌, arith, eq-eqb, ne_eqb}
use Rattle.std.proofs.Math.Bool.{Bool}
use mathlib.Core.List.{List, ◌++◌}
use Prim.Native.Nat.{ℕ, ◌*◌, ◌<◌, ◌≤◌}
use Rattle.paper.specs.Sizes.{unless, judged}
use Rattle.paper.specs.Lists.{joined}
use Rattle.paper.specs.Bits.{packed}
use Rattle.paper.specs.Block.{is_label, Origin, edition_in, block_bytes, header_bytes, start_of, payload_bytes, header, sealed, edition_of, checks_right, origin_right, block_refusal}
use Rattle.paper.specs.Record.{blocks_of, bits_of_block, made_block, block_of, record_of, whole_blocks, block_at, is_full}
use Rattle.paper.specs.Jobs.{room_bytes, lent_refusal}
use Rattle.paper.specs.First.{first_record_of, first_refusal, first_in_turn, first_refusal_at, first_run_of, first_read_run, first_refused, first_reading}
use Rattle.block.proofs.Editions.{start_first, named_none}
use Rattle.record_laws.specs.Kept.{fails_not_kept, fails_ends}
use Rattle.record_laws.specs.Turn.{own_number}

-- ---- one block
-- Of 512 bytes with sound checks whose edition is not 1, whatever else they say.
pub first_refuses : (block : List ℕ) → length block ≡ block_bytes → checks_right block ≡ true → (edition_of block ≡ 1 → ⊥) → first_refusal block ≡ 9
unfolding first_refusal
first_refuses block long sound other = rw (eq-eqb _ _ long, sound, ne_eqb (edition_of block) 1 other)

-- so of edition 2
pub first_refuses_2 : (block : List ℕ) → length block ≡ block_bytes → checks_right block ≡ true → edition_of block ≡ 2 → first_refusal block ≡ 9
first_refuses_2 block long sound second = first_refuses block long sound (λ one. omega arith)

-- of edition 1 both checks say the same
pub first_same : (block : List ℕ) → edition_of block ≡ 1 → first_refusal block ≡ block_refusal block
unfolding first_refusal block_refusal origin_right edition_in start_of
first_same block one = rw (one)

-- ---- the record that was written
-- In edition 1 it has the very bytes that the first edition's writer gave it, whatever the arm and the mount.
pub first_record : (o : Origin) → o.edition ≡ 1 → (k L n : ℕ) (label : List ℕ) (l : List Bool) → record_of o k L n label l ≡ first_record_of k L n label l
unfolding record_of block_of made_block first_record_of
first_record o one k L n label l =
    let start = start_first o.edition one in
    λ t. joined (blocks_of (start t) (length l))
    (λ i. sealed (header (one t) k L n label i (length (bits_of_block (start t) l i)) ++ (named_none o one t ++ packed (payload_bytes (start t)) (bits_of_block (start t) l i))))

-- ---- a record
module _ (s label : List ℕ) (i : ℕ) (nine : first_refusal (block_at s i) ≡ 9) where
  -- its own refusal comes before its turn
  there : first_refusal_at s label i ≡ 9
  there = own_number (first_refusal (block_at s i)) 8 (first_in_turn (block_at s 0) label i (block_at s i)) nine

  -- whatever stands before it, it is not kept
  pub first_not_kept : (first_run_of s label).kept ≤ i
  first_not_kept = fails_not_kept header_bytes (first_refusal_at s label) s (whole_blocks s) i 8 there

  -- where the run comes to it, it ends the run as 9
  pub first_ends_as_9 : i < whole_blocks s → ((j : ℕ) → j < i → first_refusal_at s label j ≡ 0) → ((j : ℕ) → j < i → is_full header_bytes (block_at s j) ≡ true) → first_run_of s label ≡ record { kept = i; ended = 9 }
  first_ends_as_9 h passes full = fails_ends header_bytes (first_refusal_at s label) s (whole_blocks s) i 8 h there passes full

-- Block 0 decides over the call: it is refused as 9, unless 6 or 7 is, and the room is untouched.
pub first_reads_none : (s label room : List ℕ) → first_refusal (block_at s 0) ≡ 9 → first_reading s label room ≡ first_refused room (lent_refusal s label room 9)
unfolding first_reading lent_refusal
first_reads_none s label room nine =
    ap (λ r. judged (lent_refusal s label room r) (first_refused room) (first_read_run s room (first_run_of s label))) (there s label 0 nine)
    ∙ refused_so (leb block_bytes (length s) && leb (room_bytes * whole_blocks s) (length room)) (is_label label)
  where
    refused_so : (a b : Bool) → judged (unless 6 a (unless 7 b 9)) (first_refused room) (first_read_run s room (first_run_of s label)) ≡ first_refused room (unless 6 a (unless 7 b 9))
    refused_so true true = refl
    refused_so true false = refl
    refused_so false b = refl

-- ---- what that reader opens, the reader of both editions opens the same: proofs/FirstEdition.antt
-- two readers judge alike, today's and the first edition's: by the same number, or 10 where it was 9
abbrev pub Alike : ℕ → ℕ → Type 0
Alike a b = (a ≡ b) ⊎ ((a ≡ 10) × (b ≡ 9))
