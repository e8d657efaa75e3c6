-- Demand 1. Every call is refused by the lowest row of the table that applies (a thumbnail and the writer by the first that is
-- judged, since 13 is judged before 3, and the edition's 9 before 6), and by 0 exactly where none does; a refused call answers 0 for
-- all else and changes nothing lent. (That every call ends is what the checker proves of every function.)
use mathlib.Core.Path.{◌≡◌, refl, ap}
use mathlib.Core.Bool.{Bool, true, false, ◌&&◌}
use mathlib.Core.List.{List}
use Prim.Native.Nat.{ℕ, ◌*◌}
use native.Mathlib.Omega.{arith}
use lib.Dec.{leb, eqb}
use lib.IntN.{ℤ}
use lib.ListN.{length}
use borrow.Author.Tests.{leb-true, eq-eqb}
use Rattle.paper.specs.Sizes.{unless}
use Rattle.paper.specs.Block.{block_bytes, is_label, Origin, checks_right, contents_right, block_refusal}
use Rattle.paper.specs.Record.{whole_blocks, block_at, said, in_turn, turn_refusal}
use Rattle.paper.specs.Jobs.{sizes_refusal, Forward, forward_refusal, forward_job, Coding, coding_refusal, coding_job, Decoding, decoding_refusal, decoding_job, Inverse, inverse_refusal, inverse_job, display_refusal, display_job, thumbnail_refusal, thumbnail_job, Writing, writing_refusal, writing_job, room_bytes, Read, lent_refusal, reading_refusal, reading_job, check_job}
use Rattle.record_laws.specs.Ended.{whole_block}
use Rattle.label.specs.Table.{Lowest, First, leaves_something, Refuses, forward_rows, coding_rows, decoding_rows, inverse_rows, display_rows, thumbnail_rows, writing_rows, reading_rows, check_rows}
use Rattle.label.proofs.Rows.{first, lowest, first_applies, judged_refuses}

-- No refusal leaves anything behind.
pub nothing_left : (r : ℕ) → leaves_something r ≡ false
nothing_left r = refl

-- ---- forward
pub forward_refuses : (k L : ℕ) (picture : List ℕ) (numbers : List ℤ)
    → Refuses Lowest (λ (a : Forward). a.refusal) (forward_rows k L picture numbers) (forward_job k L picture numbers) (λ r. record { refusal = r; n = 0; numbers = numbers })
unfolding forward_job forward_refusal sizes_refusal
forward_refuses k L picture numbers = judged_refuses _ _ _ _ _ (λ r l. refl) (λ r. refl) refl Lowest _ refl (lowest 0 _ refl)

-- ---- coding
pub coding_refuses : (k L : ℕ) (numbers : List ℤ) (limit : ℕ) (bytes : List ℕ)
    → Refuses Lowest (λ (a : Coding). a.refusal) (coding_rows k L numbers) (coding_job k L numbers limit bytes) (λ r. record { refusal = r; written = 0; n = 0; bytes = bytes })
unfolding coding_job coding_refusal sizes_refusal
coding_refuses k L numbers limit bytes = judged_refuses _ _ _ _ _ (λ r l. refl) (λ r. refl) refl Lowest _ refl (lowest 0 _ refl)

-- ---- decoding
pub decoding_refuses : (k L n : ℕ) (numbers : List ℤ) (bytes : List ℕ) (b : ℕ)
    → Refuses Lowest (λ (a : Decoding). a.refusal) (decoding_rows k L n numbers bytes b) (decoding_job k L n numbers bytes b) (λ r. record { refusal = r; unfinished = 0; read = 0; place = 0; numbers = numbers })
unfolding decoding_job decoding_refusal sizes_refusal
decoding_refuses k L n numbers bytes b = judged_refuses _ _ _ _ _ (λ r l. refl) (λ r. refl) refl Lowest _ refl (lowest 0 _ refl)

-- ---- inverse
pub inverse_refuses : (k L : ℕ) (numbers : List ℤ) (picture : List ℕ) (room : List ℤ)
    → Refuses Lowest (λ (a : Inverse). a.refusal) (inverse_rows k L numbers picture room) (inverse_job k L numbers picture room) (λ r. record { refusal = r; picture = picture; room = room })
unfolding inverse_job inverse_refusal sizes_refusal
inverse_refuses k L numbers picture room = judged_refuses _ _ _ _ _ (λ r l. refl) (λ r. refl) refl Lowest _ refl (lowest 0 _ refl)

-- ---- display
pub display_refuses : (k L p place : ℕ) (numbers : List ℤ) (picture : List ℕ) (room : List ℤ)
    → Refuses Lowest (λ (a : Inverse). a.refusal) (display_rows k L p place numbers picture room) (display_job k L p place numbers picture room) (λ r. record { refusal = r; picture = picture; room = room })
unfolding display_job display_refusal sizes_refusal
display_refuses k L p place numbers picture room = judged_refuses _ _ _ _ _ (λ r l. refl) (λ r. refl) refl Lowest _ refl (lowest 0 _ refl)

-- ---- thumbnail
pub thumbnail_refuses : (k L r : ℕ) (numbers : List ℤ) (picture : List ℕ) (room : List ℤ)
    → Refuses First (λ (a : Inverse). a.refusal) (thumbnail_rows k L r numbers picture room) (thumbnail_job k L r numbers picture room) (λ n. record { refusal = n; picture = picture; room = room })
unfolding thumbnail_job thumbnail_refusal sizes_refusal
thumbnail_refuses k L r numbers picture room = judged_refuses _ _ _ _ _ (λ r l. refl) (λ r. refl) refl First _ refl (first_applies _ refl)

-- ---- record writing
pub writing_refuses : (k L n : ℕ) (o : Origin) (label bytes : List ℕ) (b : ℕ) (room : List ℕ)
    → Refuses First (λ (a : Writing). a.refusal) (writing_rows k L n o label bytes b room) (writing_job k L n o label bytes b room) (λ r. record { refusal = r; blocks = 0; room = room })
unfolding writing_job writing_refusal sizes_refusal
writing_refuses k L n o label bytes b room = judged_refuses _ _ _ _ _ (λ r l. refl) (λ r. refl) refl First _ refl (first_applies _ refl)

-- ---- record reading
module _ (s label room : List ℕ) where
  reading_first : reading_refusal s label room ≡ first (reading_rows s label room)
  unfolding reading_refusal lent_refusal turn_refusal block_refusal
  reading_first = go (leb block_bytes (length s)) (leb (room_bytes * whole_blocks s) (length room)) refl
    where
      B : List ℕ
      B = block_at s 0

      turn : (w c f t : Bool) → w ≡ true → unless (unless 6 w (unless 8 c (unless 9 f 0))) (eqb (unless 6 w (unless 8 c (unless 9 f 0))) 0) (unless 10 t 0) ≡ unless 8 c (unless 9 f (unless 10 t 0))
      turn true true true t e = refl
      turn true true false t e = refl
      turn true false f t e = refl
      turn false c f t e = absurd (let z : ◌≡◌ {A = ℕ} 0 1 = cc in omega arith)

      go : (a b : Bool) → leb block_bytes (length s) ≡ a
          → unless 6 (a && b) (unless 7 (is_label label) (unless (unless 6 (eqb (length B) block_bytes) (unless 8 (checks_right B) (unless 9 (contents_right B) 0))) (eqb (unless 6 (eqb (length B) block_bytes) (unless 8 (checks_right B) (unless 9 (contents_right B) 0))) 0) (unless 10 (in_turn (said B) label 0 B) 0)))
          ≡ unless 6 (a && b) (unless 7 (is_label label) (unless 8 (checks_right B) (unless 9 (contents_right B) (unless 10 (in_turn (said B) label 0 B) 0))))
      go true true e = ap (unless 7 (is_label label)) (turn (eqb (length B) block_bytes) (checks_right B) (contents_right B) (in_turn (said B) label 0 B) (eq-eqb (length B) block_bytes (whole_block s 0 (omega (arith, leb-true block_bytes (length s) e)))))
      go true false e = refl
      go false b e = refl

  pub reading_refuses : Refuses Lowest (λ (a : Read). a.refusal) (reading_rows s label room) (reading_job s label room) (λ r. record { refusal = r; k = 0; L = 0; n = 0; blocks = 0; bits = 0; ended = 0; edition = 0; arm = 0; mount = 0; room = room })
  unfolding reading_job
  reading_refuses = judged_refuses _ _ _ _ _ (λ r l. refl) (λ r. refl) refl Lowest _ reading_first (lowest 0 _ refl)

-- ---- single-block check: nothing is lent but to be read
pub check_lowest : (block : List ℕ) → Lowest (check_rows block) (check_job block)
unfolding block_refusal
check_lowest block = lowest 0 (check_rows block) refl
