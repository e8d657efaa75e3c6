-- What is said of a block ends within its room.
use mathlib.Core.Path.{◌≡◌, refl, sym, ◌∙◌}
use mathlib.Core.Bool.{Bool, true, false, not}
use mathlib.Core.List.{List}
use Prim.Native.Nat.{ℕ, ◌<◌}
use native.Mathlib.Omega.{arith}
use lib.Dec.{leb, eqb}
use Rattle.paper.specs.Block.{edition_of, label_of, number_of, arm_of, mount_of, same_bytes}
use Rattle.paper.specs.Record.{whole_blocks, block_at}
use borrow.Author.Tests.{eq-eqb, leb-true}
use Rattle.paper.specs.Lists.{pick}
use Rattle.pgm.specs.Ascii.{ascii}
use Rattle.words.specs.Line.{Line, ◌puts◌}
use Rattle.words.proofs.Laws.{Inside, puts_inside, pick_inside}
use Rattle.faults.specs.Faults.{fault, another, labelled, form_of, unlike, elsewhere, shot_elsewhere, reasons, told}

-- ---- arm and mount, one behind the other
module _ (first block : List ℕ) (line : Line) where
  pub elsewhere_is : (arm arm0 mount mount0 : ℕ) (armed last : Line) → arm ≡ arm_of block → arm0 ≡ arm_of first → mount ≡ mount_of block → mount0 ≡ mount_of first
      → another (ascii "    its arm is ") arm arm0 line ≡ armed → another (ascii "    its mount is ") mount mount0 armed ≡ last
      → elsewhere first block line ≡ last
  unfolding elsewhere
  elsewhere_is arm arm0 mount mount0 armed last a a0 m m0 h k = rw (← a, ← a0, ← m, ← m0, h) k

-- ---- a whole block out of its turn: its reasons, behind the meaning of 10
module _ (s label : List ℕ) (i : ℕ) (line : Line) where
  pub told_turn : {number : ℕ} {first block : List ℕ} {said out : Line} → number ≡ 10 → i < whole_blocks s → first ≡ block_at s 0 → block ≡ block_at s i
      → line puts fault number i ≡ said → reasons first label i block said ≡ out → told number s label i line ≡ out
  unfolding told
  told_turn {number} {first} {block} {said} {out} turn whole f b e k =
      rw (eq-eqb number 10 turn) (there (leb (whole_blocks s) i) refl)
    where
      there : (short : Bool) → leb (whole_blocks s) i ≡ short → pick short (line puts fault number i) (reasons (block_at s 0) label i (block_at s i) (line puts fault number i)) ≡ out
      there true h = absurd (omega (arith, leb-true (whole_blocks s) i h))
      there false h = (λ t. reasons (sym f t) label i (sym b t) (e t)) ∙ k

-- ---- what is said ends within its room
module _ (line : Line) (h : Inside line) where
  another_inside : (its : List ℕ) (found wanted : ℕ) → Inside (another its found wanted line)
  unfolding another
  another_inside its found wanted = pick_inside (eqb found wanted) line _ h (puts_inside _ _ (puts_inside _ _ (puts_inside _ _ (puts_inside _ _ (puts_inside line _ h)))))

  labelled_inside : (found label : List ℕ) → Inside (labelled found label line)
  unfolding labelled
  labelled_inside found label = pick_inside (same_bytes found label) line _ h (puts_inside _ _ (puts_inside _ _ (puts_inside _ _ (puts_inside _ _ (puts_inside line _ h)))))

  unlike_inside : (form first : List ℕ) → Inside (unlike form first line)
  unfolding unlike
  unlike_inside form first = pick_inside (same_bytes form first) line _ h (puts_inside line _ h)

reasons_inside : (line : Line) → Inside line → (first label : List ℕ) (i : ℕ) (block : List ℕ) → Inside (reasons first label i block line)
unfolding reasons shot_elsewhere elsewhere
reasons_inside line h first label i block =
    let turn = another_inside line h (ascii "    its number is ") (number_of block) i in
    let name = labelled_inside _ turn (label_of block) label in
    let edition = another_inside _ name (ascii "    its edition is ") (edition_of block) (edition_of first) in
    let form = unlike_inside _ edition (form_of block) (form_of first) in
    let arm = another_inside _ form (ascii "    its arm is ") (arm_of block) (arm_of first) in
    pick_inside (not (eqb (edition_of block) (edition_of first))) _ _ form (another_inside _ arm (ascii "    its mount is ") (mount_of block) (mount_of first))

pub told_inside : (line : Line) → Inside line → (number : ℕ) (s label : List ℕ) (i : ℕ) → Inside (told number s label i line)
unfolding told
told_inside line h number s label i =
    let said = puts_inside line (fault number i) h in
    pick_inside (eqb number 10) _ _ (pick_inside (leb (whole_blocks s) i) _ _ said (reasons_inside _ said (block_at s 0) label i (block_at s i))) said
