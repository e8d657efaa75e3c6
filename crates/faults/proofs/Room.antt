-- In the room that decode has for what ended the run, or for a refused record, nothing of it is dropped: the lines are one text,
-- all of it there.
use mathlib.Core.Path.{◌≡◌, refl, sym, ap, ◌∙◌}
use mathlib.Core.Bool.{Bool, true, false, not}
use mathlib.Core.List.{List, [], ◌∷◌, ◌++◌}
use Prim.Native.Nat.{ℕ, ◌+◌, ◌≤◌}
use native.Mathlib.Omega.{arith}
use lib.Dec.{leb, eqb}
use lib.ListN.{length, drop, length-take}
use Rattle.paper.specs.Lists.{pick}
use Rattle.paper.specs.Block.{edition_of, label_of, number_of, arm_of, mount_of, same_bytes}
use Rattle.paper.specs.Record.{whole_blocks, block_at}
use Rattle.pgm.specs.Ascii.{ascii}
use Rattle.words.specs.Line.{Line, on, ◌puts◌, figure}
use Rattle.words.proofs.Laws.{puts_all, one_text, lengths, one_text_length, puts_all_lem, puts_more, lengths_more}
use Rattle.words.proofs.Decimal.{decimal_length}
use Rattle.faults.specs.Faults.{fault, another, labelled, form_of, unlike, elsewhere, shot_elsewhere, reasons, told, ended_of, refused_of}

-- ---- its texts
another_texts : List ℕ → ℕ → ℕ → List (List ℕ)
another_texts its found wanted = pick (eqb found wanted) [] (its ∷ figure found ∷ ascii " and not " ∷ figure wanted ∷ ascii "\n" ∷ [])

label_texts : List ℕ → List ℕ → List (List ℕ)
label_texts found label = pick (same_bytes found label) [] (ascii "    its label is " ∷ found ∷ ascii " and not " ∷ label ∷ ascii "\n" ∷ [])

unlike_texts : List ℕ → List ℕ → List (List ℕ)
unlike_texts form first = pick (same_bytes form first) [] (ascii "    its side, levels or planes are not block 0's\n" ∷ [])

shot_texts : List ℕ → List ℕ → List (List ℕ)
shot_texts first block =
    pick (not (eqb (edition_of block) (edition_of first))) []
    (another_texts (ascii "    its arm is ") (arm_of block) (arm_of first) ++ another_texts (ascii "    its mount is ") (mount_of block) (mount_of first))

reason_texts : List ℕ → List ℕ → ℕ → List ℕ → List (List ℕ)
reason_texts first label i block =
    another_texts (ascii "    its number is ") (number_of block) i
    ++ (label_texts (label_of block) label
    ++ (another_texts (ascii "    its edition is ") (edition_of block) (edition_of first)
    ++ (unlike_texts (form_of block) (form_of first)
    ++ shot_texts first block)))

why_texts : ℕ → List ℕ → List ℕ → ℕ → List (List ℕ)
why_texts number s label i = pick (eqb number 10) (pick (leb (whole_blocks s) i) [] (reason_texts (block_at s 0) label i (block_at s i))) []

pub ended_texts : ℕ → List ℕ → List ℕ → ℕ → List (List ℕ)
ended_texts number s label i = pick (eqb number 0) [] (ascii "  block " ∷ figure i ∷ ascii " ended the run: it is " ∷ fault number i ∷ why_texts number s label i)

pub refused_texts : ℕ → List ℕ → List ℕ → List (List ℕ)
refused_texts number s label = ascii "REFUSED " ∷ label ∷ ascii ": block 0 is " ∷ fault number 0 ∷ why_texts number s label 0

-- a part that is there or not is its texts, if it is there
part_texts : (b : Bool) (line said : Line) (texts : List (List ℕ)) → said ≡ puts_all line texts → pick b line said ≡ puts_all line (pick b [] texts)
unfolding puts_all
part_texts true line said texts e = refl
part_texts false line said texts e = e

part_length : (b : Bool) (texts : List (List ℕ)) → lengths (pick b [] texts) ≤ lengths texts
unfolding lengths
part_length true texts = omega arith
part_length false texts = omega arith

-- each reason is its texts, and with it all before it
another_texts_lem : (its : List ℕ) (found wanted : ℕ) (line : Line) → another its found wanted line ≡ puts_all line (another_texts its found wanted)
unfolding another another_texts puts_all
another_texts_lem its found wanted line = part_texts (eqb found wanted) line _ _ refl

label_texts_lem : (found label : List ℕ) (line : Line) → labelled found label line ≡ puts_all line (label_texts found label)
unfolding labelled label_texts puts_all
label_texts_lem found label line = part_texts (same_bytes found label) line _ _ refl

unlike_texts_lem : (form first : List ℕ) (line : Line) → unlike form first line ≡ puts_all line (unlike_texts form first)
unfolding unlike unlike_texts puts_all
unlike_texts_lem form first line = part_texts (same_bytes form first) line _ _ refl

-- one part more, in front of the others
then_texts : (part rest : List (List ℕ)) (line said last : Line) → said ≡ puts_all line part → last ≡ puts_all said rest → last ≡ puts_all line (part ++ rest)
then_texts part rest line said last h k = k ∙ (ap (λ (l : Line). puts_all l rest) h ∙ sym (puts_more part rest line))

shot_texts_lem : (first block : List ℕ) (line : Line) → shot_elsewhere first block line ≡ puts_all line (shot_texts first block)
unfolding shot_elsewhere elsewhere shot_texts
shot_texts_lem first block line =
    part_texts (not (eqb (edition_of block) (edition_of first))) line _ _
    (then_texts _ _ line _ _ (another_texts_lem (ascii "    its arm is ") (arm_of block) (arm_of first) line) (another_texts_lem (ascii "    its mount is ") (mount_of block) (mount_of first) _))

reason_texts_lem : (first label : List ℕ) (i : ℕ) (block : List ℕ) (line : Line) → reasons first label i block line ≡ puts_all line (reason_texts first label i block)
unfolding reasons reason_texts
reason_texts_lem first label i block line =
    then_texts _ _ line _ _ (another_texts_lem (ascii "    its number is ") (number_of block) i line)
    (then_texts _ _ _ _ _ (label_texts_lem (label_of block) label _)
    (then_texts _ _ _ _ _ (another_texts_lem (ascii "    its edition is ") (edition_of block) (edition_of first) _)
    (then_texts _ _ _ _ _ (unlike_texts_lem (form_of block) (form_of first) _)
    (shot_texts_lem first block _))))

told_texts : (number : ℕ) (s label : List ℕ) (i : ℕ) (line : Line) → told number s label i line ≡ puts_all line (fault number i ∷ why_texts number s label i)
unfolding told why_texts puts_all
told_texts number s label i line = go (eqb number 10) (leb (whole_blocks s) i)
  where
    go : (a b : Bool) → pick a (pick b (line puts fault number i) (reasons (block_at s 0) label i (block_at s i) (line puts fault number i))) (line puts fault number i) ≡ puts_all (line puts fault number i) (pick a (pick b [] (reason_texts (block_at s 0) label i (block_at s i))) [])
    go false b = refl
    go true true = refl
    go true false = reason_texts_lem (block_at s 0) label i (block_at s i) (line puts fault number i)

ended_texts_lem : (number : ℕ) (s label : List ℕ) (i : ℕ) (line : Line) → ended_of number s label i line ≡ puts_all line (ended_texts number s label i)
unfolding ended_of ended_texts puts_all
ended_texts_lem number s label i line =
    part_texts (eqb number 0) line _ (ascii "  block " ∷ figure i ∷ ascii " ended the run: it is " ∷ fault number i ∷ why_texts number s label i)
    (told_texts number s label i (line puts ascii "  block " puts figure i puts ascii " ended the run: it is "))

fault_length : (number i : ℕ) → length (fault number i) ≤ 49
unfolding fault
fault_length number i = go (eqb number 8) (eqb number 9) (eqb i 0)
  where
    go : (a b c : Bool) → length (pick a (ascii "damaged, a check is wrong (8)\n") (pick b (ascii "no block of edition 1 or 2, a field is wrong (9)\n") (pick c (ascii "not the start of the record asked for (10)\n") (ascii "not the next block of this record (10)\n")))) ≤ 49
    go true b c = omega arith
    go false true c = omega arith
    go false false true = omega arith
    go false false false = omega arith

another_length : (its : List ℕ) (found wanted : ℕ) → lengths (another_texts its found wanted) ≤ length its + 50
unfolding another_texts lengths
another_length its found wanted =
    omega (arith, part_length (eqb found wanted) (its ∷ figure found ∷ ascii " and not " ∷ figure wanted ∷ ascii "\n" ∷ []), decimal_length 20 found, decimal_length 20 wanted)

label_length : (block label : List ℕ) → length label ≤ 8 → lengths (label_texts (label_of block) label) ≤ 43
unfolding label_texts lengths
label_length block label short =
    omega (arith, part_length (same_bytes (label_of block) label) (ascii "    its label is " ∷ label_of block ∷ ascii " and not " ∷ label ∷ ascii "\n" ∷ []), length-take 8 (drop 4 block))

unlike_length : (form first : List ℕ) → lengths (unlike_texts form first) ≤ 49
unfolding unlike_texts lengths
unlike_length form first = omega (arith, part_length (same_bytes form first) (ascii "    its side, levels or planes are not block 0's\n" ∷ []))

then_length : (a b : ℕ) (part rest : List (List ℕ)) → lengths part ≤ a → lengths rest ≤ b → lengths (part ++ rest) ≤ a + b
then_length a b part rest h k = omega (arith, lengths_more part rest)

shot_length : (first block : List ℕ) → lengths (shot_texts first block) ≤ 132
unfolding shot_texts
shot_length first block =
    let arm = another_texts (ascii "    its arm is ") (arm_of block) (arm_of first) in
    let mount = another_texts (ascii "    its mount is ") (mount_of block) (mount_of first) in
    let both = then_length 65 67 arm mount (another_length (ascii "    its arm is ") (arm_of block) (arm_of first)) (another_length (ascii "    its mount is ") (mount_of block) (mount_of first)) in
    omega (arith, part_length (not (eqb (edition_of block) (edition_of first))) (arm ++ mount), both)

reason_length : (first label : List ℕ) (i : ℕ) (block : List ℕ) → length label ≤ 8 → lengths (reason_texts first label i block) ≤ 361
unfolding reason_texts
reason_length first label i block short =
    then_length 68 293 _ _ (another_length (ascii "    its number is ") (number_of block) i)
    (then_length 43 250 _ _ (label_length block label short)
    (then_length 69 181 _ _ (another_length (ascii "    its edition is ") (edition_of block) (edition_of first))
    (then_length 49 132 _ _ (unlike_length (form_of block) (form_of first))
    (shot_length first block))))

why_length : (number : ℕ) (s label : List ℕ) (i : ℕ) → length label ≤ 8 → lengths (why_texts number s label i) ≤ 361
unfolding why_texts lengths
why_length number s label i short = go (eqb number 10) (leb (whole_blocks s) i)
  where
    go : (a b : Bool) → lengths (pick a (pick b [] (reason_texts (block_at s 0) label i (block_at s i))) []) ≤ 361
    go false b = omega arith
    go true true = omega arith
    go true false = reason_length (block_at s 0) label i (block_at s i) short

ended_length : (number : ℕ) (s label : List ℕ) (i : ℕ) → length label ≤ 8 → lengths (ended_texts number s label i) ≤ 464
unfolding ended_texts lengths
ended_length number s label i short =
    omega (arith, part_length (eqb number 0) (ascii "  block " ∷ figure i ∷ ascii " ended the run: it is " ∷ fault number i ∷ why_texts number s label i), decimal_length 20 i, fault_length number i, why_length number s label i short)

-- in room of 464 bytes
pub ended_there : (bytes : List ℕ) (number : ℕ) (s label : List ℕ) (i : ℕ) → 464 ≤ length bytes → length label ≤ 8
    → ended_of number s label i (on bytes 0) ≡ on bytes 0 puts one_text (ended_texts number s label i)
ended_there bytes number s label i room short =
    let texts = ended_texts number s label i in
    let long : 0 + length (one_text texts) ≤ length bytes = omega (arith, one_text_length texts, ended_length number s label i short) in
    ended_texts_lem number s label i (on bytes 0) ∙ puts_all_lem texts bytes 0 long

refused_texts_lem : (number : ℕ) (s label : List ℕ) (line : Line) → refused_of number s label line ≡ puts_all line (refused_texts number s label)
unfolding refused_of refused_texts puts_all
refused_texts_lem number s label line = told_texts number s label 0 (line puts ascii "REFUSED " puts label puts ascii ": block 0 is ")

refused_length : (number : ℕ) (s label : List ℕ) → length label ≤ 8 → lengths (refused_texts number s label) ≤ 464
unfolding refused_texts lengths
refused_length number s label short = omega (arith, fault_length number 0, why_length number s label 0 short)

pub refused_there : (bytes : List ℕ) (number : ℕ) (s label : List ℕ) → 464 ≤ length bytes → length label ≤ 8
    → refused_of number s label (on bytes 0) ≡ on bytes 0 puts one_text (refused_texts number s label)
refused_there bytes number s label room short =
    let texts = refused_texts number s label in
    let long : 0 + length (one_text texts) ≤ length bytes = omega (arith, one_text_length texts, refused_length number s label short) in
    refused_texts_lem number s label (on bytes 0) ∙ puts_all_lem texts bytes 0 long
