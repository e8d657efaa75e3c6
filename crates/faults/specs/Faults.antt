-- What is said of a block that is not kept: the meaning of 8, 9 or 10, and for 10 each of its reasons; and of a run that it ended,
-- or a record that it refuses.
use Rattle.std.specs.Prelude.{not, List, ℕ, leb, eqb, take, drop}
use Rattle.paper.specs.Lists.{pick}
use Rattle.paper.specs.Block.{edition_of, label_of, number_of, arm_of, mount_of, same_bytes}
use Rattle.paper.specs.Record.{whole_blocks, block_at}
use Rattle.pgm.specs.Ascii.{ascii}
use Rattle.words.specs.Line.{Line, ◌puts◌, figure}

-- the meanings of 8, 9 and 10, said of block i
unfoldable pub fault : ℕ → ℕ → List ℕ
fault number i =
    pick (eqb number 8) (ascii "damaged, a check is wrong (8)\n")
    (pick (eqb number 9) (ascii "no block of edition 1 or 2, a field is wrong (9)\n")
    (pick (eqb i 0) (ascii "not the start of the record asked for (10)\n")
    (ascii "not the next block of this record (10)\n")))

-- the reasons of 10, each that applies
-- another number than the one wanted: "    its number is 5 and not 3"
unfoldable pub another : List ℕ → ℕ → ℕ → Line → Line
another its found wanted line =
    pick (eqb found wanted) line (line puts its puts figure found puts ascii " and not " puts figure wanted puts ascii "\n")

unfoldable pub labelled : List ℕ → List ℕ → Line → Line
labelled found label line =
    pick (same_bytes found label) line
    (line puts ascii "    its label is " puts found puts ascii " and not " puts label puts ascii "\n")

-- bytes 1 to 3: side, levels and planes
abbrev pub form_of : List ℕ → List ℕ
form_of block = take 3 (drop 1 block)

unfoldable pub unlike : List ℕ → List ℕ → Line → Line
unlike form first line = pick (same_bytes form first) line (line puts ascii "    its side, levels or planes are not block 0's\n")

-- another arm or mount than block 0's
unfoldable pub elsewhere : List ℕ → List ℕ → Line → Line
elsewhere first block line =
    another (ascii "    its mount is ") (mount_of block) (mount_of first)
    (another (ascii "    its arm is ") (arm_of block) (arm_of first) line)

-- not told where the editions differ: edition 1 has no arm that a person could look for
unfoldable pub shot_elsewhere : List ℕ → List ℕ → Line → Line
shot_elsewhere first block line = pick (not (eqb (edition_of block) (edition_of first))) line (elsewhere first block line)

-- its number, its label, and what block 0 said before and behind the label
unfoldable pub reasons : List ℕ → List ℕ → ℕ → List ℕ → Line → Line
reasons first label i block line =
    shot_elsewhere first block
    (unlike (form_of block) (form_of first)
    (another (ascii "    its edition is ") (edition_of block) (edition_of first)
    (labelled (label_of block) label
    (another (ascii "    its number is ") (number_of block) i line))))

-- what is wrong with block i of s: the meaning, and for 10 the reasons
unfoldable pub told : ℕ → List ℕ → List ℕ → ℕ → Line → Line
told number s label i line =
    let said = line puts fault number i in
    pick (eqb number 10) (pick (leb (whole_blocks s) i) said (reasons (block_at s 0) label i (block_at s i) said)) said

-- "  block 3 ended the run: it is ..", nothing for 0
unfoldable pub ended_of : ℕ → List ℕ → List ℕ → ℕ → Line → Line
ended_of number s label i line =
    pick (eqb number 0) line
    (told number s label i (line puts ascii "  block " puts figure i puts ascii " ended the run: it is "))

-- a record whose block 0 is not kept
unfoldable pub refused_of : ℕ → List ℕ → List ℕ → Line → Line
refused_of number s label line = told number s label 0 (line puts ascii "REFUSED " puts label puts ascii ": block 0 is ")
