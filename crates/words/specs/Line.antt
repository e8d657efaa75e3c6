-- A line of text being written: its bytes, and the place of the next one.
use Rattle.std.specs.Prelude.{List, ◌++◌, ℕ, ◌+◌, leb, length, take, drop}
use Rattle.paper.specs.Lists.{pick}
use Rattle.pgm.specs.Ascii.{decimal}
use Rattle.words.specs.declared.Line.{Line as Lent}

pub record Line : Type 0 where
  pub bytes : List ℕ
  pub at : ℕ

abbrev pub on : List ℕ → ℕ → Line
on bytes at = record { bytes = bytes; at = at }

-- what stands in lent room, and the place of the next byte
abbrev pub stands : Lent → Line
stands l = on l.bytes.now l.at

-- a text at the line's place, if there is room for all of it
infixl 5 ◌puts◌
unfoldable pub ◌puts◌ : Line → List ℕ → Line
line puts text =
    pick (leb (line.at + length text) (length line.bytes))
    (on (take line.at line.bytes ++ (text ++ drop (line.at + length text) line.bytes)) (line.at + length text))
    line

-- a number of 64 bits has at most 20 digits
abbrev pub figure : ℕ → List ℕ
figure n = decimal 20 n
