-- Lines as a person reads them, by computing what the definitions say.
use Rattle.std.specs.Prelude.{◌≡◌, refl, take, replicate}
use Prim.Native.String.{String}
use Rattle.pgm.specs.Ascii.{ascii, decimal}
use Rattle.words.specs.Line.{Line, on, ◌puts◌}
use Rattle.remarks.specs.Said.{meanings, refused_of}

-- a line of 320 bytes ends behind the text
abbrev says : (Line → Line) → String → Type 0
says said text = let line = said (on (replicate 320 0) 0) in take line.at line.bytes ≡ ascii text

pub record Lines : Type 0 where
  levels : says (refused_of 2) "REFUSED: levels go from 1 to 5, and to 2, 3 or 4 at side 8, 16 or 32 (2)\n"
  label : says (refused_of 7) "REFUSED: a label is eight characters, 0-9 or A-Z; leading zeros count (7)\n"
  arm : says (refused_of 9) "REFUSED: the arm is 1 or 2, and a mount number at most 16777215 (9)\n"

pub lines : Lines
unfolding decimal ◌puts◌ meanings refused_of
lines = record { levels = refl; label = refl; arm = refl }
