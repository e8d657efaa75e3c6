-- A refusal of the table in a person's words.
use Rattle.std.specs.Prelude.{List, [], ◌∷◌, ℕ, get_or}
use Rattle.pgm.specs.Ascii.{ascii}
use Rattle.words.specs.Line.{Line, ◌puts◌, figure}

-- the refusals that concern no block, in the order of their numbers: 0 refuses nothing, and 8 is a block's alone
unfoldable pub meanings : List (List ℕ)
meanings =
    ascii ""
    ∷ ascii "the side is not 8, 16, 32, 64, 128 or 256"
    ∷ ascii "levels go from 1 to 5, and to 2, 3 or 4 at side 8, 16 or 32"
    ∷ ascii "a slice is not as long as the picture"
    ∷ ascii "a wavelet number is beyond 262143"
    ∷ ascii "more than 18 planes"
    ∷ ascii "more bits than there is room for"
    ∷ ascii "a label is eight characters, 0-9 or A-Z; leading zeros count"
    ∷ ascii ""
    ∷ ascii "the arm is 1 or 2, and a mount number at most 16777215"
    ∷ []

abbrev pub meaning : ℕ → List ℕ
meaning n = get_or meanings n []

-- the line of a refusal
unfoldable pub refused_of : ℕ → Line → Line
refused_of n line = line puts ascii "REFUSED: " puts meaning n puts ascii " (" puts figure n puts ascii ")\n"
