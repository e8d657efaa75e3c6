-- The header that stands before the raster of a square of side 2 ^ k, with a promise in its comment.
use Rattle.std.specs.Prelude.{Bool, true, not, ◌&&◌, List, [], ◌∷◌, ◌++◌, ℕ, ◌^◌}
use Rattle.paper.specs.Lists.{pick}
use Rattle.pgm.specs.Ascii.{ascii}
use Rattle.pgm.specs.Header.{is_line_end}
use Rattle.words.specs.Line.{Line, ◌puts◌, figure}
use Rattle.square_pgm.specs.Sides.{shown_size}

unfoldable pub header_text : ℕ → List ℕ → List ℕ
header_text k promise =
    ascii "P5\n# " ++ (promise ++ (ascii "\n" ++ (figure (2 ^ k) ++ (ascii " " ++ (figure (2 ^ k) ++ ascii "\n255\n")))))

-- the header put into a line; nothing where the square is none that is shown
unfoldable pub headed : ℕ → List ℕ → Line → Line
headed k promise line =
    pick (shown_size k)
    (line puts ascii "P5\n# " puts promise puts ascii "\n" puts figure (2 ^ k) puts ascii " " puts figure (2 ^ k) puts ascii "\n255\n")
    line

-- a text of one line: nothing in it ends a line
unfoldable pub is_one_line : List ℕ → Bool
is_one_line [] = true
is_one_line (c ∷ s) = not (is_line_end c) && is_one_line s
