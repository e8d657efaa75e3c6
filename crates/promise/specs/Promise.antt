-- The promise that travels with the picture, plain or softer, or with the thumbnail of a picture of side 2 ^ k.
use Rattle.std.specs.Prelude.{Bool, List, ◌++◌, ℕ, ◌-◌, leb}
use Rattle.paper.specs.Lists.{pick}
use Rattle.paper.specs.Sizes.{grey_limit}
use Rattle.pgm.specs.Ascii.{ascii}
use Rattle.words.specs.Line.{Line, ◌puts◌, figure}
use Rattle.worth.specs.Worth.{word, side_of, of_thumbnail, of_softer}

unfoldable pub of255 : ℕ → List ℕ
of255 blocks = pick (leb blocks 1) (ascii " of 255") (ascii " of 255, if of one shot")

unfoldable pub promise_of : List ℕ → ℕ → ℕ → ℕ → Bool → ℕ → ℕ → Line → Line
promise_of label k L r softer p blocks line =
    line puts label puts ascii " " puts word p puts ascii ", p = " puts figure p puts of_softer softer p
    puts of_thumbnail r (ascii ", thumbnail from side ") puts of_thumbnail r (figure (side_of k))
    puts ascii ", no grey off by more than " puts figure (grey_limit (L - r) p)
    puts of255 blocks

-- the same as one text
unfoldable pub promise_text : List ℕ → ℕ → ℕ → ℕ → Bool → ℕ → ℕ → List ℕ
promise_text label k L r softer p blocks =
    label ++ (ascii " " ++ (word p ++ (ascii ", p = " ++ (figure p ++ (of_softer softer p
    ++ (of_thumbnail r (ascii ", thumbnail from side ") ++ (of_thumbnail r (figure (side_of k))
    ++ (ascii ", no grey off by more than " ++ (figure (grey_limit (L - r) p) ++ of255 blocks)))))))))
