-- What decode says of a picture, or of a thumbnail, whose side was halved r times: the verdict first, then what it is worth, its
-- planes and bits. r is 0 for the picture itself; softer says that a softer one was asked for.
use Rattle.std.specs.Prelude.{Bool, List, ℕ, ◌*◌, ◌-◌, ◌/◌, ltb, eqb}
use Rattle.paper.specs.Lists.{pick}
use Rattle.paper.specs.Block.{Origin}
use Rattle.pgm.specs.Ascii.{ascii}
use Rattle.words.specs.Line.{Line, ◌puts◌, figure}
use Rattle.worth.specs.Worth.{side_of, worth}
use Rattle.title.specs.Title.{titled, is_long, shot_by, counted}

-- how much of the plane that is running is in, in whole per cent of the square's numbers; all of it where the place is none of them
unfoldable pub share_of : ℕ → ℕ → ℕ
share_of k place = pick (ltb place (side_of k * side_of k)) (100 * place / (side_of k * side_of k)) 100

-- " and 37% of the next", where planes are unfinished
unfoldable pub running : ℕ → ℕ → ℕ → Line → Line
running k p place line =
    pick (eqb p 0) line (line puts ascii " and " puts figure (share_of k place) puts ascii "% of the next")

-- "  planes finished: 7 of 9 and 37% of the next, levels: 2, bits: 11808"
unfoldable pub planes : ℕ → ℕ → ℕ → ℕ → ℕ → ℕ → Line → Line
planes k L n p place bits line =
    running k p place (line puts ascii "  planes finished: " puts figure (n - p) puts ascii " of " puts figure n)
    puts ascii ", levels: " puts figure L puts ascii ", bits: " puts figure bits puts ascii "\n"

-- all of it, and at the end what ended the run
unfoldable pub report_of : List ℕ → ℕ → ℕ → ℕ → Bool → Origin → ℕ → ℕ → ℕ → ℕ → ℕ → List ℕ → Line → Line
report_of label k L r softer o n blocks bits p place ended line =
    let title = shot_by (is_long r softer p) o (titled label k r softer p line) in
    planes k L n p place bits (worth L r p blocks (counted o.edition blocks bits p title)) puts ended
