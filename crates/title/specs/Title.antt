-- The title of what decode says: the verdict, the label, whether it is a thumbnail or softer, the side, arm and mount, and the blocks
-- that were kept.
use Rattle.std.specs.Prelude.{Bool, not, ◌&&◌, ◌||◌, List, ℕ, ◌*◌, ◌-◌, eqb}
use Rattle.paper.specs.Lists.{pick}
use Rattle.paper.specs.Block.{Origin, unnamed, start_of, payload_bits}
use Rattle.pgm.specs.Ascii.{ascii}
use Rattle.words.specs.Line.{Line, ◌puts◌, figure}
use Rattle.worth.specs.Worth.{word, side_of, of_thumbnail, is_softer, of_softer}

-- "CUT 00000417, side 64", "CUT 00000417, softer, side 64", "CUT 00000417, thumbnail, side 16 of 64"
unfoldable pub titled : List ℕ → ℕ → ℕ → Bool → ℕ → Line → Line
titled label k r softer p line =
    line puts word p puts ascii " " puts label puts of_thumbnail r (ascii ", thumbnail") puts of_softer softer p
    puts ascii ", side " puts figure (side_of (k - r)) puts of_thumbnail r (ascii " of ") puts of_thumbnail r (figure (side_of k))

-- whether the title is long: a thumbnail's or a softer picture's
unfoldable pub is_long : ℕ → Bool → ℕ → Bool
is_long r softer p = not (eqb r 0) || is_softer softer p

-- behind a long title a new line begins
unfoldable pub colon : Bool → List ℕ
colon long = pick long (ascii ":\n  ") (ascii ": ")

-- ": ", and in edition 2 ", arm 1, mount 70123: "
unfoldable pub shot_by : Bool → Origin → Line → Line
shot_by long o line =
    pick (unnamed o.edition) (line puts ascii ": ")
    (line puts ascii ", arm " puts figure o.arm puts ascii ", mount " puts figure o.mount puts colon long)

-- more blocks were expected: planes are unfinished, and the last block kept is full, as only the last of a record need not be
unfoldable pub awaits : ℕ → ℕ → ℕ → ℕ → Bool
awaits e blocks bits p = not (eqb p 0) && eqb bits (payload_bits (start_of e) * blocks)

unfoldable pub plural : ℕ → List ℕ
plural blocks = pick (eqb blocks 1) (ascii " block, ") (ascii " blocks, ")

unfoldable pub expected : Bool → List ℕ
expected more = pick more (ascii "more expected\n") (ascii "no more expected\n")

-- "3 blocks, more expected"
unfoldable pub counted : ℕ → ℕ → ℕ → ℕ → Line → Line
counted e blocks bits p line = line puts figure blocks puts plural blocks puts expected (awaits e blocks bits p)
