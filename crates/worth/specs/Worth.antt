-- What was decoded, a picture or a thumbnail, whose side was halved r times, and what its greys are worth. r is 0 for the picture
-- itself; softer says that a softer one was asked for.
use Rattle.std.specs.Prelude.{Bool, not, ◌&&◌, List, [], ℕ, ◌-◌, ◌^◌, leb, eqb}
use Rattle.paper.specs.Lists.{pick}
use Rattle.paper.specs.Sizes.{most_size, grey_limit}
use Rattle.pgm.specs.Ascii.{ascii}
use Rattle.words.specs.Line.{Line, ◌puts◌, figure}

-- whole: no plane is unfinished
unfoldable pub word : ℕ → List ℕ
word p = pick (eqb p 0) (ascii "WHOLE") (ascii "CUT")

-- the side of a square; 0 where it is beyond the largest
unfoldable pub side_of : ℕ → ℕ
side_of k = pick (leb k most_size) (2 ^ k) 0

-- what is said of a thumbnail alone
unfoldable pub of_thumbnail : ℕ → List ℕ → List ℕ
of_thumbnail r text = pick (eqb r 0) [] text

-- whether it is a softer picture: where no plane is unfinished nothing was moved, and it is the plain one
unfoldable pub is_softer : Bool → ℕ → Bool
is_softer softer p = not (eqb p 0) && softer

-- the word that is said of a softer picture alone
unfoldable pub of_softer : Bool → ℕ → List ℕ
of_softer softer p = pick (is_softer softer p) (ascii ", softer") []

-- the promises are about one coding: blocks of two shots are not seen in edition 1, nor in edition 2 if arm and mount agree
unfoldable pub one_shot : ℕ → List ℕ
one_shot blocks = pick (leb blocks 1) (ascii "\n") (ascii ", if its blocks are of one shot\n")

unfoldable pub kind : ℕ → List ℕ
kind r = pick (eqb r 0) (ascii "picture") (ascii "thumbnail")

-- what the greys are worth with L levels, of which a thumbnail undoes L - r, where p planes are unfinished
unfoldable pub worth : ℕ → ℕ → ℕ → ℕ → Line → Line
worth L r p blocks line =
    pick (eqb p 0) (line puts ascii "  every grey is right: the very " puts kind r puts one_shot blocks)
    (pick (eqb (grey_limit (L - r) p) 255) (line puts ascii "  any grey may be wrong: too little is left to promise more\n")
    (line puts ascii "  no grey is off by more than " puts figure (grey_limit (L - r) p) puts ascii " of 255" puts one_shot blocks))
