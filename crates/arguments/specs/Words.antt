-- Words of a command line.
use Rattle.std.specs.Prelude.{Bool, not, ◌&&◌, List, ℕ, eqb, length, get_or}

-- an option begins with a dash, as no label does
unfoldable pub is_option : List ℕ → Bool
is_option word = not (eqb (length word) 0) && eqb (get_or word 0 0) 45
