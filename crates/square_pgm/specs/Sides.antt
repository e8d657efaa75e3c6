-- The squares of the programs, of side 2 ^ k: the pictures that their buffers hold, with sides of 8 to 64, k from 3 to 6; and what
-- decode shows, those or a thumbnail, with sides of 2 to 64.
use Rattle.std.specs.Prelude.{Bool, ◌&&◌, ℕ, zero, suc, ◌^◌, leb, eqb}
use Rattle.paper.specs.Lists.{pick}

-- the largest k that is held
abbrev pub most_held : ℕ
most_held = 6

-- the squares that are shown: k from 1 to 6
unfoldable pub shown_size : ℕ → Bool
shown_size k = leb 1 k && leb k most_held

-- the k with 2 ^ k = side among the `count` numbers from `from` on; 0 if there is none
unfoldable pub size_among : ℕ → ℕ → ℕ → ℕ
size_among zero from side = 0
size_among (suc count) from side = pick (eqb side (2 ^ from)) from (size_among count (suc from) side)

-- the k of a picture that is held; 0 if it is none
unfoldable pub side_of : ℕ → ℕ → ℕ
side_of width height = pick (eqb width height) (size_among 4 3 width) 0
