-- The header of a binary PGM (P5) as netpbm reads it, a definition to each of the format's sentences.
-- A place counts bytes from the front of the file. What is missing is `None`.
use Rattle.std.specs.Prelude.{Bool, true, false, not, ◌&&◌, ◌||◌, List, [], ◌∷◌, ℕ, suc, ◌+◌, ◌*◌, ◌-◌, min, leb, eqb, length, drop, get_or, Option, Some, None, option_and_then}
use Rattle.paper.specs.Lists.{pick}
use Rattle.pgm.specs.declared.Number.{Number}
use Rattle.pgm.specs.declared.Header.{Header}

-- the next sentence begins where the one before it ended, and nothing follows what is missing
infixl 10 ◌>>=◌
abbrev pub ◌>>=◌ : {A B : Type 0} → Option A → (A → Option B) → Option B
o >>= f = option_and_then f o

-- white space is blank, TAB, LF, VT, FF or CR
unfoldable pub is_space : ℕ → Bool
is_space c = eqb c 32 || (leb 9 c && leb c 13)

-- a line ends with LF or CR
unfoldable pub is_line_end : ℕ → Bool
is_line_end c = eqb c 10 || eqb c 13

-- a comment begins with '#'
abbrev pub is_hash : ℕ → Bool
is_hash c = eqb c 35

unfoldable pub is_digit : ℕ → Bool
is_digit c = leb 48 c && leb c 57

-- white space and comments are passed over
unfoldable pub is_passed : Bool → ℕ → Bool
is_passed true c = true
is_passed false c = is_hash c || is_space c

-- is the byte after c in a comment? A comment runs to the line end
unfoldable pub is_inside : Bool → ℕ → Bool
is_inside true c = not (is_line_end c)
is_inside false c = is_hash c

-- the place of the first byte that is not passed over, in the bytes s from place `at` on
unfoldable pub past_space : Bool → ℕ → List ℕ → ℕ
past_space inside at [] = at
past_space inside at (c ∷ s) = pick (is_passed inside c) (past_space (is_inside inside c) (suc at) s) at

-- the place behind the next line end
unfoldable pub past_line : ℕ → List ℕ → Option ℕ
past_line at [] = None
past_line at (c ∷ s) = pick (is_line_end c) (Some (suc at)) (past_line (suc at) s)

-- the largest number; all beyond it are taken for it
abbrev pub most_number : ℕ
most_number = 99999999

-- a number with one digit more
unfoldable pub with_digit : ℕ → ℕ → ℕ
with_digit value c = min most_number (10 * value + (c - 48))

-- the digits at the front of s, and the place behind them
unfoldable pub number_from : ℕ → ℕ → List ℕ → Number
number_from value at [] = record { value = value; next = at }
number_from value at (c ∷ s) = pick (is_digit c) (number_from (with_digit value c) (suc at) s) (record { value = value; next = at })

-- a text that is digits and nothing else, and not empty
unfoldable pub whole_number : List ℕ → Option ℕ
whole_number s =
    let number = number_from 0 0 s in
    pick (eqb (length s) 0) None (pick (eqb number.next (length s)) (Some number.value) None)

-- a number of the header stands behind white space or comments, and has a digit
unfoldable pub field_at : List ℕ → ℕ → Option Number
field_at s at =
    let from = past_space false at (drop at s) in
    let number = number_from 0 from (drop from s) in
    pick (eqb from at || eqb number.next from) None (Some number)

-- the raster stands behind exactly one white space byte, or behind one comment with its line end
unfoldable pub raster_at : List ℕ → ℕ → Option ℕ
raster_at s at =
    let c = get_or s at 0 in
    pick (is_space c) (Some (suc at)) (pick (is_hash c) (past_line (suc at) (drop (suc at) s)) None)

-- the place behind the magic number, "P5"
unfoldable pub past_magic : List ℕ → Option ℕ
past_magic s = pick (eqb (get_or s 0 0) 80 && eqb (get_or s 1 0) 53) (Some 2) None

-- magic number, width, height, the largest grey ("maxval"), raster
unfoldable pub header_of : List ℕ → Option Header
header_of s = do
  place ← past_magic s
  width ← field_at s place
  height ← field_at s width.next
  most ← field_at s height.next
  start ← raster_at s most.next
  Some (record { width = width.value; height = height.value; most = most.value; start = start })
