-- A few headers and a number, read by computing what the definitions say.
use Rattle.std.specs.Prelude.{◌≡◌, refl, ℕ, Option, Some, None}
use Rattle.pgm.specs.declared.Header.{Header}
use Rattle.pgm.specs.Ascii.{ascii}
use Rattle.pgm.specs.Header.{is_space, is_line_end, is_digit, is_passed, is_inside, past_space, past_line, with_digit, number_from, whole_number, field_at, raster_at, past_magic, header_of}

abbrev headed : ℕ → ℕ → ℕ → ℕ → Option Header
headed width height most start = Some (record { width = width; height = height; most = most; start = start })

pub record Read : Type 0 where
  -- comments and white space of every kind
  comments : header_of (ascii "P5 # a\n8#b\r\t16 # c\n# d\n 300\n") ≡ headed 8 16 300 28
  -- a comment with its line end for the last white space
  last_comment : header_of (ascii "P5 8 8 255#x\n") ≡ headed 8 8 255 13
  -- the second line end is the raster's first byte
  one_space : header_of (ascii "P5 8 8 255\n\n") ≡ headed 8 8 255 11
  -- a number that is too large to be told from others
  large : header_of (ascii "P5 1234567890 8 255 ") ≡ headed 99999999 8 255 20
  -- no white space behind the magic number
  joined : header_of (ascii "P58 8 255 ") ≡ None
  -- a comment with no line end
  unended : header_of (ascii "P5 8 8 255#x") ≡ None
  -- nothing behind the largest grey
  cut : header_of (ascii "P5 8 8 255") ≡ None
  -- two numbers only
  short : header_of (ascii "P5 8 8 ") ≡ None
  -- a plain PGM
  plain : header_of (ascii "P2 8 8 255 ") ≡ None
  -- the largest mount number
  mount : whole_number (ascii "16777215") ≡ Some 16777215

pub read : Read
unfolding is_space is_line_end is_digit is_passed is_inside past_space past_line with_digit number_from whole_number field_at raster_at past_magic header_of
read = record { comments = refl; last_comment = refl; one_space = refl; large = refl; joined = refl; unended = refl; cut = refl; short = refl; plain = refl; mount = refl }
