-- The 512-byte block: editions, layout over the place where the payload starts, checks A and B, fields, and the single-block check.
use Rattle.std.specs.Prelude.{Bool, true, false, ◌&&◌, ◌||◌, List, [], ◌∷◌, ◌++◌, ℕ, ◌+◌, ◌*◌, ◌-◌, ◌/◌, ◌%◌, leb, eqb, length, take, drop, get_or}
use Rattle.paper.specs.Sizes.{size_in, levels_in, planes_in, unless}
use Rattle.paper.specs.Lists.{pick}
use Rattle.paper.specs.Bits.{bits, all_zero}

-- ---- the label
-- 0 to 9 or A to Z, in ASCII (02's ticket 2; 01 has digits alone)
unfoldable pub label_character : ℕ → Bool
label_character c = (leb 48 c && leb c 57) || (leb 65 c && leb c 90)

unfoldable pub label_characters : List ℕ → Bool
label_characters [] = true
label_characters (c ∷ l) = label_character c && label_characters l

-- a label is eight characters, leading zeros kept, and never a number
unfoldable pub is_label : List ℕ → Bool
is_label l = eqb (length l) 8 && label_characters l

-- the same bytes, one for one
unfoldable pub same_bytes : List ℕ → List ℕ → Bool
same_bytes [] [] = true
same_bytes [] (w ∷ t) = false
same_bytes (v ∷ s) [] = false
same_bytes (v ∷ s) (w ∷ t) = eqb v w && same_bytes s t

-- ---- editions
-- what a record says of where it was made: its edition, the arm, and the arm's mount number
pub record Origin : Type 0 where
  pub edition : ℕ
  pub arm : ℕ
  pub mount : ℕ

-- editions 1 and 2 (02's ticket 8; 01 has 1 alone)
unfoldable pub edition_in : ℕ → Bool
edition_in e = leb 1 e && leb e 2

-- edition 1 names no arm and no mount
abbrev pub unnamed : ℕ → Bool
unnamed e = eqb e 1

-- arm 1 or 2
unfoldable pub arm_in : ℕ → Bool
arm_in arm = leb 1 arm && leb arm 2

-- the largest mount number: three bytes hold it
abbrev pub most_mount : ℕ
most_mount = 16777215

-- arm and mount are in range; edition 1 ignores them
unfoldable pub origin_in : Origin → Bool
origin_in o = unnamed o.edition || (arm_in o.arm && leb o.mount most_mount)

-- what a record gives back of its origin: arm and mount are 0 in edition 1
abbrev pub given_back : Origin → Origin
given_back o = record { edition = o.edition; arm = pick (unnamed o.edition) 0 o.arm; mount = pick (unnamed o.edition) 0 o.mount }

-- ---- checks
unfoldable pub plain_sum : List ℕ → ℕ
plain_sum [] = 0
plain_sum (v ∷ s) = v + plain_sum s

-- the byte at place j of the list weighs i + j + 1
unfoldable pub weighed_sum : ℕ → List ℕ → ℕ
weighed_sum i [] = 0
weighed_sum i (v ∷ s) = (i + 1) * v + weighed_sum (i + 1) s

-- the largest prime that two bytes hold
abbrev pub modulus : ℕ
modulus = 65521

-- A: the sum modulo 65,521. B: the sum of (i + 1) times byte i, modulo 65,521.
abbrev pub check_a : List ℕ → ℕ
check_a s = plain_sum s % modulus

abbrev pub check_b : List ℕ → ℕ
check_b s = weighed_sum 0 s % modulus

-- ---- the layout
-- a number in two bytes, high byte first
abbrev pub two_bytes : ℕ → List ℕ
two_bytes v = (v / 256 % 256) ∷ (v % 256) ∷ []

-- and in three
abbrev pub three_bytes : ℕ → List ℕ
three_bytes v = (v / 65536 % 256) ∷ two_bytes v

-- the bytes of a block and of its header, and where the checks stand
abbrev pub block_bytes : ℕ
block_bytes = 512

abbrev pub header_bytes : ℕ
header_bytes = 16

abbrev pub checks_start : ℕ
checks_start = 508

-- where the payload starts, which the edition chooses: at byte 16, or behind arm and mount at byte 20
unfoldable pub start_of : ℕ → ℕ
start_of e = pick (unnamed e) header_bytes (header_bytes + 4)

-- how many bytes and bits the payload has, if it starts there
abbrev pub payload_bytes : ℕ → ℕ
payload_bytes start = checks_start - start

abbrev pub payload_bits : ℕ → ℕ
payload_bits start = 8 * payload_bytes start

-- the numbers that two bytes hold: so many blocks can be numbered
abbrev pub numbered_blocks : ℕ
numbered_blocks = 65536

-- bytes 0 to 15: edition, k, L, n, label, block number, payload bits in this block
unfoldable pub header : ℕ → ℕ → ℕ → ℕ → List ℕ → ℕ → ℕ → List ℕ
header e k L n label number count = e ∷ k ∷ L ∷ n ∷ (label ++ (two_bytes number ++ two_bytes count))

-- bytes 16 to 19: the arm and the mount number; nothing in edition 1
unfoldable pub named : Origin → List ℕ
named o = pick (unnamed o.edition) [] (o.arm ∷ three_bytes o.mount)

-- bytes 0 to 507 with A and B behind them
unfoldable pub sealed : List ℕ → List ℕ
sealed body = body ++ (two_bytes (check_a body) ++ two_bytes (check_b body))

-- ---- the fields of a block
abbrev pub byte_at : List ℕ → ℕ → ℕ
byte_at block i = get_or block i 0

abbrev pub pair_at : List ℕ → ℕ → ℕ
pair_at block i = 256 * byte_at block i + byte_at block (i + 1)

abbrev pub triple_at : List ℕ → ℕ → ℕ
triple_at block i = 65536 * byte_at block i + pair_at block (i + 1)

abbrev pub edition_of : List ℕ → ℕ
edition_of block = byte_at block 0

abbrev pub label_of : List ℕ → List ℕ
label_of block = take 8 (drop 4 block)

abbrev pub number_of : List ℕ → ℕ
number_of block = pair_at block 12

abbrev pub count_of : List ℕ → ℕ
count_of block = pair_at block 14

-- what stands between header and payload; the arm and the mount number in it are 0 where there is nothing
unfoldable pub named_of : List ℕ → List ℕ
named_of block = take (start_of (edition_of block) - header_bytes) (drop header_bytes block)

abbrev pub arm_of : List ℕ → ℕ
arm_of block = byte_at (named_of block) 0

abbrev pub mount_of : List ℕ → ℕ
mount_of block = triple_at (named_of block) 1

unfoldable pub payload_of : ℕ → List ℕ → List ℕ
payload_of start block = take (payload_bytes start) (drop start block)

-- A and B are right
unfoldable pub checks_right : List ℕ → Bool
checks_right block =
    eqb (pair_at block checks_start) (check_a (take checks_start block))
    && eqb (pair_at block (checks_start + 2)) (check_b (take checks_start block))

-- the edition is one that there is, and the arm is right where it is named
unfoldable pub origin_right : List ℕ → Bool
origin_right block = edition_in (edition_of block) && (unnamed (edition_of block) || arm_in (arm_of block))

-- what every edition has is right: k, L, n, label, payload count and the unused bits
unfoldable pub fields_right : ℕ → List ℕ → Bool
fields_right start block =
    size_in (byte_at block 1)
    && levels_in (byte_at block 1) (byte_at block 2)
    && planes_in (byte_at block 3)
    && is_label (label_of block)
    && leb (count_of block) (payload_bits start)
    && all_zero (drop (count_of block) (bits (payload_of start block)))

-- all that row 9 asks of a block, whose own edition says where its payload starts
abbrev pub contents_right : List ℕ → Bool
contents_right block = origin_right block && fields_right (start_of (edition_of block)) block

-- why a block can't be taken by itself: 6, 8 or 9; 0 if it can
unfoldable pub block_refusal : List ℕ → ℕ
block_refusal block =
    unless 6 (eqb (length block) block_bytes)
    (unless 8 (checks_right block)
    (unless 9 (contents_right block) 0))
