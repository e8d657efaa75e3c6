-- The nine jobs. Each definition gives, for every input, the refusal's number and everything that the job answers and
-- leaves in each lent place. Rows of the refusal table stand in the order in which they are judged: lowest number first, but 13
-- between 2 and 3, and of the writer's two rows 9 the edition's before 6.
use Rattle.std.specs.Prelude.{Bool, ◌&&◌, List, ℕ, ◌*◌, ◌-◌, ◌^◌, min, leb, ltb, eqb, ℤ, length, take}
use Rattle.paper.specs.Sizes.{size_in, levels_in, halvings_in, planes_in, numbers_in, most_bits, unless, judged}
use Rattle.paper.specs.Lists.{over}
use Rattle.paper.specs.Square.{numbers_of, greys_of, pictured, thumbnail_of}
use Rattle.paper.specs.Walk.{plane_count, code_of, decode_of, Settled}
use Rattle.paper.specs.Softer.{softer_of}
use Rattle.paper.specs.Bits.{bits, laid}
use Rattle.paper.specs.Block.{is_label, Origin, edition_in, origin_in, byte_at, block_bytes, header_bytes, start_of, payload_bytes, edition_of, arm_of, mount_of, block_refusal}
use Rattle.paper.specs.Record.{blocks_for, record_of, whole_blocks, refusal_at, Run, run_of, bits_kept, payload_kept}

-- rows 1 and 2, which seven jobs judge first
unfoldable pub sizes_refusal : ℕ → ℕ → ℕ → ℕ
sizes_refusal k L later = unless 1 (size_in k) (unless 2 (levels_in k L) later)

-- a slice of S² places
abbrev pub is_square : ℕ → ℕ → Bool
is_square k places = eqb places (4 ^ k)

-- ---- forward: fills the wavelet numbers, gives n
pub record Forward : Type 0 where
  pub refusal : ℕ
  pub n : ℕ
  pub numbers : List ℤ

unfoldable pub forward_refusal : ℕ → ℕ → List ℕ → List ℤ → ℕ
forward_refusal k L picture numbers = sizes_refusal k L (unless 3 (is_square k (length picture) && is_square k (length numbers)) 0)

unfoldable pub forward_job : ℕ → ℕ → List ℕ → List ℤ → Forward
forward_job k L picture numbers =
    judged (forward_refusal k L picture numbers)
    (λ r. record { refusal = r; n = 0; numbers = numbers })
    (record { refusal = 0; n = plane_count (numbers_of k L picture); numbers = numbers_of k L picture })

-- ---- coding: the first min(limit, 8 × bytes lent, total) bits, that count and n
pub record Coding : Type 0 where
  pub refusal : ℕ
  pub written : ℕ
  pub n : ℕ
  pub bytes : List ℕ

unfoldable pub coding_refusal : ℕ → ℕ → List ℤ → ℕ
coding_refusal k L numbers = sizes_refusal k L (unless 3 (is_square k (length numbers)) (unless 4 (numbers_in numbers) 0))

-- the bits written
unfoldable pub written_of : ℕ → ℕ → List ℤ → ℕ → List ℕ → List Bool
written_of k L numbers limit bytes = take (min limit (8 * length bytes)) (code_of k L numbers)

unfoldable pub coding_job : ℕ → ℕ → List ℤ → ℕ → List ℕ → Coding
coding_job k L numbers limit bytes =
    judged (coding_refusal k L numbers)
    (λ r. record { refusal = r; written = 0; n = 0; bytes = bytes })
    (record {
      refusal = 0;
      written = length (written_of k L numbers limit bytes);
      n = plane_count numbers;
      bytes = laid (written_of k L numbers limit bytes) bytes;
    })

-- ---- decoding, of the first b bits: writes all S² numbers, gives unfinished planes, bits read, and the place where the cut fell
pub record Decoding : Type 0 where
  pub refusal : ℕ
  pub unfinished : ℕ
  pub read : ℕ
  pub place : ℕ
  pub numbers : List ℤ

unfoldable pub decoding_refusal : ℕ → ℕ → ℕ → List ℤ → List ℕ → ℕ → ℕ
decoding_refusal k L n numbers bytes b =
    sizes_refusal k L (unless 3 (is_square k (length numbers)) (unless 5 (planes_in n) (unless 6 (leb b (8 * length bytes)) 0)))

-- whatever the number slice held before, it ends with what the bits have settled
abbrev pub settled_job : Settled → Decoding
settled_job s = record { refusal = 0; unfinished = s.unfinished; read = s.read; place = s.place; numbers = s.numbers }

unfoldable pub decoding_job : ℕ → ℕ → ℕ → List ℤ → List ℕ → ℕ → Decoding
decoding_job k L n numbers bytes b =
    judged (decoding_refusal k L n numbers bytes b)
    (λ r. record { refusal = r; unfinished = 0; read = 0; place = 0; numbers = numbers })
    (settled_job (decode_of k L n (take b (bits bytes))))

-- ---- inverse: fills the picture; the working room ends with the greys before they are set into 0 to 255, in Z order
pub record Inverse : Type 0 where
  pub refusal : ℕ
  pub picture : List ℕ
  pub room : List ℤ

-- rows 1 to 4, which display judges first too
abbrev pub picture_refusal : ℕ → ℕ → List ℤ → List ℕ → List ℤ → ℕ → ℕ
picture_refusal k L numbers picture room later =
    sizes_refusal k L
    (unless 3 (is_square k (length numbers) && is_square k (length picture) && is_square k (length room)) (unless 4 (numbers_in numbers) later))

unfoldable pub inverse_refusal : ℕ → ℕ → List ℤ → List ℕ → List ℤ → ℕ
inverse_refusal k L numbers picture room = picture_refusal k L numbers picture room 0

unfoldable pub inverse_job : ℕ → ℕ → List ℤ → List ℕ → List ℤ → Inverse
inverse_job k L numbers picture room =
    judged (inverse_refusal k L numbers picture room)
    (λ r. record { refusal = r; picture = picture; room = room })
    (record { refusal = 0; picture = pictured k (greys_of k L numbers); room = greys_of k L numbers })

-- ---- display: fills the softer picture where p planes are unfinished and the cut fell at `place`; answers and leaves as the inverse
-- 4 judges the stored numbers alone; a place of S² or more is 11, with p = 0 too
unfoldable pub display_refusal : ℕ → ℕ → ℕ → ℕ → List ℤ → List ℕ → List ℤ → ℕ
display_refusal k L p place numbers picture room =
    picture_refusal k L numbers picture room (unless 5 (planes_in p) (unless 11 (ltb place (4 ^ k)) 0))

unfoldable pub display_job : ℕ → ℕ → ℕ → ℕ → List ℤ → List ℕ → List ℤ → Inverse
display_job k L p place numbers picture room =
    judged (display_refusal k L p place numbers picture room)
    (λ r. record { refusal = r; picture = picture; room = room })
    (record { refusal = 0; picture = pictured k (softer_of k L p place numbers); room = softer_of k L p place numbers })

-- ---- thumbnail: fills the picture of side S / 2 ^ r from the first (S / 2 ^ r)² numbers; answers and leaves what the inverse does
-- rows 3 and 4: the numbers are S², the picture and the room are the thumbnail's; numbers behind the first ones are not judged
unfoldable pub thumbnail_refusal : ℕ → ℕ → ℕ → List ℤ → List ℕ → List ℤ → ℕ
thumbnail_refusal k L r numbers picture room =
    sizes_refusal k L
    (unless 13 (halvings_in L r)
    (unless 3 (is_square k (length numbers) && is_square (k - r) (length picture) && is_square (k - r) (length room))
    (unless 4 (numbers_in (take (4 ^ (k - r)) numbers)) 0)))

unfoldable pub thumbnail_job : ℕ → ℕ → ℕ → List ℤ → List ℕ → List ℤ → Inverse
thumbnail_job k L r numbers picture room =
    judged (thumbnail_refusal k L r numbers picture room)
    (λ r. record { refusal = r; picture = picture; room = room })
    (record { refusal = 0; picture = pictured (k - r) (thumbnail_of k L r numbers); room = thumbnail_of k L r numbers })

-- ---- record writing, of b bits, in the edition asked for: the record's blocks at the front of the room, and their count
pub record Writing : Type 0 where
  pub refusal : ℕ
  pub blocks : ℕ
  pub room : List ℕ

unfoldable pub writing_refusal : ℕ → ℕ → ℕ → Origin → List ℕ → List ℕ → ℕ → List ℕ → ℕ
writing_refusal k L n o label bytes b room =
    sizes_refusal k L
    (unless 5 (planes_in n)
    (unless 9 (edition_in o.edition)
    (unless 6 (leb b (8 * length bytes) && leb b (most_bits k n) && leb (block_bytes * blocks_for o.edition b) (length room))
    (unless 7 (is_label label)
    (unless 9 (origin_in o) 0)))))

unfoldable pub writing_job : ℕ → ℕ → ℕ → Origin → List ℕ → List ℕ → ℕ → List ℕ → Writing
writing_job k L n o label bytes b room =
    judged (writing_refusal k L n o label bytes b room)
    (λ r. record { refusal = r; blocks = 0; room = room })
    (record { refusal = 0; blocks = blocks_for o.edition b; room = over (record_of o k L n label (take b (bits bytes))) room })

-- ---- record reading, of any edition: k, L, n, blocks kept, total bits, the number that ended the run, edition, arm and mount (0 and
-- 0 in edition 1); kept payload at the front of the room
pub record Read : Type 0 where
  pub refusal : ℕ
  pub k : ℕ
  pub L : ℕ
  pub n : ℕ
  pub blocks : ℕ
  pub bits : ℕ
  pub ended : ℕ
  pub edition : ℕ
  pub arm : ℕ
  pub mount : ℕ
  pub room : List ℕ

-- the room that is lent for each whole block, whatever its edition: 492
abbrev pub room_bytes : ℕ
room_bytes = payload_bytes header_bytes

-- rows 6 and 7
unfoldable pub lent_refusal : List ℕ → List ℕ → List ℕ → ℕ → ℕ
lent_refusal s label room later =
    unless 6 (leb block_bytes (length s) && leb (room_bytes * whole_blocks s) (length room)) (unless 7 (is_label label) later)

-- if block 0 can't be kept the call is refused by its number
unfoldable pub reading_refusal : List ℕ → List ℕ → List ℕ → ℕ
reading_refusal s label room = lent_refusal s label room (refusal_at s label 0)

-- what is read of a run of edition e
abbrev pub read_run : ℕ → List ℕ → List ℕ → Run → Read
read_run e s room run = record {
  refusal = 0;
  k = byte_at s 1;
  L = byte_at s 2;
  n = byte_at s 3;
  blocks = run.kept;
  bits = bits_kept (start_of e) s run.kept;
  ended = run.ended;
  edition = e;
  arm = arm_of s;
  mount = mount_of s;
  room = over (payload_kept (start_of e) s run.kept) room;
}

abbrev pub read_refused : List ℕ → ℕ → Read
read_refused room r = record { refusal = r; k = 0; L = 0; n = 0; blocks = 0; bits = 0; ended = 0; edition = 0; arm = 0; mount = 0; room = room }

unfoldable pub reading_job : List ℕ → List ℕ → List ℕ → Read
reading_job s label room =
    judged (reading_refusal s label room)
    (read_refused room)
    (read_run (edition_of s) s room (run_of s label))

-- ---- single-block check: 0, or 6, 8 or 9; it doesn't judge 10
abbrev pub check_job : List ℕ → ℕ
check_job block = block_refusal block
