-- What the desk's programs do with the bytes they are given: which picture a PGM holds, a picture made a record, and bits
-- made a picture, a softer one or a thumbnail of it. The jobs follow one another, and the first refusal ends it.
use Rattle.std.specs.Prelude.{Bool, true, false, not, ◌&&◌, List, ◌++◌, Option, Some, None, ℕ, ◌+◌, ◌-◌, ◌^◌, leb, eqb, ℤ, take, drop, length}
use Rattle.paper.specs.Lists.{pick}
use Rattle.paper.specs.Sizes.{unless, judged}
use Rattle.paper.specs.Block.{Origin}
use Rattle.paper.specs.Jobs.{forward_job, coding_job, writing_job, decoding_job, Inverse, inverse_job, display_job, thumbnail_job}
use Rattle.decoding.specs.declared.Settled.{Settled}
use Rattle.pgm.specs.declared.Header.{Header}
use Rattle.square_pgm.specs.Sides.{most_held, side_of}
use Rattle.desk.specs.declared.Fault.{Fault}
use Rattle.desk.specs.declared.Fault.TheVariants.{NoHeader, Greys, Sides, Missing}
use Rattle.desk.specs.declared.Wanted.{Wanted}
use Rattle.desk.specs.declared.Wanted.TheVariants.{Picture, Softer, Thumbnail}

-- the greys of a square up to the largest that is held; 0 beyond
unfoldable pub area_of : ℕ → ℕ
area_of k = pick (leb k most_held) (4 ^ k) 0

-- what is wrong with a PGM of so many bytes: 1 no header, 2 its greys do not run to 255, 3 no square that is held,
-- 4 greys are missing; bytes behind the raster are not looked at, since more pictures may follow
unfoldable pub fault_of : Option Header → ℕ → ℕ
fault_of None bytes = 1
fault_of (Some header) bytes =
    let k = side_of header.width header.height in
    unless 2 (eqb header.most 255)
    (unless 3 (not (eqb k 0))
    (unless 4 (leb (header.start + area_of k) bytes) 0))

-- that fault with its numbers: of missing greys, how many bytes stand behind the header, if any do, and how many the picture has
unfoldable pub wrong_with : Option Header → ℕ → Fault
wrong_with None bytes = NoHeader
wrong_with (Some header) bytes =
    let k = side_of header.width header.height in
    let came = pick (leb header.start bytes) (Some (bytes - header.start)) None in
    pick (eqb header.most 255)
    (pick (eqb k 0) (Sides header.width header.height) (Missing came (area_of k)))
    (Greys header.most)

-- the k of a header's square; 0 where there is none
abbrev pub size_of : Option Header → ℕ
size_of None = 0
size_of (Some header) = side_of header.width header.height

pub record Finding : Type 0 where
  pub fault : ℕ
  pub k : ℕ

-- its k; 0 where something is wrong
unfoldable pub found_of : Option Header → ℕ → Finding
found_of header bytes =
    judged (fault_of header bytes)
    (λ r. record { fault = r; k = 0 })
    (record { fault = 0; k = size_of header })

-- ---- a picture made a record, and what each buffer then holds
pub record Encoding : Type 0 where
  pub refusal : ℕ
  pub blocks : ℕ
  pub numbers : List ℤ
  pub bytes : List ℕ
  pub room : List ℕ

unfoldable pub encoding_of : ℕ → ℕ → Origin → List ℕ → List ℕ → ℕ → List ℤ → List ℕ → List ℕ → Encoding
encoding_of k L o picture label limit numbers bytes room =
    let f = forward_job k L picture numbers in
    let c = coding_job k L f.numbers limit bytes in
    let w = writing_job k L c.n o label c.bytes c.written room in
    judged f.refusal
    (λ r. record { refusal = r; blocks = 0; numbers = f.numbers; bytes = bytes; room = room })
    (judged c.refusal
    (λ r. record { refusal = r; blocks = 0; numbers = f.numbers; bytes = c.bytes; room = room })
    (record { refusal = w.refusal; blocks = w.blocks; numbers = f.numbers; bytes = c.bytes; room = w.room }))

-- ---- bits made what is wanted: the picture, a softer one, or a thumbnail of it
-- how often its side was halved
abbrev pub halvings_of : Wanted → ℕ
halvings_of Picture = 0
halvings_of Softer = 0
halvings_of (Thumbnail r) = r

-- whether it is the softer picture
abbrev pub wants_softer : Wanted → Bool
wants_softer Picture = false
wants_softer Softer = true
wants_softer (Thumbnail r) = false

-- the job that makes it of the numbers, where p planes are unfinished and the cut fell at `place`
abbrev pub shown_job : Wanted → ℕ → ℕ → ℕ → ℕ → List ℤ → List ℕ → List ℤ → Inverse
shown_job Picture k L p place numbers picture room = inverse_job k L numbers picture room
shown_job Softer k L p place numbers picture room = display_job k L p place numbers picture room
shown_job (Thumbnail r) k L p place numbers picture room = thumbnail_job k L r numbers picture room

pub record Rebuilding : Type 0 where
  pub refusal : ℕ
  pub unfinished : ℕ
  pub read : ℕ
  pub place : ℕ
  pub numbers : List ℤ
  pub picture : List ℕ
  pub room : List ℤ

unfoldable pub rebuilding_of : Wanted → ℕ → ℕ → ℕ → List ℕ → ℕ → List ℤ → List ℕ → List ℤ → Rebuilding
rebuilding_of wanted k L n bytes b numbers picture room =
    let d = decoding_job k L n numbers bytes b in
    let i = shown_job wanted k L d.unfinished d.place d.numbers picture room in
    judged d.refusal
    (λ r. record { refusal = r; unfinished = d.unfinished; read = d.read; place = d.place; numbers = d.numbers; picture = picture; room = room })
    (record { refusal = i.refusal; unfinished = d.unfinished; read = d.read; place = d.place; numbers = d.numbers; picture = i.picture; room = i.room })

-- what the bits settle, where their decoding is not refused
unfoldable pub settled_of : ℕ → ℕ → ℕ → List ℕ → ℕ → List ℤ → Option Settled
settled_of k L n bytes b numbers =
    let d = decoding_job k L n numbers bytes b in
    judged d.refusal
    (λ r. None)
    (Some (record { unfinished = d.unfinished; read = d.read; place = d.place }))

-- ---- the same, with buffers that are as long as the largest picture needs: the front of each is used
-- the picture at a place of the input; 3 where a buffer is too short
unfoldable pub encoding_in : ℕ → ℕ → Origin → List ℕ → ℕ → List ℕ → ℕ → List ℤ → List ℕ → List ℕ → Encoding
encoding_in k L o input start label limit numbers bytes room =
    let area = area_of k in
    let e = encoding_of k L o (take area (drop start input)) label limit (take area numbers) bytes room in
    pick (leb (start + area) (length input) && leb area (length numbers))
    (record { refusal = e.refusal; blocks = e.blocks; numbers = e.numbers ++ drop area numbers; bytes = e.bytes; room = e.room })
    (record { refusal = 3; blocks = 0; numbers = numbers; bytes = bytes; room = room })

-- the numbers are those of the picture, the greys those of what is wanted
unfoldable pub rebuilding_in : Wanted → ℕ → ℕ → ℕ → List ℕ → ℕ → List ℤ → List ℕ → List ℤ → Rebuilding
rebuilding_in wanted k L n bytes b numbers picture room =
    let area = area_of k in
    let shown = area_of (k - halvings_of wanted) in
    let r = rebuilding_of wanted k L n bytes b (take area numbers) (take shown picture) (take shown room) in
    pick (leb area (length numbers) && leb shown (length picture) && leb shown (length room))
    (record {
      refusal = r.refusal;
      unfinished = r.unfinished;
      read = r.read;
      place = r.place;
      numbers = r.numbers ++ drop area numbers;
      picture = r.picture ++ drop shown picture;
      room = r.room ++ drop shown room;
    })
    (record { refusal = 3; unfinished = 0; read = 0; place = 0; numbers = numbers; picture = picture; room = room })

-- what they settle of the picture's numbers; nothing where a buffer is too short
unfoldable pub settled_in : Wanted → ℕ → ℕ → ℕ → List ℕ → ℕ → List ℤ → List ℕ → List ℤ → Option Settled
settled_in wanted k L n bytes b numbers picture room =
    let area = area_of k in
    let shown = area_of (k - halvings_of wanted) in
    pick (leb area (length numbers) && leb shown (length picture) && leb shown (length room))
    (settled_of k L n bytes b (take area numbers))
    None
