-- A picture's journey: into a record, and out of what is left of it. Each step is a job; what was lent to it is any list.
use Rattle.std.specs.Prelude.{List, ℕ, ℤ}
use Rattle.paper.specs.Block.{Origin}
use Rattle.paper.specs.Jobs.{forward_job, coding_job, Decoding, decoding_job, Inverse, inverse_job, display_job, thumbnail_job, Writing, writing_job, Read, reading_job}

-- forward, coding up to a bit limit, record writing in the edition asked for
unfoldable pub into_record : ℕ → ℕ → Origin → List ℕ → List ℕ → ℕ → List ℤ → List ℕ → List ℕ → Writing
into_record k L o label picture limit numbers bytes room =
    let f = forward_job k L picture numbers in
    let c = coding_job k L f.numbers limit bytes in
    writing_job k L c.n o label c.bytes c.written room

-- what each step out of a record answers and leaves
pub record Seen : Type 0 where
  pub read : Read
  pub decoded : Decoding
  pub rebuilt : Inverse

-- where it was shot, as the reader gives it
abbrev pub origin_seen : Seen → Origin
origin_seen s = record { edition = s.read.edition; arm = s.read.arm; mount = s.read.mount }

-- record reading, decoding, and the job that makes greys of what was decoded
abbrev pub seen_by : (ℕ → ℕ → Decoding → Inverse) → List ℕ → List ℕ → List ℕ → List ℤ → Seen
seen_by rebuilds label s payload numbers =
    let r = reading_job s label payload in
    let d = decoding_job r.k r.L r.n numbers r.room r.bits in
    record { read = r; decoded = d; rebuilt = rebuilds r.k r.L d }

-- the whole picture: inverse
unfoldable pub out_of_record : List ℕ → List ℕ → List ℕ → List ℤ → List ℕ → List ℤ → Seen
out_of_record label s payload numbers picture room = seen_by (λ k L d. inverse_job k L d.numbers picture room) label s payload numbers

-- the softer picture, with the unfinished planes and the place that decoding gave: display
unfoldable pub softer_out_of_record : List ℕ → List ℕ → List ℕ → List ℤ → List ℕ → List ℤ → Seen
softer_out_of_record label s payload numbers picture room =
    seen_by (λ k L d. display_job k L d.unfinished d.place d.numbers picture room) label s payload numbers

-- the picture with its side halved r times: thumbnail
unfoldable pub thumbnail_out_of_record : ℕ → List ℕ → List ℕ → List ℕ → List ℤ → List ℕ → List ℤ → Seen
thumbnail_out_of_record r label s payload numbers picture room = seen_by (λ k L d. thumbnail_job k L r d.numbers picture room) label s payload numbers
