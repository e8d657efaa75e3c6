-- The exported functions take whatever they are given, do the jobs, and are settled in full. What an outcome is, and what this says, stands in
-- label/proofs/Settled.antt; here it is about the contracts of what the archive exports.
use mathlib.Core.Path.{sym}
use contract.Lifetimes.{Lfts}
use denote.Triple.Clauses.{AtExit}
use borrow.Fn.World.{ResD}
use borrow.Fn.Kinds.{ended_of}
use Rattle.std.specs.Prelude.{ℕ}
use Rattle.paper.specs.Jobs.{Forward, Coding, Decoding, Inverse, Writing, Read}
use Rattle.label.proofs.Settled.{Takes, Does, OneOutcome, one_outcome, forward_job_lem, code_job, decode_job, inverse_job_lem, display_job_lem, thumbnail_job_lem, write_job, read_job, check_job_lem}
use Rattle.console.specs.contracts.label_forward as forward-fn
use Rattle.console.proofs.label_forward.Kinds as forward-kinds
use Rattle.console.specs.contracts.label_code as code-fn
use Rattle.console.proofs.label_code.Kinds as code-kinds
use Rattle.console.specs.contracts.label_decode as decode-fn
use Rattle.console.proofs.label_decode.Kinds as decode-kinds
use Rattle.console.specs.contracts.label_inverse as inverse-fn
use Rattle.console.proofs.label_inverse.Kinds as inverse-kinds
use Rattle.console.specs.contracts.label_display as display-fn
use Rattle.console.proofs.label_display.Kinds as display-kinds
use Rattle.console.specs.contracts.label_thumbnail as thumbnail-fn
use Rattle.console.proofs.label_thumbnail.Kinds as thumbnail-kinds
use Rattle.console.specs.contracts.label_write as write-fn
use Rattle.console.proofs.label_write.Kinds as write-kinds
use Rattle.console.specs.contracts.label_read as read-fn
use Rattle.console.proofs.label_read.Kinds as read-kinds
use Rattle.console.specs.contracts.label_block_check as check-fn
use Rattle.console.proofs.label_block_check.Kinds as check-kinds
use Rattle.console.proofs.label_forward.Reads as label_forward
use Rattle.console.proofs.label_code.Reads as label_code
use Rattle.console.proofs.label_decode.Reads as label_decode
use Rattle.console.proofs.label_inverse.Reads as label_inverse
use Rattle.console.proofs.label_display.Reads as label_display
use Rattle.console.proofs.label_thumbnail.Reads as label_thumbnail
use Rattle.console.proofs.label_write.Reads as label_write
use Rattle.console.proofs.label_read.Reads as label_read
use Rattle.console.proofs.label_block_check.Reads as label_block_check

abbrev pub forward_outcome : (κs : Lfts 2) → ResD forward-fn.signature κs → AtExit (ended_of 2 forward-kinds.ps forward-kinds.r) κs → Forward
forward_outcome κs r s = record { refusal = r.refusal; n = r.n; numbers = s.1.1.1.0.now }

pub forward_takes : (κs : Lfts 2) → Takes (label_forward.Pre κs)
forward_takes κs a = tt

pub forward_does : (κs : Lfts 2) → Does (label_forward.Post κs) (forward_job_lem κs) (forward_outcome κs)
forward_does κs a r s x = x

pub forward_settled : (κs : Lfts 2) → OneOutcome (label_forward.Post κs) (forward_outcome κs)
forward_settled κs = one_outcome (label_forward.Post κs) (forward_job_lem κs) (forward_outcome κs) (forward_does κs)

abbrev pub code_outcome : (κs : Lfts 2) → ResD code-fn.signature κs → AtExit (ended_of 2 code-kinds.ps code-kinds.r) κs → Coding
code_outcome κs r s = record { refusal = r.refusal; written = r.bits; n = r.n; bytes = s.1.1.1.1.0.now }

pub code_takes : (κs : Lfts 2) → Takes (label_code.Pre κs)
code_takes κs a = tt

pub code_does : (κs : Lfts 2) → Does (label_code.Post κs) (code_job κs) (code_outcome κs)
code_does κs a r s x = x

pub code_settled : (κs : Lfts 2) → OneOutcome (label_code.Post κs) (code_outcome κs)
code_settled κs = one_outcome (label_code.Post κs) (code_job κs) (code_outcome κs) (code_does κs)

abbrev pub decode_outcome : (κs : Lfts 2) → ResD decode-fn.signature κs → AtExit (ended_of 2 decode-kinds.ps decode-kinds.r) κs → Decoding
decode_outcome κs r s = record { refusal = r.refusal; unfinished = r.unfinished; read = r.read; place = r.place; numbers = s.1.1.1.0.now }

pub decode_takes : (κs : Lfts 2) → Takes (label_decode.Pre κs)
decode_takes κs a = tt

pub decode_does : (κs : Lfts 2) → Does (label_decode.Post κs) (decode_job κs) (decode_outcome κs)
decode_does κs a r s x = x

pub decode_settled : (κs : Lfts 2) → OneOutcome (label_decode.Post κs) (decode_outcome κs)
decode_settled κs = one_outcome (label_decode.Post κs) (decode_job κs) (decode_outcome κs) (decode_does κs)

abbrev pub inverse_outcome : (κs : Lfts 3) → ResD inverse-fn.signature κs → AtExit (ended_of 3 inverse-kinds.ps inverse-kinds.r) κs → Inverse
inverse_outcome κs r s = record { refusal = r; picture = s.1.1.1.0.now; room = s.1.1.1.1.0.now }

pub inverse_takes : (κs : Lfts 3) → Takes (label_inverse.Pre κs)
inverse_takes κs a = tt

pub inverse_does : (κs : Lfts 3) → Does (label_inverse.Post κs) (inverse_job_lem κs) (inverse_outcome κs)
inverse_does κs a r s x = x

pub inverse_settled : (κs : Lfts 3) → OneOutcome (label_inverse.Post κs) (inverse_outcome κs)
inverse_settled κs = one_outcome (label_inverse.Post κs) (inverse_job_lem κs) (inverse_outcome κs) (inverse_does κs)

abbrev pub display_outcome : (κs : Lfts 3) → ResD display-fn.signature κs → AtExit (ended_of 3 display-kinds.ps display-kinds.r) κs → Inverse
display_outcome κs r s = record { refusal = r; picture = s.1.1.1.1.1.0.now; room = s.1.1.1.1.1.1.0.now }

pub display_takes : (κs : Lfts 3) → Takes (label_display.Pre κs)
display_takes κs a = tt

pub display_does : (κs : Lfts 3) → Does (label_display.Post κs) (display_job_lem κs) (display_outcome κs)
display_does κs a r s x = x

pub display_settled : (κs : Lfts 3) → OneOutcome (label_display.Post κs) (display_outcome κs)
display_settled κs = one_outcome (label_display.Post κs) (display_job_lem κs) (display_outcome κs) (display_does κs)

abbrev pub thumbnail_outcome : (κs : Lfts 3) → ResD thumbnail-fn.signature κs → AtExit (ended_of 3 thumbnail-kinds.ps thumbnail-kinds.r) κs → Inverse
thumbnail_outcome κs r s = record { refusal = r; picture = s.1.1.1.1.0.now; room = s.1.1.1.1.1.0.now }

pub thumbnail_takes : (κs : Lfts 3) → Takes (label_thumbnail.Pre κs)
thumbnail_takes κs a = tt

pub thumbnail_does : (κs : Lfts 3) → Does (label_thumbnail.Post κs) (thumbnail_job_lem κs) (thumbnail_outcome κs)
thumbnail_does κs a r s x = x

pub thumbnail_settled : (κs : Lfts 3) → OneOutcome (label_thumbnail.Post κs) (thumbnail_outcome κs)
thumbnail_settled κs = one_outcome (label_thumbnail.Post κs) (thumbnail_job_lem κs) (thumbnail_outcome κs) (thumbnail_does κs)

abbrev pub write_outcome : (κs : Lfts 3) → ResD write-fn.signature κs → AtExit (ended_of 3 write-kinds.ps write-kinds.r) κs → Writing
write_outcome κs r s = record { refusal = r.refusal; blocks = r.blocks; room = s.1.1.1.1.1.1.1.1.1.0.now }

pub write_takes : (κs : Lfts 3) → Takes (label_write.Pre κs)
write_takes κs a = tt

pub write_does : (κs : Lfts 3) → Does (label_write.Post κs) (write_job κs) (write_outcome κs)
write_does κs a r s x = x

pub write_settled : (κs : Lfts 3) → OneOutcome (label_write.Post κs) (write_outcome κs)
write_settled κs = one_outcome (label_write.Post κs) (write_job κs) (write_outcome κs) (write_does κs)

abbrev pub read_outcome : (κs : Lfts 3) → ResD read-fn.signature κs → AtExit (ended_of 3 read-kinds.ps read-kinds.r) κs → Read
read_outcome κs r s = record { refusal = r.refusal; k = r.k; L = r.levels; n = r.n; blocks = r.blocks; bits = r.bits; ended = r.ended; edition = r.edition; arm = r.arm; mount = r.mount; room = s.1.1.0.now }

pub read_takes : (κs : Lfts 3) → Takes (label_read.Pre κs)
read_takes κs a = tt

pub read_does : (κs : Lfts 3) → Does (label_read.Post κs) (read_job κs) (read_outcome κs)
read_does κs a r s x = x

pub read_settled : (κs : Lfts 3) → OneOutcome (label_read.Post κs) (read_outcome κs)
read_settled κs = one_outcome (label_read.Post κs) (read_job κs) (read_outcome κs) (read_does κs)

abbrev pub check_outcome : (κs : Lfts 1) → ResD check-fn.signature κs → AtExit (ended_of 1 check-kinds.ps check-kinds.r) κs → ℕ
check_outcome κs r s = r

pub check_takes : (κs : Lfts 1) → Takes (label_block_check.Pre κs)
check_takes κs a = tt

pub check_does : (κs : Lfts 1) → Does (label_block_check.Post κs) (check_job_lem κs) (check_outcome κs)
check_does κs a r s x = sym x

pub check_settled : (κs : Lfts 1) → OneOutcome (label_block_check.Post κs) (check_outcome κs)
check_settled κs = one_outcome (label_block_check.Post κs) (check_job_lem κs) (check_outcome κs) (check_does κs)
