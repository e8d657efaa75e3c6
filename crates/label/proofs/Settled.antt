-- The code takes whatever it is given, does the jobs, and is settled in full. This is said of each function's own contract, as the
-- checker reads it from src/lib.rt (`Pre` and `Post` of the module `Reads`): it asks nothing of any arguments; an outcome that
-- meets it, the answer in the paper's numbers with every lent place at exit, is the job's; so no second outcome meets it, refused
-- or not, and no second answer. A contract that asked more or said less would leave this unproved.
use mathlib.Core.Path.{◌≡◌, refl, sym, ap, ◌∙◌}
use Rattle.std.specs.Prelude.{ℕ, ℤ, List, Option, None, Some, Result, Ok, Err}
use Rattle.refusals.specs.declared.Refusal.{Refusal}
use Rattle.refusals.specs.Numbers.{refusal_of}
use Rattle.refusals.proofs.Numbers.{by_number, refused_at, answer_at, judged_at}
use Rattle.transform.specs.Answers.{forward_answer, inverse_answer}
use Rattle.coding.specs.declared.Written.{Written}
use Rattle.coding.specs.Answers.{coding_answer}
use Rattle.decoding.specs.declared.Settled.{Settled}
use Rattle.decoding.specs.Answers.{decoding_answer}
use Rattle.reader.specs.Answers.{ended_of as number_ended}
use Rattle.record.specs.declared.Kept.{Kept}
use Rattle.record.specs.Answers.{writing_answer, reading_answer}
use denote.Triple.Clauses.{AtExit}
use contract.Lifetimes.{Lfts}
use borrow.Fn.World.{ArgsD, ResD}
use borrow.Fn.Kinds.{ended_of}
use Rattle.paper.specs.Jobs.{Forward, forward_job, Coding, coding_job, Decoding, decoding_job, Inverse, inverse_job, display_job, thumbnail_job, Writing, writing_job, Read, reading_job, check_job}
use Rattle.label.specs.contracts.forward as forward-fn
use Rattle.label.proofs.forward.Kinds as forward-kinds
use Rattle.label.proofs.forward.Reads as forward-contract
use Rattle.label.specs.contracts.code as code-fn
use Rattle.label.proofs.code.Kinds as code-kinds
use Rattle.label.proofs.code.Reads as code-contract
use Rattle.label.specs.contracts.decode as decode-fn
use Rattle.label.proofs.decode.Kinds as decode-kinds
use Rattle.label.proofs.decode.Reads as decode-contract
use Rattle.label.specs.contracts.inverse as inverse-fn
use Rattle.label.proofs.inverse.Kinds as inverse-kinds
use Rattle.label.proofs.inverse.Reads as inverse-contract
use Rattle.label.specs.contracts.display as display-fn
use Rattle.label.proofs.display.Kinds as display-kinds
use Rattle.label.proofs.display.Reads as display-contract
use Rattle.label.specs.contracts.thumbnail as thumbnail-fn
use Rattle.label.proofs.thumbnail.Kinds as thumbnail-kinds
use Rattle.label.proofs.thumbnail.Reads as thumbnail-contract
use Rattle.label.specs.contracts.write as write-fn
use Rattle.label.proofs.write.Kinds as write-kinds
use Rattle.label.proofs.write.Reads as write-contract
use Rattle.label.specs.contracts.read as read-fn
use Rattle.label.proofs.read.Kinds as read-kinds
use Rattle.label.proofs.read.Reads as read-contract
use Rattle.label.specs.contracts.check as check-fn
use Rattle.label.proofs.check.Kinds as check-kinds
use Rattle.label.proofs.check.Reads as check-contract

-- an outcome, an answer r with the lent places s at exit, that meets a contract at arguments a is the job's
abbrev pub Does : {A R S O : Type 0} → (A → R → S → Type 0) → (A → O) → (R → S → O) → Type 0
Does {A} {R} {S} Post job outcome = (a : A) (r : R) (s : S) → Post a r s → job a ≡ outcome r s

-- whatever the arguments are, a contract asks nothing of them
abbrev pub Takes : {A : Type 0} → (A → Type 0) → Type 0
Takes {A} Pre = (a : A) → Pre a

-- two outcomes that meet a contract at the same arguments are one
abbrev pub OneOutcome : {A R S O : Type 0} → (A → R → S → Type 0) → (R → S → O) → Type 0
OneOutcome {A} {R} {S} Post outcome = (a : A) (r q : R) (s t : S) → Post a r s → Post a q t → outcome r s ≡ outcome q t

pub one_outcome : {A R S O : Type 0} (Post : A → R → S → Type 0) (job : A → O) (outcome : R → S → O) → Does Post job outcome → OneOutcome Post outcome
one_outcome Post job outcome does a r q s t x y = sym (does a r s x) ∙ does a q t y

-- the answers of two such outcomes are one, where an outcome tells its answer
abbrev pub OneAnswer : {A R S : Type 0} → (A → R → S → Type 0) → Type 0
OneAnswer {A} {R} {S} Post = (a : A) (r q : R) (s t : S) → Post a r s → Post a q t → r ≡ q

pub one_answer : {A R S O : Type 0} (Post : A → R → S → Type 0) (job : A → O) (outcome : R → S → O) (answer : O → R) → Does Post job outcome → ((r : R) (s : S) → answer (outcome r s) ≡ r) → OneAnswer Post
one_answer Post job outcome answer does tells a r q s t x y = sym (tells r s) ∙ (ap answer (one_outcome Post job outcome does a r q s t x y) ∙ tells q t)

-- ---- an outcome tells its answer
forward_told : (r : Result ℕ Refusal) (xs : List ℤ) → answer_at (forward_answer r xs).refusal (forward_answer r xs).n ≡ r
forward_told (Ok n) xs = refl
forward_told (Err r) xs = refused_at (Ok 0) Err r

code_told : (r : Result Written Refusal) (bytes : List ℕ) → answer_at (coding_answer r bytes).refusal (record { bits = (coding_answer r bytes).written; n = (coding_answer r bytes).n }) ≡ r
code_told (Ok w) bytes = refl
code_told (Err r) bytes = refused_at (Ok _) Err r

decode_told : (r : Result Settled Refusal) (xs : List ℤ)
    → answer_at (decoding_answer r xs).refusal (record { unfinished = (decoding_answer r xs).unfinished; read = (decoding_answer r xs).read; place = (decoding_answer r xs).place }) ≡ r
decode_told (Ok s) xs = refl
decode_told (Err r) xs = refused_at (Ok _) Err r

write_told : (r : Result ℕ Refusal) (room : List ℕ) → answer_at (writing_answer r room).refusal (writing_answer r room).blocks ≡ r
write_told (Ok n) room = refl
write_told (Err r) room = refused_at (Ok 0) Err r

-- why a run ended, and what was kept, of their numbers
abbrev ended_at : ℕ → Option Refusal
ended_at = by_number None Some

ended_told : (ended : Option Refusal) → ended_at (number_ended ended) ≡ ended
ended_told None = refl
ended_told (Some r) = refused_at None Some r

abbrev kept_at : Read → Kept
kept_at r = record { k = r.k; levels = r.L; n = r.n; blocks = r.blocks; bits = r.bits; ended = ended_at r.ended; edition = r.edition; arm = r.arm; mount = r.mount }

read_told : (r : Result Kept Refusal) (room : List ℕ) → answer_at (reading_answer r room).refusal (kept_at (reading_answer r room)) ≡ r
read_told (Ok x) room = ap Ok (rw (ended_told x.ended))
read_told (Err r) room = refused_at (Ok _) Err r

-- ---- forward: n, and the numbers
abbrev pub forward_job_lem : (κs : Lfts 2) → ArgsD forward-fn.signature κs → Forward
forward_job_lem κs a = forward_job a.0 a.1.0 a.1.1.0.now a.1.1.1.0.now

abbrev pub forward_outcome : (κs : Lfts 2) → ResD forward-fn.signature κs → AtExit (ended_of 2 forward-kinds.ps forward-kinds.r) κs → Forward
forward_outcome κs r s = forward_answer r s.1.1.1.0.now

pub forward_takes : (κs : Lfts 2) → Takes (forward-contract.Pre κs)
forward_takes κs a = tt

pub forward_does : (κs : Lfts 2) → Does (forward-contract.Post κs) (forward_job_lem κs) (forward_outcome κs)
forward_does κs a r s x = x

pub forward_settled : (κs : Lfts 2) → OneOutcome (forward-contract.Post κs) (forward_outcome κs)
forward_settled κs = one_outcome (forward-contract.Post κs) (forward_job_lem κs) (forward_outcome κs) (forward_does κs)

pub forward_answered : (κs : Lfts 2) → OneAnswer (forward-contract.Post κs)
forward_answered κs = one_answer (forward-contract.Post κs) (forward_job_lem κs) (forward_outcome κs) (λ f. answer_at f.refusal f.n) (forward_does κs) (λ r s. forward_told r _)

-- ---- code: the bits written, n, and the bytes
abbrev pub code_job : (κs : Lfts 2) → ArgsD code-fn.signature κs → Coding
code_job κs a = coding_job a.0 a.1.0 a.1.1.0.now a.1.1.1.0 a.1.1.1.1.0.now

abbrev pub code_outcome : (κs : Lfts 2) → ResD code-fn.signature κs → AtExit (ended_of 2 code-kinds.ps code-kinds.r) κs → Coding
code_outcome κs r s = coding_answer r s.1.1.1.1.0.now

pub code_takes : (κs : Lfts 2) → Takes (code-contract.Pre κs)
code_takes κs a = tt

pub code_does : (κs : Lfts 2) → Does (code-contract.Post κs) (code_job κs) (code_outcome κs)
code_does κs a r s x = x

pub code_settled : (κs : Lfts 2) → OneOutcome (code-contract.Post κs) (code_outcome κs)
code_settled κs = one_outcome (code-contract.Post κs) (code_job κs) (code_outcome κs) (code_does κs)

pub code_answered : (κs : Lfts 2) → OneAnswer (code-contract.Post κs)
code_answered κs = one_answer (code-contract.Post κs) (code_job κs) (code_outcome κs) (λ f. answer_at f.refusal (record { bits = f.written; n = f.n })) (code_does κs) (λ r s. code_told r _)

-- ---- decode: the unfinished planes, the bits read, and the numbers
abbrev pub decode_job : (κs : Lfts 2) → ArgsD decode-fn.signature κs → Decoding
decode_job κs a = decoding_job a.0 a.1.0 a.1.1.0 a.1.1.1.0.now a.1.1.1.1.0.now a.1.1.1.1.1.0

abbrev pub decode_outcome : (κs : Lfts 2) → ResD decode-fn.signature κs → AtExit (ended_of 2 decode-kinds.ps decode-kinds.r) κs → Decoding
decode_outcome κs r s = decoding_answer r s.1.1.1.0.now

pub decode_takes : (κs : Lfts 2) → Takes (decode-contract.Pre κs)
decode_takes κs a = tt

pub decode_does : (κs : Lfts 2) → Does (decode-contract.Post κs) (decode_job κs) (decode_outcome κs)
decode_does κs a r s x = x

pub decode_settled : (κs : Lfts 2) → OneOutcome (decode-contract.Post κs) (decode_outcome κs)
decode_settled κs = one_outcome (decode-contract.Post κs) (decode_job κs) (decode_outcome κs) (decode_does κs)

pub decode_answered : (κs : Lfts 2) → OneAnswer (decode-contract.Post κs)
decode_answered κs = one_answer (decode-contract.Post κs) (decode_job κs) (decode_outcome κs) (λ f. answer_at f.refusal (record { unfinished = f.unfinished; read = f.read; place = f.place })) (decode_does κs) (λ r s. decode_told r _)

-- ---- inverse: the picture, and the working room
abbrev pub inverse_job_lem : (κs : Lfts 3) → ArgsD inverse-fn.signature κs → Inverse
inverse_job_lem κs a = inverse_job a.0 a.1.0 a.1.1.0.now a.1.1.1.0.now a.1.1.1.1.0.now

abbrev pub inverse_outcome : (κs : Lfts 3) → ResD inverse-fn.signature κs → AtExit (ended_of 3 inverse-kinds.ps inverse-kinds.r) κs → Inverse
inverse_outcome κs r s = inverse_answer r s.1.1.1.0.now s.1.1.1.1.0.now

pub inverse_takes : (κs : Lfts 3) → Takes (inverse-contract.Pre κs)
inverse_takes κs a = tt

pub inverse_does : (κs : Lfts 3) → Does (inverse-contract.Post κs) (inverse_job_lem κs) (inverse_outcome κs)
inverse_does κs a r s x = x

pub inverse_settled : (κs : Lfts 3) → OneOutcome (inverse-contract.Post κs) (inverse_outcome κs)
inverse_settled κs = one_outcome (inverse-contract.Post κs) (inverse_job_lem κs) (inverse_outcome κs) (inverse_does κs)

pub inverse_answered : (κs : Lfts 3) → OneAnswer (inverse-contract.Post κs)
inverse_answered κs = one_answer (inverse-contract.Post κs) (inverse_job_lem κs) (inverse_outcome κs) (λ f. answer_at f.refusal tt) (inverse_does κs) (λ r s. judged_at r)

-- ---- display: the picture, and the working room
abbrev pub display_job_lem : (κs : Lfts 3) → ArgsD display-fn.signature κs → Inverse
display_job_lem κs a =
    let lent = a.1.1.1.1 in
    display_job a.0 a.1.0 a.1.1.0 a.1.1.1.0 lent.0.now lent.1.0.now lent.1.1.0.now

abbrev pub display_outcome : (κs : Lfts 3) → ResD display-fn.signature κs → AtExit (ended_of 3 display-kinds.ps display-kinds.r) κs → Inverse
display_outcome κs r s = inverse_answer r s.1.1.1.1.1.0.now s.1.1.1.1.1.1.0.now

pub display_takes : (κs : Lfts 3) → Takes (display-contract.Pre κs)
display_takes κs a = tt

pub display_does : (κs : Lfts 3) → Does (display-contract.Post κs) (display_job_lem κs) (display_outcome κs)
display_does κs a r s x = x

pub display_settled : (κs : Lfts 3) → OneOutcome (display-contract.Post κs) (display_outcome κs)
display_settled κs = one_outcome (display-contract.Post κs) (display_job_lem κs) (display_outcome κs) (display_does κs)

pub display_answered : (κs : Lfts 3) → OneAnswer (display-contract.Post κs)
display_answered κs = one_answer (display-contract.Post κs) (display_job_lem κs) (display_outcome κs) (λ f. answer_at f.refusal tt) (display_does κs) (λ r s. judged_at r)

-- ---- thumbnail: the picture, and the working room
abbrev pub thumbnail_job_lem : (κs : Lfts 3) → ArgsD thumbnail-fn.signature κs → Inverse
thumbnail_job_lem κs a = thumbnail_job a.0 a.1.0 a.1.1.0 a.1.1.1.0.now a.1.1.1.1.0.now a.1.1.1.1.1.0.now

abbrev pub thumbnail_outcome : (κs : Lfts 3) → ResD thumbnail-fn.signature κs → AtExit (ended_of 3 thumbnail-kinds.ps thumbnail-kinds.r) κs → Inverse
thumbnail_outcome κs r s = inverse_answer r s.1.1.1.1.0.now s.1.1.1.1.1.0.now

pub thumbnail_takes : (κs : Lfts 3) → Takes (thumbnail-contract.Pre κs)
thumbnail_takes κs a = tt

pub thumbnail_does : (κs : Lfts 3) → Does (thumbnail-contract.Post κs) (thumbnail_job_lem κs) (thumbnail_outcome κs)
thumbnail_does κs a r s x = x

pub thumbnail_settled : (κs : Lfts 3) → OneOutcome (thumbnail-contract.Post κs) (thumbnail_outcome κs)
thumbnail_settled κs = one_outcome (thumbnail-contract.Post κs) (thumbnail_job_lem κs) (thumbnail_outcome κs) (thumbnail_does κs)

pub thumbnail_answered : (κs : Lfts 3) → OneAnswer (thumbnail-contract.Post κs)
thumbnail_answered κs = one_answer (thumbnail-contract.Post κs) (thumbnail_job_lem κs) (thumbnail_outcome κs) (λ f. answer_at f.refusal tt) (thumbnail_does κs) (λ r s. judged_at r)

-- ---- write: the count of blocks, and the room
abbrev pub write_job : (κs : Lfts 3) → ArgsD write-fn.signature κs → Writing
write_job κs a =
    let o = a.1.1.1 in
    let lent = o.1.1.1 in
    writing_job a.0 a.1.0 a.1.1.0 (record { edition = o.0; arm = o.1.0; mount = o.1.1.0 }) lent.0.now lent.1.0.now lent.1.1.0 lent.1.1.1.0.now

abbrev pub write_outcome : (κs : Lfts 3) → ResD write-fn.signature κs → AtExit (ended_of 3 write-kinds.ps write-kinds.r) κs → Writing
write_outcome κs r s = writing_answer r s.1.1.1.1.1.1.1.1.1.0.now

pub write_takes : (κs : Lfts 3) → Takes (write-contract.Pre κs)
write_takes κs a = tt

pub write_does : (κs : Lfts 3) → Does (write-contract.Post κs) (write_job κs) (write_outcome κs)
write_does κs a r s x = x

pub write_settled : (κs : Lfts 3) → OneOutcome (write-contract.Post κs) (write_outcome κs)
write_settled κs = one_outcome (write-contract.Post κs) (write_job κs) (write_outcome κs) (write_does κs)

pub write_answered : (κs : Lfts 3) → OneAnswer (write-contract.Post κs)
write_answered κs = one_answer (write-contract.Post κs) (write_job κs) (write_outcome κs) (λ f. answer_at f.refusal f.blocks) (write_does κs) (λ r s. write_told r _)

-- ---- read: what was kept, and the room
abbrev pub read_job : (κs : Lfts 3) → ArgsD read-fn.signature κs → Read
read_job κs a = reading_job a.0.now a.1.0.now a.1.1.0.now

abbrev pub read_outcome : (κs : Lfts 3) → ResD read-fn.signature κs → AtExit (ended_of 3 read-kinds.ps read-kinds.r) κs → Read
read_outcome κs r s = reading_answer r s.1.1.0.now

pub read_takes : (κs : Lfts 3) → Takes (read-contract.Pre κs)
read_takes κs a = tt

pub read_does : (κs : Lfts 3) → Does (read-contract.Post κs) (read_job κs) (read_outcome κs)
read_does κs a r s x = x

pub read_settled : (κs : Lfts 3) → OneOutcome (read-contract.Post κs) (read_outcome κs)
read_settled κs = one_outcome (read-contract.Post κs) (read_job κs) (read_outcome κs) (read_does κs)

pub read_answered : (κs : Lfts 3) → OneAnswer (read-contract.Post κs)
read_answered κs = one_answer (read-contract.Post κs) (read_job κs) (read_outcome κs) (λ f. answer_at f.refusal (kept_at f)) (read_does κs) (λ r s. read_told r _)

-- ---- check: its number
abbrev pub check_job_lem : (κs : Lfts 1) → ArgsD check-fn.signature κs → ℕ
check_job_lem κs a = check_job a.0.now

abbrev pub check_outcome : (κs : Lfts 1) → ResD check-fn.signature κs → AtExit (ended_of 1 check-kinds.ps check-kinds.r) κs → ℕ
check_outcome κs r s = refusal_of r

pub check_takes : (κs : Lfts 1) → Takes (check-contract.Pre κs)
check_takes κs a = tt

pub check_does : (κs : Lfts 1) → Does (check-contract.Post κs) (check_job_lem κs) (check_outcome κs)
check_does κs a r s x = sym x

pub check_settled : (κs : Lfts 1) → OneOutcome (check-contract.Post κs) (check_outcome κs)
check_settled κs = one_outcome (check-contract.Post κs) (check_job_lem κs) (check_outcome κs) (check_does κs)

pub check_answered : (κs : Lfts 1) → OneAnswer (check-contract.Post κs)
check_answered κs = one_answer (check-contract.Post κs) (check_job_lem κs) (check_outcome κs) (λ f. answer_at f tt) (check_does κs) (λ r s. judged_at r)
