-- What an answer of the job coding is on the paper.
use Rattle.std.specs.Prelude.{List, ℕ, Result, Ok, Err}
use Rattle.paper.specs.Jobs.{Coding}
use Rattle.refusals.specs.declared.Refusal.{Refusal}
use Rattle.refusals.specs.Numbers.{number_of}
use Rattle.coding.specs.declared.Written.{Written}

-- the bytes and what was written; or why it was refused, with nothing written
abbrev pub coding_answer : Result Written Refusal → List ℕ → Coding
coding_answer (Ok w) bytes = record { refusal = 0; written = w.bits; n = w.n; bytes = bytes }
coding_answer (Err r) bytes = record { refusal = number_of r; written = 0; n = 0; bytes = bytes }
