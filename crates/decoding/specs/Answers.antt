-- What an answer of the job decoding is on the paper.
use Rattle.std.specs.Prelude.{List, ℤ, Result, Ok, Err}
use Rattle.paper.specs.Jobs.{Decoding}
use Rattle.refusals.specs.declared.Refusal.{Refusal}
use Rattle.refusals.specs.Numbers.{number_of}
use Rattle.decoding.specs.declared.Settled.{Settled}

-- the numbers and what was settled; or why it was refused, with nothing read
abbrev pub decoding_answer : Result Settled Refusal → List ℤ → Decoding
decoding_answer (Ok s) numbers = record { refusal = 0; unfinished = s.unfinished; read = s.read; place = s.place; numbers = numbers }
decoding_answer (Err r) numbers = record { refusal = number_of r; unfinished = 0; read = 0; place = 0; numbers = numbers }
