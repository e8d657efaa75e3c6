-- What the answers of forward and inverse, and of the jobs that make a picture, are in the paper's numbers.
use Rattle.std.specs.Prelude.{List, ℕ, ℤ, Result, Ok, Err}
use Rattle.refusals.specs.declared.Refusal.{Refusal}
use Rattle.refusals.specs.Numbers.{number_of, refusal_of}
use Rattle.paper.specs.Jobs.{Forward, Inverse}

-- n and the wavelet numbers, or a refusal's number and 0
abbrev pub forward_answer : Result ℕ Refusal → List ℤ → Forward
forward_answer (Ok n) numbers = record { refusal = 0; n = n; numbers = numbers }
forward_answer (Err r) numbers = record { refusal = number_of r; n = 0; numbers = numbers }

-- a refusal's number or 0, with the picture and the working room
abbrev pub inverse_answer : {A : Type 0} → Result A Refusal → List ℕ → List ℤ → Inverse
inverse_answer r picture room = record { refusal = refusal_of r; picture = picture; room = room }
