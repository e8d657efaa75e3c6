-- What an answer of the desk is in the numbers of its definitions.
use Rattle.std.specs.Prelude.{List, ℕ, ℤ, Option, Some, None, Result, Ok, Err}
use Rattle.refusals.specs.declared.Refusal.{Refusal}
use Rattle.refusals.specs.Numbers.{number_of}
use Rattle.decoding.specs.declared.Settled.{Settled}
use Rattle.desk.specs.declared.Found.{Found}
use Rattle.desk.specs.declared.Fault.{Fault}
use Rattle.desk.specs.declared.Fault.TheVariants.{NoHeader, Greys, Sides, Missing}
use Rattle.desk.specs.declared.Unshown.{Unshown}
use Rattle.desk.specs.Desk.{Finding, Encoding, Rebuilding}

-- 1 no header, 2 its greys do not run to 255, 3 no square that is held, 4 greys are missing
abbrev pub fault_number : Fault → ℕ
fault_number NoHeader = 1
fault_number (Greys most) = 2
fault_number (Sides width height) = 3
fault_number (Missing came wanted) = 4

-- the picture's k, or what is wrong and 0
abbrev pub found_answer : Result Found Fault → Finding
found_answer (Ok found) = record { fault = 0; k = found.k }
found_answer (Err fault) = record { fault = fault_number fault; k = 0 }

-- the blocks written, or why none was; and what each buffer then holds
abbrev pub encoding_answer : Result ℕ Refusal → List ℤ → List ℕ → List ℕ → Encoding
encoding_answer (Ok blocks) numbers bytes room = record { refusal = 0; blocks = blocks; numbers = numbers; bytes = bytes; room = room }
encoding_answer (Err r) numbers bytes room = record { refusal = number_of r; blocks = 0; numbers = numbers; bytes = bytes; room = room }

-- what was settled, with a refusal's number or 0, and what each buffer then holds; 0 for all of it where nothing was decoded
abbrev pub settled_answer : ℕ → Option Settled → List ℤ → List ℕ → List ℤ → Rebuilding
settled_answer refusal None numbers picture room = record { refusal = refusal; unfinished = 0; read = 0; place = 0; numbers = numbers; picture = picture; room = room }
settled_answer refusal (Some s) numbers picture room = record { refusal = refusal; unfinished = s.unfinished; read = s.read; place = s.place; numbers = numbers; picture = picture; room = room }

abbrev pub rebuilding_answer : Result Settled Unshown → List ℤ → List ℕ → List ℤ → Rebuilding
rebuilding_answer (Ok s) numbers picture room = settled_answer 0 (Some s) numbers picture room
rebuilding_answer (Err u) numbers picture room = settled_answer (number_of u.refusal) u.settled numbers picture room
