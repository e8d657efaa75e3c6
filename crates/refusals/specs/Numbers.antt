-- The number that the refusal table gives each refusal, and the one that an answer gives: 0 where nothing is refused.
use Rattle.std.specs.Prelude.{ℕ, Result, Ok, Err}
use Rattle.refusals.specs.declared.Refusal.{Refusal}
use Rattle.refusals.specs.declared.Refusal.TheVariants.{Side, Levels, Length, Magnitude, Planes, Room, Label, Check, Field, Turn, Place, Halvings}

-- the row of the table
abbrev pub number_of : Refusal → ℕ
number_of Side = 1
number_of Levels = 2
number_of Length = 3
number_of Magnitude = 4
number_of Planes = 5
number_of Room = 6
number_of Label = 7
number_of Check = 8
number_of Field = 9
number_of Turn = 10
number_of Place = 11
number_of Halvings = 13

-- why an answer is a refusal, and 0 where it is none
abbrev pub refusal_of : {A : Type 0} → Result A Refusal → ℕ
refusal_of (Ok x) = 0
refusal_of (Err r) = number_of r
