-- The number that a run's end has in the refusal table.
use Rattle.std.specs.Prelude.{ℕ, Option, Some, None}
use Rattle.refusals.specs.declared.Refusal.{Refusal}
use Rattle.refusals.specs.Numbers.{number_of}

-- why the run ended, and 0 where no block was refused
abbrev pub ended_of : Option Refusal → ℕ
ended_of None = 0
ended_of (Some r) = number_of r
