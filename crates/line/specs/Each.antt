-- How large the numbers of a line may be.
use Rattle.std.specs.Prelude.{ℕ, ◌/◌, List, ℤ}
use Rattle.paper.specs.Lists.{at}
use Rattle.integer_laws.specs.Order.{Within}
use Rattle.lift.specs.Limit.{step_limit}

-- each number of a list is at most B in size; past the end stands 0
abbrev pub Each : ℕ → List ℤ → Type 0
Each B xs = (i : ℕ) → Within B (at xs i)

-- numbers up to this size go through a line both ways within 32 bits: its steps meet numbers of twice the size
abbrev pub line_limit : ℕ
line_limit = step_limit / 2
