-- Numbers that fit 32 bits through L levels of the 5/3 rule.
use Rattle.std.specs.Prelude.{List, ℕ, ◌*◌, ◌^◌, ◌≤◌, ℤ}
use Rattle.line.specs.Each.{Each, line_limit}

-- what L levels forward make of numbers within M
abbrev pub forth : ℕ → ℕ → ℕ
forth M L = M * 4 ^ L

-- numbers within some size which L levels grow to no more than a line may hold
pub record Fitting (growth : ℕ → ℕ → ℕ) (L : ℕ) (xs : List ℤ) : Type 0 where
  pub most : ℕ
  pub each : Each most xs
  pub small : growth most L ≤ line_limit
