-- How far two numbers are apart, as two one-sided facts: `omega` reads either with no case split.
use Rattle.std.specs.Prelude.{ℕ, ℤ, pos, ◌+ℤ◌, ◌≤ℤ◌}

-- x is at most B more than y
pub record Over (B : ℕ) (x y : ℤ) : Type 0 where
  pub over : x ≤ℤ (y +ℤ pos B)

-- x and y differ by at most B
pub record Off (B : ℕ) (x y : ℤ) : Type 0 where
  pub up : Over B x y
  pub down : Over B y x
