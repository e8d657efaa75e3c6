-- Signed 32-bit numbers that take a plane's weight.
use mathlib.Core.Path.{◌≡◌, ap, ◌∙◌}
use mathlib.Core.Bool.{Bool}
use Prim.Native.Nat.{ℕ, suc, ◌+◌, ◌^◌, ◌<◌, ◌≤◌}
use native.Mathlib.Omega.{arith}
use native.Mathlib.Nat.{pow-succ'}
use lib.Pow.{pow_pos}
use lib.IntN.{ℤ, nat_abs}
use mir.Syntax.{w32}
use mir.Val.{to_z, of_z}
use Rattle.paper.specs.Sizes.{most_planes, number_limit}
use Rattle.paper.specs.Walk.{signed}
use Rattle.integer_laws.specs.Order.{Within}
use Rattle.integer_laws.specs.Machine.{read}
use Rattle.walk_laws.specs.Cleared.{nat_abs_signed}

-- a machine number as the proofs have it
abbrev pub kept : ℤ → ℤ
kept x = to_z w32 (of_z w32 x)

pub within : (y : ℤ) → nat_abs y < 2 ^ most_planes → Within number_limit y
within y h = record { size = omega arith }

-- ---- a number that leaves room for 2 ^ suc p
module _ (x : ℤ) (p : ℕ) (h : nat_abs x + 2 ^ suc p ≤ 2 ^ most_planes) where
  pub held : kept x ≡ x
  held = read (within x (omega (arith, pow_pos (suc p)))) tt

  pub takes : (t : ℕ) → t ≡ 2 ^ p → nat_abs x + t < 2 ^ most_planes
  takes t e = omega (arith, pow_pos p, pow-succ' 2 p)

  pub takes_kept : (t : ℕ) → t ≡ 2 ^ p → nat_abs (kept x) + t < 2 ^ 31
  takes_kept t e = rw held (omega (arith, takes t e))

-- a number made of sign and magnitude comes back from its bits
pub kept_signed : (r : ℤ) (s : Bool) (m : ℕ) → r ≡ signed s m → m < 2 ^ most_planes → kept r ≡ signed s m
kept_signed r s m e h = ap kept e ∙ read (within (signed s m) (omega (arith, nat_abs_signed s m))) tt
