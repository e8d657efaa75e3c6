-- An integer in a signed 32-bit machine number.
use Rattle.std.specs.Prelude.{◌≡◌, ℕ, ◌^◌, ◌<◌, T, ltb, leb, ℤ}
use Rattle.std.proofs.Common.{arith, ltb→lt, leb→le, SFits, to_z, of_z, to_z-of_z}
use Rattle.std.specs.Int.{w32}
use Rattle.integer_laws.specs.Difference.{split}
use Rattle.integer_laws.specs.Order.{Within, zarith}

pub within_fits : {A : ℕ} {z : ℤ} → Within A z → T (ltb A (2 ^ 31)) → SFits w32 z
within_fits {A} {z} h t = fits (ltb→lt A (2 ^ 31) t) h
  where
    fits : {A : ℕ} {z : ℤ} → A < 2 ^ 31 → Within A z → SFits w32 z
    fits {A} {z} = rw (split z) (omega zarith)

-- a number comes back from its bits: `read h tt`
pub read : {A : ℕ} {z : ℤ} → Within A z → T (ltb A (2 ^ 31)) → to_z w32 (of_z w32 z) ≡ z
read h t = to_z-of_z (within_fits h t)

-- and so is passed to a function that requires a size of at most B: `pass h tt tt`
pub pass : {A B : ℕ} {z : ℤ} → Within A z → T (ltb A (2 ^ 31)) → T (leb A B) → Within B (to_z w32 (of_z w32 z))
pass {A} {B} {z} h t u = rw (read h t) (record { size = omega (arith, leb→le A B u) })
