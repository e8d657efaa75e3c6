-- How many blocks of m bits hold b bits, and how many bits the first of them hold.
use Rattle.std.specs.Prelude.{◌≡◌, ℕ, zero, suc, ◌+◌, ◌*◌, ◌-◌, ◌<◌, ◌≤◌, min, max}
use Rattle.std.proofs.Common.{mul-suc, mul-zero, mul_assoc, mul-le-mul_left, mod-lt, arith}
use Rattle.std.proofs.Math.Nat.{lt_of_mul-lt-mul_left, div-add-mod, le-max_right}
use Rattle.std.proofs.Math.Decide.{dec_le}
use Rattle.paper.specs.Lists.{parts}

module _ (m b : ℕ) (some : 0 < m) where
  -- they hold all bits, and before each but the first stand fewer
  pub blocks_hold : b ≤ m * max 1 (parts b m)
  blocks_hold = omega (arith, div-add-mod (b + (m - 1)) m, mod-lt (b + (m - 1)) some, mul-le-mul_left m (le-max_right 1 (parts b m)))

  pub bits_before : (i : ℕ) → i < max 1 (parts b m) → m * i ≤ b
  bits_before zero h = omega (arith, mul-zero m)
  bits_before (suc i) h = omega (arith, mul-suc m (suc i), mul-le-mul_left {m = suc (suc i)} {n = parts b m} m (omega arith), div-add-mod (b + (m - 1)) m)

  -- as many as are numbered hold no more
  pub blocks_numbered : (most i : ℕ) → 0 < most → b ≤ m * most → i < max 1 (parts b m) → i < most
  blocks_numbered most zero n h g = n
  blocks_numbered most (suc i) n h g =
      lt_of_mul-lt-mul_left m (omega (arith, mul-suc m (suc i), mul-le-mul_left {m = suc (suc i)} {n = parts b m} m (omega arith), div-add-mod (b + (m - 1)) m))

  pub blocks_few : (most : ℕ) → 0 < most → b ≤ m * most → max 1 (parts b m) ≤ most
  blocks_few most n h = elim (dec_le (max 1 (parts b m)) most) [ yes k ↦ k | no k ↦ absurd (let z : most < most = blocks_numbered most most n h (omega arith) in omega arith) ]

  -- the bits of the first blocks, and those of one more
  pub bits_more : (i : ℕ) → i < max 1 (parts b m) → m * i + min m (b - m * i) ≡ min b (m * suc i)
  bits_more i h = omega (arith, mul-suc m i, bits_before i h)

  pub bits_full : (i : ℕ) → suc i < max 1 (parts b m) → min m (b - m * i) ≡ m
  bits_full i h = omega (arith, mul-suc m i, bits_before (suc i) h)

-- j blocks of p bytes hold no more than their bytes, and fill them where there are more bits
pub bytes_few : (p b j : ℕ) → parts (min b (8 * p * j)) 8 ≤ p * j
bytes_few p b j = omega (arith, mul_assoc 8 p j)

pub bytes_filled : (p b j : ℕ) → 8 * p * j ≤ b → 8 * parts (min b (8 * p * j)) 8 ≤ min b (8 * p * j)
bytes_filled p b j h = omega (arith, mul_assoc 8 p j)
