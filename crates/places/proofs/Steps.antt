-- Sides and areas within the largest.
use Prim.Native.Nat.{ℕ, ◌^◌, ◌≤◌}
use native.Mathlib.Nat.{pow-le-pow_right}
use lib.Dec.{lit<}
use Rattle.paper.specs.Sizes.{most_size}

pub side_small : (j : ℕ) → j ≤ most_size → 2 ^ j ≤ 2 ^ most_size
side_small j h = pow-le-pow_right {n = 2} (lit< tt) h

pub area_small : (j : ℕ) → j ≤ most_size → 4 ^ j ≤ 4 ^ most_size
area_small j h = pow-le-pow_right {n = 4} (lit< tt) h
