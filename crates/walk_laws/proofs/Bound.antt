-- How many bits a coding has: the bound of its planes, said of the whole.
use Rattle.std.specs.Prelude.{◌≡◌, List, ℤ}
use Prim.Native.Nat.{ℕ, ◌^◌, ◌≤◌, ◌<◌}
use Rattle.std.proofs.Math.ListN.{length}
use Rattle.paper.specs.Sizes.{most_bits}
use Rattle.paper.specs.Walk.{code_of, plane_count, depth}
use Rattle.walk_laws.specs.Asks.{square_sized}
use Rattle.walk_laws.specs.Bound.{planes_bound}

-- A coding has at most n (4 S² - 1) / 3 + S² bits.
pub coding_bound : (k L : ℕ) (xs : List ℤ) → L < k → length xs ≡ 4 ^ k → length (code_of k L xs) ≤ most_bits k (plane_count xs)
unfolding code_of most_bits
coding_bound k L xs levels square =
    rw square at (planes_bound (depth k L) L xs (square_sized k L xs levels square) (plane_count xs))
