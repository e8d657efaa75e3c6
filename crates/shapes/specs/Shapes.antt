-- The shapes of lists that the walk cuts, by powers of 4.
use Rattle.std.specs.Prelude.{◌≡◌, List, ℕ, suc, ◌+◌, ◌^◌, ℤ, length}

-- a set, of length 4 ^ suc d
pub record IsSet (xs : List ℤ) : Type 0 where
  pub d : ℕ
  pub is : length xs ≡ 4 ^ suc d

-- the rest, from q = 4 ^ suc d to the end, where q grows fourfold `left` times
pub record IsRest (xs : List ℤ) (q : ℕ) : Type 0 where
  pub d : ℕ
  pub left : ℕ
  pub is : q ≡ 4 ^ suc d
  pub sized : length xs + q ≡ 4 ^ (suc d + left)

-- the whole square, of which the first set has q = 4 ^ suc d places, over L levels
pub record IsSquare (xs : List ℤ) (q : ℕ) : Type 0 where
  pub d : ℕ
  pub L : ℕ
  pub is : q ≡ 4 ^ suc d
  pub sized : length xs ≡ 4 ^ (suc d + L)
