-- The line's error law: two lines whose lows differ by at most a and whose highs differ by at most e come back differing
-- by at most a + e + ceil (e / 2).
use mathlib.Core.Path.{◌≡◌}
use mathlib.Core.List.{List}
use Prim.Native.Nat.{ℕ, ◌+◌, ◌*◌, ◌-◌, ◌/◌, ◌<◌, min}
use native.Mathlib.Omega.{arith}
use lib.ListN.{length}
use lib.IntN.{ℤ}
use Rattle.paper.specs.Lists.{at}
use Rattle.paper.specs.Line.{even_at, odd_at, line_back}
use Rattle.lift.specs.Off.{Off}
use Rattle.lift.proofs.Near.{wider, even_near, odd_near}
use Rattle.line.specs.Rule.{Near}
use Rattle.line.proofs.Lines.{back_even, back_odd}
use Rattle.line.proofs.Pairs.{by_turns}

module _ (h a e : ℕ) (xs ys : List ℤ) (N : Near h (2 * h) a e xs ys) where
  even_at_near : (i : ℕ) → i < h → Off (a + (e + 1) / 2) (even_at xs h i) (even_at ys h i)
  unfolding even_at
  even_at_near i l = even_near (N.low i l) (N.rest (h + (i - 1)) (omega arith) (omega arith)) (N.rest (h + i) (omega arith) (omega arith))

  odd_at_near : (i : ℕ) → i < h → Off (e + (a + (e + 1) / 2)) (odd_at xs h i) (odd_at ys h i)
  unfolding odd_at
  odd_at_near i l = odd_near (N.rest (h + i) (omega arith) (omega arith)) (even_at_near i l) (even_at_near (min (i + 1) (h - 1)) (omega arith))

  pub line_near : length xs ≡ 2 * h → length ys ≡ 2 * h → (z : ℕ) → z < 2 * h → Off (a + e + (e + 1) / 2) (at (line_back xs) z) (at (line_back ys) z)
  line_near p q = by_turns (λ z. Off (a + e + (e + 1) / 2) (at (line_back xs) z) (at (line_back ys) z)) h
      (λ i l. rw (back_even xs h p i l, back_even ys h q i l) (wider (even_at_near i l) (omega arith)))
      (λ i l. rw (back_odd xs h p i l, back_odd ys h q i l) (wider (odd_at_near i l) (omega arith)))
