-- `places::spread` meets its contract: its steps, whatever their masks, tried on each of ten bits in either half of a word.
use Prim.Native.Nat.{ℕ, ◌+◌, ◌*◌, ◌%◌, ◌^◌, ◌≤◌}
use mathlib.Core.Path.{◌≡◌}
use mathlib.Core.List.{List, [], ◌∷◌}
use native.Mathlib.Omega.{arith}
use lib.Dec.{T, lit≤}
use Rattle.paper.specs.Places.{interleaved}
use Rattle.places.proofs.Unions.{left, step, steps, keeps_left, keeps_steps}
use Rattle.places.proofs.Moved.{every, sends, moves, spread_moved}
use Rattle.places.proofs.spread.Goals as goal

abbrev four : (a b c d : ℕ) → List (ℕ × ℕ)
four a b c d = (8, a) ∷ (4, b) ∷ (2, c) ∷ (1, d) ∷ []

-- by any masks that pass: the code has them
spreads : (a b c d k x y : ℕ) → k ≤ 10 → T (sends 1 2 0 (steps left (four a b c d)) 10) → T (sends 1 2 32 (λ n. steps left (four a b c d) (n * 2 ^ 32)) 10)
    → step left 1 d (step left 2 c (step left 4 b (step left 8 a (x % 2 ^ k + y % 2 ^ k * 2 ^ 32)))) ≡ interleaved k 0 x + interleaved k 0 y * 2 ^ 32
spreads a b c d k x y h low high =
    rw (spread_moved k x, spread_moved k y) (moves 0 1 32 10 k (steps left (four a b c d)) (keeps_steps left keeps_left (four a b c d)) (lit≤ tt) (lit≤ tt) low high h x y)

pub returns-clause-value : goal.returns-clause-value
unfolding every sends
returns-clause-value c = rw c.side-s.ensures.value (spreads _ _ _ _ c.args.size c.args.c c.args.r (omega arith) tt tt)
