-- `places::squeeze` meets its contract: its first mask and its steps, whatever their masks, tried on each digit of base 4 at each of
-- ten places in either half of a word.
use Prim.Native.Nat.{ℕ, ◌+◌, ◌*◌, ◌/◌, ◌%◌, ◌^◌, ◌<◌, ◌≤◌}
use mathlib.Core.Path.{◌≡◌}
use mathlib.Core.List.{List, [], ◌∷◌}
use native.Mathlib.Nat.{one-le-pow}
use native.Mathlib.Omega.{arith}
use lib.Dec.{T, lit<, lit≤}
use lib.Bits.{bit_and}
use Rattle.paper.specs.Sizes.{most_size}
use Rattle.paper.specs.Places.{column_of, row_of}
use Rattle.places.proofs.Unions.{right, step, steps, keeps_right, keeps_mask, keeps_steps, keeps_then}
use Rattle.places.proofs.Moved.{every, sends, moves, column_moved, row_moved}
use Rattle.places.proofs.Interleaving.{square}
use Rattle.places.proofs.Steps.{area_small}
use Rattle.places.proofs.squeeze.Goals as goal

abbrev four : (a b c d : ℕ) → List (ℕ × ℕ)
four a b c d = (1, a) ∷ (2, b) ∷ (4, c) ∷ (8, d) ∷ []

abbrev masked : (m a b c d : ℕ) → ℕ → ℕ
masked m a b c d w = steps right (four a b c d) (bit_and w m)

-- by any masks that pass: the code has them
squeezes : (m a b c d k z : ℕ) → k ≤ 10 → T (sends 2 1 0 (masked m a b c d) 10) → T (sends 2 1 32 (λ n. masked m a b c d (n * 2 ^ 32)) 10)
    → step right 8 d (step right 4 c (step right 2 b (step right 1 a (bit_and (z % 4 ^ k + z / 2 % 4 ^ k * 2 ^ 32) m)))) ≡ column_of k z + row_of k z * 2 ^ 32
squeezes m a b c d k z h low high =
    rw (column_moved k z, row_moved k z) (moves 1 0 32 10 k (masked m a b c d) (keeps_then (λ w. bit_and w m) (steps right (four a b c d)) (keeps_mask m) (keeps_steps right keeps_right (four a b c d))) (lit≤ tt) (lit≤ tt) low high h z (z / 2))

area : (c : goal.After-side-s) → c.side-s.result * c.side-s.result ≡ 4 ^ c.args.size
area c = rw c.side-s.ensures.value (square c.args.size)

bounds : (c : goal.After-side-s) → (0 < c.side-s.result * c.side-s.result) × (c.side-s.result * c.side-s.result ≤ 4 ^ most_size)
bounds c =
    let k = c.args.size in
    rw (area c) (one-le-pow k 4 (lit< tt), area_small k c.side-s.ensures.most)

pub overflow_add-w : goal.overflow_add-w
overflow_add-w c = omega (arith, bounds c)

pub returns-clause-value : goal.returns-clause-value
unfolding every sends
returns-clause-value c = rw (area c) (squeezes _ _ _ _ _ c.args.size c.args.z (omega arith) tt tt)
