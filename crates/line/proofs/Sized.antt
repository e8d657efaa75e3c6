-- Sizes of a list's numbers: only the places of the list count.
use Prim.Native.Nat.{ℕ, ◌<◌}
use mathlib.Core.List.{List}
use native.Mathlib.Omega.{arith}
use native.Mathlib.Decide.{dec_lt}
use lib.ListN.{length, get_or-eq_default}
use lib.IntN.{ℤ, pos}
use Rattle.paper.specs.Lists.{made, at}
use Rattle.integer_laws.specs.Order.{Within}
use Rattle.lift.proofs.Steps.{zero_within}
use Rattle.list_laws.specs.Made.{length_made, get_d_made}
use Rattle.line.specs.Each.{Each}

pub each_below : {B : ℕ} (xs : List ℤ) → ((i : ℕ) → i < length xs → Within B (at xs i)) → Each B xs
each_below {B} xs E i = go (dec_lt i (length xs))
  where
    go : Dec (i < length xs) → Within B (at xs i)
    go (yes h) = E i h
    go (no h) = rw (get_or-eq_default xs (pos 0) {n = i} (omega arith)) (zero_within B)

pub each_made : {B : ℕ} (n : ℕ) (f : ℕ → ℤ) → ((i : ℕ) → i < n → Within B (f i)) → Each B (made n f)
each_made n f F = each_below (made n f) (λ i h. let k : i < n = omega (arith, length_made n f) in rw (get_d_made n f i (pos 0) k) (F i k))
