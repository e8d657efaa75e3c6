use mathlib.Core.Path.{◌≡◌}
use Prim.Native.Nat.{ℕ, ◌≤◌}
use lib.ListN.{length}
use lib.IntN.{pos, ◌+ℤ◌}
use Rattle.paper.specs.Lists.{at}
use Rattle.list_laws.specs.Made.{Filled}
use Rattle.picture.proofs.raise.Given as goal

abbrev pub invariant-loop-i : goal.invariant-loop-i
invariant-loop-i l = (length l.xs ≡ length l.initial.xs) × Filled (pos 0) (λ z. at l.initial.xs z +ℤ pos 128) l.i l.xs × ((z : ℕ) → l.i ≤ z → at l.xs z ≡ at l.initial.xs z)
