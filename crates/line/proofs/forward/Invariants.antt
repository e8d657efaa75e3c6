use mathlib.Core.Path.{◌≡◌}
use Prim.Native.Nat.{◌-◌, ◌+◌}
use Rattle.paper.specs.Line.{high_at, low_at}
use Rattle.line.proofs.Pairs.{Paired}
use Rattle.line.proofs.forward.Given as goal

abbrev pub invariant-loop-i : goal.invariant-loop-i
invariant-loop-i l = record { before : l.last ≡ high_at l.fn.x (l.i - 1); pairs : Paired (λ i. i) (λ i. l.h + i) (low_at l.fn.x) (high_at l.fn.x) l.i l.out }
