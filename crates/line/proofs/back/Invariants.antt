use mathlib.Core.Path.{◌≡◌}
use Prim.Native.Nat.{◌-◌, ◌+◌, ◌*◌, min}
use Rattle.paper.specs.Line.{even_at, odd_at}
use Rattle.line.proofs.Pairs.{Paired}
use Rattle.line.proofs.back.Given as goal

abbrev pub invariant-loop-i : goal.invariant-loop-i
invariant-loop-i l = record { next : l.left ≡ even_at l.fn.y l.h (min l.i (l.h - 1)); pairs : Paired (λ i. 2 * i) (λ i. 2 * i + 1) (even_at l.fn.y l.h) (odd_at l.fn.y l.h) l.i l.out }
