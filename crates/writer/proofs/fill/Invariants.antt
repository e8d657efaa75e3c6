use Prim.Native.Nat.{◌*◌}
use mathlib.Core.List.{◌++◌}
use mathlib.Core.Path.{◌≡◌}
use lib.ListN.{take, drop}
use Rattle.paper.specs.Bits.{bits, packed}
use Rattle.writer.proofs.fill.Given as goal

abbrev pub invariant-loop-i : goal.invariant-loop-i
invariant-loop-i l = l.out ≡ packed l.i (drop (8 * l.fn.start) (take l.fn.b (bits l.fn.bytes))) ++ drop l.i l.initial.out
