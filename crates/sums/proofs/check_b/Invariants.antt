use Prim.Native.Nat.{◌≤◌, ◌*◌, ◌+◌}
use mathlib.Core.Path.{◌≡◌}
use lib.ListN.{drop}
use Rattle.paper.specs.Block.{weighed_sum, checks_start}
use Rattle.sums.proofs.check_b.Given as goal

abbrev pub invariant-loop-i : goal.invariant-loop-i
invariant-loop-i l = (l.sum ≤ checks_start * 255 * l.i) × (l.sum + weighed_sum l.i (drop l.i l.fn.s) ≡ weighed_sum 0 l.fn.s)
