use mathlib.Core.Bool.{false}
use Prim.Native.Nat.{◌*◌}
use Rattle.std.specs.Slice.Iter.{iter_rest}
use Rattle.scan.proofs.Reached.{Passed}
use Rattle.scan.proofs.scan.Given as goal

abbrev pub invariant-loop-x : goal.invariant-loop-x
invariant-loop-x l = Passed (2 * l.t) l.fn.xs false (iter_rest l.rest) × Passed l.t l.fn.xs l.any (iter_rest l.rest)
