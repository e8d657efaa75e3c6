use lib.ListN.{drop}
use mathlib.Core.Path.{◌≡◌}
use Prim.Native.Nat.{max}
use Rattle.paper.specs.Walk.{largest}
use Rattle.sizes.proofs.largest.Given as goal

abbrev pub invariant-loop-x : goal.invariant-loop-x
invariant-loop-x l = max l.most (largest (drop l.x-index l.fn.xs)) ≡ largest l.fn.xs
