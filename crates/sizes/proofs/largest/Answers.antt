use Rattle.std.proofs.Common.{rules}
use lib.IntN.{nat_abs}
use Rattle.paper.specs.Lists.{at}
use lib.ListN.{drop}
use mathlib.Core.Path.{◌≡◌}
use native.Mathlib.Omega.{arith}
use Prim.Native.Nat.{◌+◌, max}
use Rattle.paper.specs.Walk.{largest}
use Rattle.sizes.proofs.Numbers.{largest_next, largest_all}
use Rattle.sizes.proofs.largest.Goals as goal

pub loop-x-preserved : goal.loop-x-preserved
loop-x-preserved c =
    let xs = c.args.xs.now in
    let i = c.loop-x.x-index in
    let v : max c.loop-x.most (largest (drop i xs)) ≡ largest xs = c.loop-x.invariant in
    let m : c.unsigned_abs.result ≡ nat_abs (at xs i) = search rules in
    let g : max c.max-most.result (largest (drop (i + 1) xs)) ≡ largest xs = omega (arith, largest_next xs i c.loop-x-test.true, m, c.max-most.ensures) in
    g

pub returns : goal.returns
returns c = omega (arith, largest_all c.args.xs.now c.loop-x.x-index (omega arith), c.loop-x.invariant)
