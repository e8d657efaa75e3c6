-- `check_b` is the definition's weighed sum. The invariant: what was added and what is left to add are the whole. Assumes nothing.
use Prim.Native.Nat.{ℕ, ◌+◌, ◌*◌, ◌%◌}
use mathlib.Core.Path.{ap}
use native.Mathlib.Omega.{arith}
use Rattle.sums.proofs.Laws.{weighed_more, weighed_end, weighed_small}
use Rattle.sums.proofs.check_b.Goals as goal

pub loop-i-preserved : goal.loop-i-preserved
loop-i-preserved c =
    let s = c.args.s.now in
    let i = c.loop-i.i in
    (omega (arith, weighed_small i c.from.result (omega arith) (omega arith)), omega (arith, ap (λ (n : ℕ). (i + 1) * n) c.from.ensures, weighed_more s i c.loop-i-test.true))

pub returns : goal.returns
returns c = ap (λ (n : ℕ). n % 65521) (omega (arith, weighed_end c.args.s.now c.loop-i.i (omega arith)))
