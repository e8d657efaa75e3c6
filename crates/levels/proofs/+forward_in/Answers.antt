-- `levels::forward_in` meets its contract. The measure is the count of levels.
use mathlib.Core.Path.{◌≡◌, ap, ◌∙◌}
use Prim.Native.Nat.{◌-◌, ◌/◌, ◌^◌}
use native.Mathlib.Omega.{arith}
use lib.ListN.{length}
use Rattle.paper.specs.Line.{line_forward}
use Rattle.paper.specs.Square.{levels_forward}
use Rattle.square_laws.specs.Undone.{length_level}
use Rattle.line.proofs.FiveThree.{five_three}
use Rattle.levels.proofs.Quarters.{quarter, part, forward_fits, forward_left, forward_is}
use Rattle.levels.proofs.+forward_in.Goals as goal

pub returns-then-levels-eq0 : goal.returns-then-levels-eq0
unfolding levels_forward
returns-then-levels-eq0 t c = rw c.if-levels-eq0.true

pub level_forward-requires-clause-each : goal.level_forward-requires-clause-each
level_forward-requires-clause-each t c = (forward_fits five_three c.args.size c.args.levels c.args.xs.now (omega arith) (omega arith) c.requires.fitting).0

pub level_forward-requires-clause-each_2 : goal.level_forward-requires-clause-each_2
level_forward-requires-clause-each_2 t c = (forward_fits five_three c.args.size c.args.levels c.args.xs.now (omega arith) (omega arith) c.requires.fitting).1

pub forward_in-requires : goal.forward_in-requires
forward_in-requires t c =
    let k = c.args.size in
    let e = c.level_forward.ensures in
    let n = ap length e ∙ length_level line_forward k c.args.xs.now in
    let q : length c.args.xs.now / 4 ≡ 4 ^ c.half.result = rw c.half.ensures (quarter k (length c.args.xs.now) (omega arith) c.requires.xs_len) in
    (omega (arith, c.half.ensures), (omega arith, (part _ _ _ q (omega arith), forward_left five_three k c.args.levels c.args.xs.now (omega arith) (omega arith) c.requires.fitting (length c.args.xs.now / 4) _ e)))

pub returns : goal.returns
returns t c =
    let k = c.args.size in
    let q : length c.args.xs.now / 4 ≡ 4 ^ (k - 1) = quarter k (length c.args.xs.now) (omega arith) c.requires.xs_len in
    forward_is line_forward k c.args.levels c.args.xs.now _ _ _ (omega arith) q c.level_forward.ensures (rw c.half.ensures at c.forward_in.ensures)
