-- The invariant is what holds before each number.
use mathlib.Core.List.{[], ◌∷◌}
use mathlib.Core.Path.{subst}
use mir.Facts.{to_z-of_z}
use mir.Syntax.{w32}
use mir.Val.{SFits}
use Rattle.std.proofs.Common.{rules}
use Rattle.paper.specs.Lists.{at}
use Rattle.paper.specs.Walk.{Coder, walk_number}
use Rattle.set_coder.specs.Coded.{Coded}
use Rattle.set_coder.proofs.InOrder.{before_first, before_next, none_left}
use Rattle.set_coder.proofs.code_numbers.Goals as goal

pub loop-x-init : goal.loop-x-init
loop-x-init c = before_first _ _ _

pub loop-x-preserved : goal.loop-x-preserved
loop-x-preserved c =
    let f : SFits w32 (at c.args.numbers.now c.loop-x.x-index) = search rules in
    let X = subst (λ x. Coded (walk_number Coder c.args.plane x) c.loop-x.sink (x ∷ []) c.code_number.new.sink) (to_z-of_z f) c.code_number.ensures in
    before_next c.loop-x.invariant c.loop-x-test.true X

pub returns : goal.returns
returns c = none_left c.loop-x.invariant c.loop-x-test.false
