-- `pass::turn_lines` meets its contract. After l turns the first l lines are turned.
use mathlib.Core.Path.{◌≡◌}
use Prim.Native.Nat.{◌^◌}
use native.Mathlib.Omega.{arith}
use lib.Pow.{pow_pos}
use Rattle.paper.specs.Square.{line}
use Rattle.line.specs.Each.{Each, line_limit}
use Rattle.square_laws.specs.Sizes.{line_each}
use Rattle.pass.proofs.Passes.{passed_none, passed_line, passed_more, passed_all, last_more}
use borrow.Author.Rules.{rules}
use Rattle.pass.specs.Turns.{down}
use Rattle.pass.proofs.turn_lines.Goals as goal

pub loop-l-init : goal.loop-l-init
loop-l-init g c = record { passed = passed_none _ _ _ _; last = λ h. absurd (omega arith) }

pub turn-requires : goal.turn-requires
turn-requires g c =
    let a = c.args in
    let l = c.loop-l.l in
    let P = c.loop-l.invariant.passed in
    let e : line a.size (down a.lines) c.loop-l.xs l ≡ line a.size (down a.lines) a.xs.now l = passed_line _ a.size (down a.lines) l a.xs.now c.loop-l.xs (omega arith) P in
    let f : Each line_limit (line a.size (down a.lines) c.loop-l.xs l) = rw e (line_each a.size (down a.lines) a.xs.now l (search rules)) in
    search rules

pub loop-l-preserved : goal.loop-l-preserved
loop-l-preserved g c =
    let a = c.args in
    let P = c.loop-l.invariant.passed in
    let e = passed_line _ a.size (down a.lines) c.loop-l.l a.xs.now c.loop-l.xs (omega arith) P in
    record { passed = passed_more _ a.size (down a.lines) c.loop-l.l a.xs.now c.loop-l.xs _ (omega arith) P c.turn.ensures.put; last = λ h. last_more _ a.size (down a.lines) c.loop-l.l a.xs.now c.loop-l.xs _ _ e c.turn.ensures.a_after c.turn.ensures.b_after }

pub returns : goal.returns
returns g c =
    let q : c.loop-l.l ≡ 2 ^ c.args.size = omega arith in
    let e = c.loop-l.invariant.last (omega (arith, pow_pos c.args.size)) in
    record { xs_after = passed_all _ c.args.size (down c.args.lines) _ _ (search rules) (rw q at c.loop-l.invariant.passed); a_after = rw q at e.gathered; b_after = rw q at e.turned }
