-- `pass::Line::turn` meets its contract.
use mathlib.Core.Path.{ap, ◌∙◌}
use Rattle.pass.proofs.OneLine.{gathered, put_as}
use Rattle.pass.specs.Turns.{down, Turns}
use borrow.Author.Rules.{rules}
use Rattle.pass.proofs.Line.turn.Goals as goal

pub turn-requires : goal.turn-requires
turn-requires g c =
    let a = c.args in
    let t : Turns g.F.Fn a.turn.now g.rule = search rules in
    let h = gathered a.self.now.size (down a.self.now.lines) a.xs.now a.self.now.l _ a.b.now (search rules) c.gather.ensures (search rules) (search rules) in
    t.may _ _ h.0 h.1.0 h.1.1.0 h.1.1.1

pub returns : goal.returns
returns g c =
    let t : Turns g.F.Fn c.args.turn.now g.rule = search rules in
    let e = t.gives _ _ _ _ c.turn.ensures ∙ ap g.rule c.gather.ensures in
    record { put = put_as e c.scatter.ensures; a_after = c.gather.ensures; b_after = e }
