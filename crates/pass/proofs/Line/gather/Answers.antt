-- `pass::Line::gather` meets its contract. After i turns the first i numbers of the line stand in `out`.
use mathlib.Core.Path.{ap, ◌∙◌}
use Prim.Native.Nat.{◌^◌}
use native.Mathlib.Omega.{arith}
use lib.IntN.{pos}
use mir.Facts.{to_z-of_z}
use Rattle.paper.specs.Lists.{at}
use Rattle.paper.specs.Square.{place_of, line}
use Rattle.list_laws.specs.Made.{filled_none, filled_more, filled_all}
use Rattle.square_laws.specs.Grid.{place_below}
use mir.Syntax.{w32}
use Rattle.pass.specs.Turns.{down}
use Rattle.pass.proofs.Line.gather.Goals as goal

pub loop-i-init : goal.loop-i-init
loop-i-init c = filled_none _ _ _

pub at-requires : goal.at-requires
at-requires c =
    let a = c.args in
    omega (arith, c.place.ensures, place_below a.self.now.size (down a.self.now.lines) a.self.now.l c.loop-i.i)

pub loop-i-preserved : goal.loop-i-preserved
loop-i-preserved c =
    let a = c.args in
    filled_more (pos 0) (λ i. at a.xs.now (place_of a.self.now.size (down a.self.now.lines) a.self.now.l i)) c.loop-i.i c.loop-i.out _ (omega arith) c.loop-i.invariant
    (to_z-of_z {w = w32} (record { sfits = c.at.type_inv }) ∙ c.at.ensures ∙ ap (at a.xs.now) c.place.ensures)

pub returns : goal.returns
unfolding line
returns c = filled_all (pos 0) _ (2 ^ c.args.self.now.size) c.loop-i.i c.loop-i.out (omega arith) (omega arith) c.loop-i.invariant
