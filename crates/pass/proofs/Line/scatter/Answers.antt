-- `pass::Line::scatter` meets its contract. After i turns the first i numbers of `v` stand on the line.
use mathlib.Core.Path.{◌≡◌}
use Prim.Native.Nat.{◌^◌}
use native.Mathlib.Omega.{arith}
use mir.Facts.{to_z-of_z}
use mir.Syntax.{w32}
use Rattle.square_laws.specs.Grid.{place_below}
use Rattle.pass.proofs.OneLine.{put_none, put_more}
use borrow.Author.Rules.{rules}
use Rattle.pass.specs.Turns.{down}
use Rattle.pass.proofs.Line.scatter.Goals as goal

pub loop-i-init : goal.loop-i-init
loop-i-init c = put_none _ _ _ _ _

pub set-requires : goal.set-requires
set-requires c =
    let a = c.args in
    omega (arith, c.place.ensures, place_below a.self.now.size (down a.self.now.lines) a.self.now.l c.loop-i.i, c.loop-i.invariant.size)

pub loop-i-preserved : goal.loop-i-preserved
loop-i-preserved c =
    let a = c.args in
    rw (c.set.ensures, c.place.ensures) (put_more a.self.now.size (down a.self.now.lines) a.self.now.l c.loop-i.i a.v.now a.xs.now c.loop-i.xs _ c.requires.l_bound (omega arith) c.requires.xs_len c.loop-i.invariant (to_z-of_z {w = w32} (search rules)))

pub returns : goal.returns
returns c =
    let q : c.loop-i.i ≡ 2 ^ c.args.self.now.size = omega arith in
    rw q at c.loop-i.invariant
