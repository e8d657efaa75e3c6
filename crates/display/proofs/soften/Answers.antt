-- `soften`: after i turns the first i numbers are as they are shown.
use mathlib.Core.Path.{ap, ◌∙◌}
use native.Mathlib.Omega.{arith}
use lib.IntN.{pos}
use mir.Syntax.{w32}
use mir.Facts.{to_z-of_z}
use Rattle.paper.specs.Lists.{at}
use Rattle.paper.specs.Softer.{softened}
use Rattle.integer_laws.specs.Machine.{read}
use Rattle.list_laws.specs.Made.{filled_none, filled_more, filled_all}
use Rattle.square_laws.specs.Numbers.{in_each}
use Rattle.walk_laws.specs.Decoded.{unread_most}
use Rattle.display.proofs.soften.Goals as goal

pub loop-i-init : goal.loop-i-init
loop-i-init c = filled_none _ _ _

pub moved_up-requires : goal.moved_up-requires
moved_up-requires c =
    let a = c.args in
    let w = in_each a.numbers.now c.requires.numbers_value c.loop-i.i in
    let e = c.at-x.ensures ∙ ap (at a.numbers.now) c.place-z.ensures in
    record { within = rw (e, read w tt) w; u_le_most_planes = omega (arith, c.unread_at.ensures, unread_most a.unfinished a.place c.loop-i.i) }

pub loop-i-preserved : goal.loop-i-preserved
loop-i-preserved c =
    let w = in_each c.args.numbers.now c.requires.numbers_value c.loop-i.i in
    let e = c.at-x.ensures ∙ ap (at c.args.numbers.now) c.place-z.ensures in
    rw (c.set.ensures, c.place-z.ensures)
    (filled_more (pos 0) _ c.loop-i.i c.loop-i.out _ (omega arith) c.loop-i.invariant (to_z-of_z {w = w32} (record { sfits = c.moved_up.type_inv }) ∙ c.moved_up.ensures ∙ rw (e, read w tt, c.unread_at.ensures)))

pub returns : goal.returns
unfolding softened
returns c = filled_all (pos 0) _ _ c.loop-i.i c.loop-i.out (c.loop-i.auto.out ∙ c.requires.out_len) (omega arith) c.loop-i.invariant
