-- The invariant is what holds before each plane.
use mathlib.Core.Path.{sym, ◌∙◌}
use native.Mathlib.Omega.{arith}
use Rattle.plane_decoder.proofs.Planes.{before_first, before_next, plane_room, plane_low, stopped, none_left}
use Rattle.plane_decoder.proofs.read_planes.Goals as goal

pub loop-p-init : goal.loop-p-init
loop-p-init c = before_first _ _ _ _ c.requires.room c.requires.n_le_most_planes c.requires.fits c.requires.square

pub new-requires : goal.new-requires
new-requires c = plane_low c.loop-p.invariant c.loop-p-test.true

pub read_plane-requires : goal.read_plane-requires
read_plane-requires c =
    let B = c.loop-p.invariant in
    record { room = rw c.new.ensures (plane_room B c.loop-p-test.true); fits = B.fits; square = B.square }

pub returns-then-missed : goal.returns-then-missed
returns-then-missed c = stopped c.loop-p.invariant c.loop-p-test.true _ _ (rw c.new.ensures at c.read_plane.ensures) (sym c.missed.ensures ∙ c.if-missed.true)

pub loop-p-preserved : goal.loop-p-preserved
loop-p-preserved c = before_next c.loop-p.invariant c.loop-p-test.true _ _ (rw c.new.ensures at c.read_plane.ensures) _ c.read_plane.auto.numbers (sym c.missed.ensures ∙ c.if-missed.false) c.next_plane.ensures.source (omega (arith, c.next_plane.ensures.place))

pub returns : goal.returns
returns c = none_left c.loop-p.invariant c.loop-p-test.false
