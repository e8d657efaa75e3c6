-- The invariant is what holds before each plane.
use native.Mathlib.Omega.{arith}
use Rattle.plane_coder.proofs.Planes.{before_next, none_left}
use Rattle.plane_coder.proofs.code_planes.Goals as goal

pub loop-p-preserved : goal.loop-p-preserved
loop-p-preserved c = before_next c.loop-p.invariant (omega arith) (rw c.new.ensures at c.code_plane.ensures)

pub returns : goal.returns
returns c = none_left c.loop-p.invariant (omega arith)
