-- `picture::lower` meets its contract. After i turns the first i places are filled.
use native.Mathlib.Omega.{arith}
use lib.IntN.{pos}
use Rattle.paper.specs.Square.{lowered}
use Rattle.places.proofs.Round.{raster_below}
use Rattle.list_laws.specs.Made.{filled_all}
use Rattle.picture.proofs.lower.Goals as goal

pub at-g-requires : goal.at-g-requires
at-g-requires c = omega (arith, c.from_z.ensures, raster_below c.args.size c.place-z.result.0)

pub returns : goal.returns
unfolding lowered
returns c = filled_all (pos 0) _ _ c.loop-i.i c.loop-i.xs c.loop-i.invariant.0 (omega arith) c.loop-i.invariant.1
