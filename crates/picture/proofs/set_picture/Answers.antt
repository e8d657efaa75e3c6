-- `picture::set_picture` meets its contract. After i turns the first i places are filled.
use native.Mathlib.Omega.{arith}
use Rattle.paper.specs.Square.{pictured}
use Rattle.places.proofs.Round.{z_below}
use Rattle.list_laws.specs.Made.{filled_all}
use Rattle.picture.proofs.set_picture.Goals as goal

pub at-x-requires : goal.at-x-requires
at-x-requires c = omega (arith, c.to_z.ensures, z_below c.args.size c.place-p.result.0)

pub returns : goal.returns
unfolding pictured
returns c = filled_all 0 _ _ c.loop-i.i c.loop-i.picture c.loop-i.invariant.0 (omega arith) c.loop-i.invariant.1
