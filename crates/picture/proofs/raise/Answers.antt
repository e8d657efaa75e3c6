-- `picture::raise` meets its contract. After i turns the first i numbers are raised, and the others are as they were.
use native.Mathlib.Omega.{arith}
use lib.IntN.{pos}
use Rattle.list_laws.specs.Made.{filled_all}
use Rattle.picture.proofs.raise.Goals as goal

pub returns : goal.returns
returns c = filled_all (pos 0) _ _ c.loop-i.i c.loop-i.xs c.loop-i.invariant.0 (omega arith) c.loop-i.invariant.1
