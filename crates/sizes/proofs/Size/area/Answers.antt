use native.Mathlib.Omega.{arith}
use Rattle.sizes.proofs.Counts.{area_shifted}
use Rattle.sizes.proofs.Size.area.Goals as goal

pub returns : goal.returns
returns c = rw c.self.view_is (area_shifted _ (omega (arith, c.self.invariant)))
