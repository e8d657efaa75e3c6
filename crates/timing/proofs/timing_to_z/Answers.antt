-- `timing::timing_to_z` reaches numbers that are there.
use mathlib.Core.Path.{ap}
use Prim.Native.Nat.{ℕ, ◌^◌}
use native.Mathlib.Omega.{arith}
use Rattle.places.proofs.Round.{z_below}
use Rattle.timing.proofs.timing_to_z.Goals as goal

pub at-all-requires : goal.at-all-requires
at-all-requires c = omega (arith, c.to_z.ensures, z_below c.new-size.result c.place.result.0, ap (λ (k : ℕ). 4 ^ k) c.new-size.ensures)
