-- `timing::timing_from_z` reaches greys that are there.
use mathlib.Core.Path.{ap}
use Prim.Native.Nat.{ℕ, ◌^◌}
use native.Mathlib.Omega.{arith}
use Rattle.places.proofs.Round.{raster_below}
use Rattle.timing.proofs.timing_from_z.Goals as goal

pub at-all-requires : goal.at-all-requires
at-all-requires c = omega (arith, c.from_z.ensures, raster_below c.new-size.result c.place.result.0, ap (λ (k : ℕ). 4 ^ k) c.new-size.ensures)
