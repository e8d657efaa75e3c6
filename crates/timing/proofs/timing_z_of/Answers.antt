-- `timing::timing_z_of` reaches numbers that are there.
use mathlib.Core.Path.{ap}
use Prim.Native.Nat.{ℕ, ◌^◌}
use native.Mathlib.Omega.{arith}
use Rattle.places.proofs.Interleaving.{interleaved_below}
use Rattle.timing.proofs.timing_z_of.Goals as goal

pub at-all-requires : goal.at-all-requires
at-all-requires c = omega (arith, c.z_of.ensures, interleaved_below c.new-size.result c.args.r c.loop-c.c, ap (λ (k : ℕ). 4 ^ k) c.new-size.ensures)
