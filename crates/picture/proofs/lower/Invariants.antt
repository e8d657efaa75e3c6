use mathlib.Core.Path.{◌≡◌}
use Prim.Native.Nat.{◌^◌}
use lib.ListN.{length, get_or}
use lib.IntN.{pos, ◌-ℤ◌}
use Rattle.paper.specs.Places.{raster_of}
use Rattle.list_laws.specs.Made.{Filled}
use Rattle.picture.proofs.lower.Given as goal

abbrev pub invariant-loop-i : goal.invariant-loop-i
invariant-loop-i l = (length l.xs ≡ 4 ^ l.fn.size) × Filled (pos 0) (λ z. pos (get_or l.fn.picture (raster_of l.fn.size z) 0) -ℤ pos 128) l.i l.xs
