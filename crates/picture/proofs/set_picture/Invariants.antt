use mathlib.Core.Path.{◌≡◌}
use Prim.Native.Nat.{◌^◌}
use lib.ListN.{length}
use Rattle.paper.specs.Lists.{at}
use Rattle.paper.specs.Places.{z_of}
use Rattle.paper.specs.Square.{grey}
use Rattle.list_laws.specs.Made.{Filled}
use Rattle.picture.proofs.set_picture.Given as goal

abbrev pub invariant-loop-i : goal.invariant-loop-i
invariant-loop-i l = (length l.picture ≡ 4 ^ l.fn.size) × Filled 0 (λ p. grey (at l.fn.greys (z_of l.fn.size p))) l.i l.picture
