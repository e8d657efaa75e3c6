-- `picture::grey` meets its contract.
use mathlib.Core.Path.{◌≡◌, refl}
use native.Mathlib.Omega.{arith}
use lib.IntN.{ℤ, pos, negsuc, nat_abs}
use Rattle.std.specs.Int.{int_max, int_min}
use Rattle.std.proofs.lemmas.Grind.{common_steps}
use Rattle.paper.specs.Square.{grey}
use borrow.Author.Rules.{rules}
use Rattle.picture.proofs.grey.Goals as goal

clamped : (x : ℤ) → nat_abs (int_max (pos 0) (int_min x (pos 255))) ≡ grey x
unfolding grey
clamped (pos g) = grind (arith, common_steps)
clamped (negsuc g) = refl

pub returns : goal.returns
returns c = search (rules, clamped)
