-- The sign of a number, as the machine holds it.
use mathlib.Core.Path.{◌≡◌, refl, ap, ◌∙◌}
use native.Mathlib.Omega.{arith}
use lib.IntN.{ℤ, pos, negsuc}
use lib.Signed.{lt_z}
use mir.Facts.{to_z-of_z}
use mir.Syntax.{w32}
use mir.Val.{SFits, to_z, of_z}
use borrow.Author.Tests.{le-ltb}
use Rattle.paper.specs.Walk.{negative}

-- the machine's test for below 0 is the sign
pub sign_is : (x : ℤ) → SFits w32 x → lt_z (to_z w32 (of_z w32 x)) (pos 0) ≡ negative x
sign_is x h = ap (λ z. lt_z z (pos 0)) (to_z-of_z h) ∙ go x
  where
    go : (x : ℤ) → lt_z x (pos 0) ≡ negative x
    go (pos n) = le-ltb n 0 (omega arith)
    go (negsuc n) = refl
