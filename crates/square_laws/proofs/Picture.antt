-- What the paper asks of a picture that was cut: greys are off by at most (7 L + 1) times what the wavelet numbers are off by, before
-- and after they are set into 0 to 255.
use Rattle.std.specs.Prelude.{◌≡◌, List, ℕ, ◌+◌, ◌*◌, ◌^◌, ◌<◌, ◌≤◌, length, get_or}
use Rattle.std.proofs.Math.IntN.{ℤ}
use Rattle.paper.specs.Lists.{at}
use Rattle.paper.specs.Square.{pictured, greys_of}
use Rattle.lift.specs.Off.{Off}
use Rattle.line.proofs.FiveThree.{five_three}
use Rattle.square_laws.proofs.Near.{levels_near}
use Rattle.square_laws.specs.Picture.{raised_near, pictured_near}

-- greys before they are set into 0 to 255
pub greys_near : (E L k : ℕ) (xs ys : List ℤ) → L ≤ k → length xs ≡ 4 ^ k → length ys ≡ 4 ^ k → ((z : ℕ) → z < 4 ^ k → Off E (at xs z) (at ys z))
    → (z : ℕ) → z < 4 ^ k → Off ((7 * L + 1) * E) (at (greys_of k L xs) z) (at (greys_of k L ys) z)
unfolding greys_of
greys_near E L k xs ys h a b N z l = raised_near _ k _ _ z l (levels_near five_three E L k xs ys h a b N z l)

-- and so the rebuilt picture
pub picture_near : (E L k : ℕ) (xs ys : List ℤ) → L ≤ k → length xs ≡ 4 ^ k → length ys ≡ 4 ^ k → ((z : ℕ) → z < 4 ^ k → Off E (at xs z) (at ys z))
    → (p : ℕ) → p < 4 ^ k
    → (get_or (pictured k (greys_of k L xs)) p 0 ≤ get_or (pictured k (greys_of k L ys)) p 0 + (7 * L + 1) * E)
    × (get_or (pictured k (greys_of k L ys)) p 0 ≤ get_or (pictured k (greys_of k L xs)) p 0 + (7 * L + 1) * E)
picture_near E L k xs ys h a b N = pictured_near ((7 * L + 1) * E) k (greys_of k L xs) (greys_of k L ys) (greys_near E L k xs ys h a b N)
