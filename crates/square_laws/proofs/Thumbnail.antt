-- Two thumbnails are as near as two pictures of L - r levels.
use Rattle.std.specs.Prelude.{◌≡◌, List, ℕ, ◌+◌, ◌*◌, ◌-◌, ◌^◌, ◌<◌, ◌≤◌, length, take, get_or, ℤ, pos}
use Rattle.std.proofs.Common.{arith, get_or-take}
use Rattle.paper.specs.Lists.{at}
use Rattle.paper.specs.Square.{pictured, thumbnail_of}
use Rattle.lift.specs.Off.{Off}
use Rattle.square_laws.proofs.Picture.{picture_near}
use Rattle.square_laws.specs.Thumbnail.{length_first_numbers}

-- where the first numbers differ by at most E, no grey differs by more than (7 (L - r) + 1) E
pub thumbnail_near : (E r L k : ℕ) (xs ys : List ℤ) → L ≤ k → length xs ≡ 4 ^ k → length ys ≡ 4 ^ k → ((z : ℕ) → z < 4 ^ (k - r) → Off E (at xs z) (at ys z))
    → (p : ℕ) → p < 4 ^ (k - r)
    → (get_or (pictured (k - r) (thumbnail_of k L r xs)) p 0 ≤ get_or (pictured (k - r) (thumbnail_of k L r ys)) p 0 + (7 * (L - r) + 1) * E)
    × (get_or (pictured (k - r) (thumbnail_of k L r ys)) p 0 ≤ get_or (pictured (k - r) (thumbnail_of k L r xs)) p 0 + (7 * (L - r) + 1) * E)
unfolding thumbnail_of
thumbnail_near E r L k xs ys l a b N =
    picture_near E (L - r) (k - r) (take (4 ^ (k - r)) xs) (take (4 ^ (k - r)) ys) (omega arith) (length_first_numbers k r xs a) (length_first_numbers k r ys b)
    (λ z h. rw (get_or-take (4 ^ (k - r)) xs z (pos 0) h, get_or-take (4 ^ (k - r)) ys z (pos 0) h) (N z h))
