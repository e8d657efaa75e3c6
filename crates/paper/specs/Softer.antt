-- A softer picture, for display only: each number that isn't zero moves up in magnitude by half of what is still unknown about it. The
-- stored numbers don't change.
use Rattle.std.specs.Prelude.{List, ℕ, zero, suc, ◌+◌, ◌^◌, eqb, ℤ, nat_abs, length}
use Rattle.paper.specs.Lists.{made, at, pick}
use Rattle.paper.specs.Square.{greys_of}
use Rattle.paper.specs.Walk.{negative, signed, unread_at}

-- half of what u unread bits leave unknown: 2 ^ (u - 1), and nothing where u is 0
unfoldable pub half_of : ℕ → ℕ
half_of zero = 0
half_of (suc u) = 2 ^ u

-- a number that isn't zero moved up in magnitude by h, its sign kept
unfoldable pub moved_up : ℕ → ℤ → ℤ
moved_up h x = pick (eqb (nat_abs x) 0) x (signed (negative x) (nat_abs x + h))

-- the numbers shown where p planes are unfinished and the cut fell at `place`
unfoldable pub softened : ℕ → ℕ → List ℤ → List ℤ
softened p place numbers = made (length numbers) (λ i. moved_up (half_of (unread_at p place i)) (at numbers i))

-- the greys that they give back
unfoldable pub softer_of : ℕ → ℕ → ℕ → ℕ → List ℤ → List ℤ
softer_of k L p place numbers = greys_of k L (softened p place numbers)
