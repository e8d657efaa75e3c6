-- floorHalf and floorQuarter round towards minus infinity.
use lib.IntN.{ℤ, pos, ◌+ℤ◌, ◌*ℤ◌}
use lib.Signed.{◌≤ℤ◌, ◌<ℤ◌}
use Rattle.paper.specs.Line.{floor_half, floor_quarter}
use Rattle.integer_laws.specs.Difference.{split}
use Rattle.integer_laws.specs.Order.{ints, zarith}

pub floor_half_lem : (z : ℤ) → ((pos 2 *ℤ floor_half z) ≤ℤ z) × (z <ℤ (pos 2 *ℤ floor_half z +ℤ pos 2))
floor_half_lem z = rw (split z) (simp ints (omega zarith))

pub floor_quarter_lem : (z : ℤ) → ((pos 4 *ℤ floor_quarter z) ≤ℤ z) × (z <ℤ (pos 4 *ℤ floor_quarter z +ℤ pos 4))
floor_quarter_lem z = rw (split z) (simp ints (omega zarith))
