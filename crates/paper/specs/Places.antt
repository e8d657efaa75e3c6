-- Raster places and Z places. A Z place interleaves the bits of row and column, the lowest bit of the column lowest.
use Rattle.std.specs.Prelude.{ℕ, zero, suc, ◌+◌, ◌*◌, ◌/◌, ◌%◌, ◌^◌}

-- the lowest j bits of row r and column c, interleaved
unfoldable pub interleaved : ℕ → ℕ → ℕ → ℕ
interleaved zero r c = 0
interleaved (suc j) r c = c % 2 + 2 * (r % 2) + 4 * interleaved j (r / 2) (c / 2)

-- the column and the row of a Z place, the lowest j bits of each
unfoldable pub column_of : ℕ → ℕ → ℕ
column_of zero z = 0
column_of (suc j) z = z % 2 + 2 * column_of j (z / 4)

unfoldable pub row_of : ℕ → ℕ → ℕ
row_of zero z = 0
row_of (suc j) z = z / 2 % 2 + 2 * row_of j (z / 4)

-- the Z place of a raster place, and back, at side 2 ^ k
unfoldable pub z_of : ℕ → ℕ → ℕ
z_of k place = interleaved k (place / 2 ^ k) (place % 2 ^ k)

unfoldable pub raster_of : ℕ → ℕ → ℕ
raster_of k z = row_of k z * 2 ^ k + column_of k z
