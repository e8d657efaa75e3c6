-- The 5/3 rule on a square in Z order, over L levels, and a picture's way in and out.
-- In Z order the upper left quarter of a square is the first quarter of its places.
use Rattle.std.specs.Prelude.{Bool, true, false, List, ◌++◌, ℕ, zero, suc, ◌-◌, ◌^◌, min, get_or, take, drop, ℤ, pos, negsuc, ◌+ℤ◌, ◌-ℤ◌}
use Rattle.paper.specs.Lists.{made, at}
use Rattle.paper.specs.Line.{line_forward, line_back}
use Rattle.paper.specs.Places.{interleaved, row_of, column_of, z_of, raster_of}

-- the Z place of number i of line l, in a square of side 2 ^ j; a line is a row, or a column where `down` is true
unfoldable pub place_of : ℕ → Bool → ℕ → ℕ → ℕ
place_of j false l i = interleaved j l i
place_of j true l i = interleaved j i l

-- the line of a Z place, and its number on that line
unfoldable pub line_of : ℕ → Bool → ℕ → ℕ
line_of j false z = row_of j z
line_of j true z = column_of j z

unfoldable pub spot_of : ℕ → Bool → ℕ → ℕ
spot_of j false z = column_of j z
spot_of j true z = row_of j z

-- line l of the square
unfoldable pub line : ℕ → Bool → List ℤ → ℕ → List ℤ
line j down xs l = made (2 ^ j) (λ i. at xs (place_of j down l i))

-- the square with each of its lines changed by f
unfoldable pub along : (List ℤ → List ℤ) → ℕ → Bool → List ℤ → List ℤ
along f j down xs = made (4 ^ j) (λ z. at (f (line j down xs (line_of j down z))) (spot_of j down z))

-- a level transforms every row, then every column, by the rule f of a line; its inverse, by g, the columns before the rows
unfoldable pub level_forward : (List ℤ → List ℤ) → ℕ → List ℤ → List ℤ
level_forward f j xs = along f j true (along f j false xs)

unfoldable pub level_back : (List ℤ → List ℤ) → ℕ → List ℤ → List ℤ
level_back g j ys = along g j false (along g j true ys)

-- the first n numbers changed by f
unfoldable pub on_first : ℕ → (List ℤ → List ℤ) → List ℤ → List ℤ
on_first n f xs = f (take n xs) ++ drop n xs

-- L levels of a square of side 2 ^ k: the next level takes the upper left quarter; the inverse undoes the last level first
unfoldable pub levels_forward : (List ℤ → List ℤ) → ℕ → ℕ → List ℤ → List ℤ
levels_forward f zero k xs = xs
levels_forward f (suc L) k xs = on_first (4 ^ (k - 1)) (levels_forward f L (k - 1)) (level_forward f k xs)

unfoldable pub levels_back : (List ℤ → List ℤ) → ℕ → ℕ → List ℤ → List ℤ
levels_back g zero k ys = ys
levels_back g (suc L) k ys = level_back g k (on_first (4 ^ (k - 1)) (levels_back g L (k - 1)) ys)

-- each grey less 128, at its Z place
unfoldable pub lowered : ℕ → List ℕ → List ℤ
lowered k picture = made (4 ^ k) (λ z. pos (get_or picture (raster_of k z) 0) -ℤ pos 128)

-- each number and 128: the greys before they are set into 0 to 255, in Z order
unfoldable pub raised : ℕ → List ℤ → List ℤ
raised k xs = made (4 ^ k) (λ z. at xs z +ℤ pos 128)

-- below 0 to 0, above 255 to 255
unfoldable pub grey : ℤ → ℕ
grey (pos g) = min g 255
grey (negsuc g) = 0

-- the greys at their raster places, set into 0 to 255
unfoldable pub pictured : ℕ → List ℤ → List ℕ
pictured k greys = made (4 ^ k) (λ place. grey (at greys (z_of k place)))

-- the wavelet numbers of a picture by the 5/3 rule, and the greys that wavelet numbers give back
unfoldable pub numbers_of : ℕ → ℕ → List ℕ → List ℤ
numbers_of k L picture = levels_forward line_forward L k (lowered k picture)

unfoldable pub greys_of : ℕ → ℕ → List ℤ → List ℤ
greys_of k L numbers = raised k (levels_back line_back L k numbers)

-- ---- a thumbnail, of side 2 ^ (k - r)
-- the r-level low band of a square: the upper left square that r levels leave
unfoldable pub low_band : (List ℤ → List ℤ) → ℕ → ℕ → List ℤ → List ℤ
low_band f r k xs = take (4 ^ (k - r)) (levels_forward f r k xs)

-- the r-level low band of a picture, by the 5/3 rule, and 128
unfoldable pub low_greys_of : ℕ → ℕ → List ℕ → List ℤ
low_greys_of k r picture = raised (k - r) (low_band line_forward r k (lowered k picture))

-- the greys that the first (S / 2 ^ r)² numbers alone give back: the inverse, which stops r levels early
unfoldable pub thumbnail_of : ℕ → ℕ → ℕ → List ℤ → List ℤ
thumbnail_of k L r numbers = greys_of (k - r) (L - r) (take (4 ^ (k - r)) numbers)
