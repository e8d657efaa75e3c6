-- Raster places and Z places of a square of side 2 ^ k: both ways round, and neither leaves the square.
use Prim.Native.Nat.{ℕ, suc, ◌+◌, ◌*◌, ◌/◌, ◌%◌, ◌^◌, ◌<◌, ◌≤◌}
use mathlib.Core.Path.{◌≡◌}
use native.Mathlib.Nat.{mul-add-div_right, mul-add-mod_self_right, div-eq_of_lt, mod-eq_of_lt, add-zero, mul-le-mul_right, suc-mul, div-add-mod', div-lt_iff_lt-mul, mod-lt}
use native.Mathlib.Omega.{arith}
use lib.Pow.{pow_pos}
use Rattle.paper.specs.Places.{interleaved, row_of, column_of, z_of, raster_of}
use Rattle.places.proofs.Interleaving.{interleaved_below, interleaved_back, row_below, column_below, row_back, column_back, square}

-- the Z place of row r and column c
pub z_of_lem : (k r c : ℕ) → c < 2 ^ k → z_of k (r * 2 ^ k + c) ≡ interleaved k r c
unfolding z_of
z_of_lem k r c h = rw (mul-add-div_right (pow_pos k) r c, mul-add-mod_self_right r (2 ^ k) c, div-eq_of_lt h, mod-eq_of_lt h, add-zero)

pub raster_below : (k z : ℕ) → raster_of k z < 4 ^ k
unfolding raster_of
raster_below k z =
    let a : suc (row_of k z) * 2 ^ k ≤ 2 ^ k * 2 ^ k = mul-le-mul_right (2 ^ k) (row_below k z) in
    omega (arith, suc-mul (row_of k z) (2 ^ k), square k, column_below k z)

pub z_below : (k p : ℕ) → z_of k p < 4 ^ k
unfolding z_of
z_below k p = interleaved_below k _ _

pub z_of_raster : (k z : ℕ) → z < 4 ^ k → z_of k (raster_of k z) ≡ z
unfolding raster_of
z_of_raster k z h = rw (z_of_lem k (row_of k z) (column_of k z) (column_below k z)) (interleaved_back k z h)

pub raster_of_z : (k p : ℕ) → p < 4 ^ k → raster_of k (z_of k p) ≡ p
unfolding z_of raster_of
raster_of_z k p h =
    let q : p < 2 ^ k * 2 ^ k = omega (arith, square k) in
    rw (row_back k (p / 2 ^ k) (p % 2 ^ k) ((div-lt_iff_lt-mul (pow_pos k)).1 q), column_back k (p / 2 ^ k) (p % 2 ^ k) (mod-lt p (pow_pos k))) (div-add-mod' p (2 ^ k))
