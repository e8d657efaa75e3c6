-- Rows, columns and Z places: where each lies, and how each comes back from the others.
use Prim.Native.Nat.{ℕ, zero, suc, ◌+◌, ◌*◌, ◌/◌, ◌%◌, ◌^◌, ◌<◌, ◌≤◌, max}
use mathlib.Core.Path.{◌≡◌, refl, ap, ◌∙◌, sym}
use native.Mathlib.Nat.{pow-suc}
use native.Mathlib.Omega.{arith}
use lib.Dec.{lit≤}
use lib.Pow.{pow-add}
use Rattle.paper.specs.Places.{interleaved, row_of, column_of}
use Rattle.places.proofs.Moved.{moved_below, row_moved, column_moved}

-- ---- bounds
pub interleaved_below : (j r c : ℕ) → interleaved j r c < 4 ^ j
unfolding interleaved
interleaved_below zero r c = omega arith
interleaved_below (suc j) r c = omega (arith, pow-suc 4 j, interleaved_below j (r / 2) (c / 2))

pub row_below : (j z : ℕ) → row_of j z < 2 ^ j
row_below j z = rw (row_moved j z) (moved_below 4 2 j (z / 2) (lit≤ tt))

pub column_below : (j z : ℕ) → column_of j z < 2 ^ j
column_below j z = rw (column_moved j z) (moved_below 4 2 j z (lit≤ tt))

-- ---- there and back
pub row_back : (j r c : ℕ) → r < 2 ^ j → row_of j (interleaved j r c) ≡ r
unfolding row_of interleaved
row_back zero r c h = omega arith
row_back (suc j) r c h =
    let x : ℕ = interleaved j (r / 2) (c / 2) in
    let q : (c % 2 + 2 * (r % 2) + 4 * x) / 4 ≡ x = omega arith in
    let ih : row_of j x ≡ r / 2 = row_back j (r / 2) (c / 2) (omega (arith, pow-suc 2 j)) in
    let e : row_of j ((c % 2 + 2 * (r % 2) + 4 * x) / 4) ≡ r / 2 = ap (row_of j) q ∙ ih in
    omega arith

pub column_back : (j r c : ℕ) → c < 2 ^ j → column_of j (interleaved j r c) ≡ c
unfolding column_of interleaved
column_back zero r c h = omega arith
column_back (suc j) r c h =
    let x : ℕ = interleaved j (r / 2) (c / 2) in
    let q : (c % 2 + 2 * (r % 2) + 4 * x) / 4 ≡ x = omega arith in
    let ih : column_of j x ≡ c / 2 = column_back j (r / 2) (c / 2) (omega (arith, pow-suc 2 j)) in
    let e : column_of j ((c % 2 + 2 * (r % 2) + 4 * x) / 4) ≡ c / 2 = ap (column_of j) q ∙ ih in
    omega arith

pub interleaved_back : (j z : ℕ) → z < 4 ^ j → interleaved j (row_of j z) (column_of j z) ≡ z
unfolding interleaved row_of column_of
interleaved_back zero z h = omega arith
interleaved_back (suc j) z h =
    let r : ℕ = row_of j (z / 4) in
    let c : ℕ = column_of j (z / 4) in
    let a : (z / 2 % 2 + 2 * r) / 2 ≡ r = omega arith in
    let b : (z % 2 + 2 * c) / 2 ≡ c = omega arith in
    let ih : interleaved j r c ≡ z / 4 = interleaved_back j (z / 4) (omega (arith, pow-suc 4 j)) in
    let e : interleaved j ((z / 2 % 2 + 2 * r) / 2) ((z % 2 + 2 * c) / 2) ≡ z / 4 = rw (a, b) ih in
    omega arith

-- ---- the upper left quarter of a square is the first quarter of its places
pub upper_left : (j r c : ℕ) → r < 2 ^ j → c < 2 ^ j → interleaved (suc j) r c < 4 ^ j
unfolding interleaved
upper_left zero r c h k = omega arith
upper_left (suc j) r c h k =
    let p : 2 ^ suc j ≡ 2 ^ j * 2 = pow-suc 2 j in
    omega (arith, pow-suc 4 j, upper_left j (r / 2) (c / 2) (omega arith) (omega arith))

pub outside : (j r c : ℕ) → r < 2 ^ suc j → c < 2 ^ suc j → 2 ^ j ≤ max r c → 4 ^ j ≤ interleaved (suc j) r c
unfolding interleaved
outside zero r c h k m = omega arith
outside (suc j) r c h k m =
    let p : 2 ^ suc j ≡ 2 ^ j * 2 = pow-suc 2 j in
    let q : 2 ^ suc (suc j) ≡ 2 ^ suc j * 2 = pow-suc 2 (suc j) in
    omega (arith, pow-suc 4 j, outside j (r / 2) (c / 2) (omega arith) (omega arith) (omega arith))

-- ---- a square of side 2 ^ j has 4 ^ j places
doubled : (j : ℕ) → 2 ^ (j + j) ≡ 4 ^ j
doubled zero = refl
doubled (suc j) =
    let e : suc j + suc j ≡ suc (suc (j + j)) = omega arith in
    rw e (omega (arith, pow-suc 2 (suc (j + j)), pow-suc 2 (j + j), pow-suc 4 j, doubled j))

pub square : (j : ℕ) → 2 ^ j * 2 ^ j ≡ 4 ^ j
square j = sym (pow-add 2 j j) ∙ doubled j
