-- The lines of a square of side 2 ^ j in Z order, rows and columns alike: every place is number i of one line l.
use Rattle.std.specs.Prelude.{◌≡◌, Bool, true, false, List, ◌++◌, ℕ, zero, suc, ◌+◌, ◌*◌, ◌-◌, ◌^◌, ◌<◌, ◌≤◌, length, take, drop, ℤ, pos}
use Rattle.std.proofs.Common.{sym, ap, ◌∙◌, arith, pow-suc, length-append, length-drop, ext_get_or, get_or-append-add, get_or-drop}
use Rattle.std.proofs.Math.ListN.{get_or-append}
use Rattle.paper.specs.Lists.{at}
use Rattle.paper.specs.Square.{place_of, line_of, spot_of, line, along, on_first}
use Rattle.places.proofs.Interleaving.{interleaved_below, interleaved_back, row_below, column_below, row_back, column_back}
use Rattle.list_laws.specs.Made.{length_made, get_d_made}

-- ---- places, lines and spots
pub place_below : (j : ℕ) (down : Bool) (l i : ℕ) → place_of j down l i < 4 ^ j
unfolding place_of
place_below j false l i = interleaved_below j l i
place_below j true l i = interleaved_below j i l

pub line_below : (j : ℕ) (down : Bool) (z : ℕ) → line_of j down z < 2 ^ j
unfolding line_of
line_below j false z = row_below j z
line_below j true z = column_below j z

pub spot_below : (j : ℕ) (down : Bool) (z : ℕ) → spot_of j down z < 2 ^ j
unfolding spot_of
spot_below j false z = column_below j z
spot_below j true z = row_below j z

pub line_of_place : (j : ℕ) (down : Bool) (l i : ℕ) → l < 2 ^ j → line_of j down (place_of j down l i) ≡ l
unfolding place_of line_of
line_of_place j false l i h = row_back j l i h
line_of_place j true l i h = column_back j i l h

pub spot_of_place : (j : ℕ) (down : Bool) (l i : ℕ) → i < 2 ^ j → spot_of j down (place_of j down l i) ≡ i
unfolding place_of spot_of
spot_of_place j false l i h = column_back j l i h
spot_of_place j true l i h = row_back j i l h

pub place_of_line : (j : ℕ) (down : Bool) (z : ℕ) → z < 4 ^ j → place_of j down (line_of j down z) (spot_of j down z) ≡ z
unfolding place_of line_of spot_of
place_of_line j false z h = interleaved_back j z h
place_of_line j true z h = interleaved_back j z h

-- what holds along every line holds everywhere
pub by_lines : (P : ℕ → Type 0) (j : ℕ) (down : Bool) → ((l i : ℕ) → l < 2 ^ j → i < 2 ^ j → P (place_of j down l i)) → (z : ℕ) → z < 4 ^ j → P z
by_lines P j down F z h = rw (place_of_line j down z h) at (F (line_of j down z) (spot_of j down z) (line_below j down z) (spot_below j down z))

-- ---- lines, and the square with each of its lines changed
pub length_line : (j : ℕ) (down : Bool) (xs : List ℤ) (l : ℕ) → length (line j down xs l) ≡ 2 ^ j
unfolding line
length_line j down xs l = length_made (2 ^ j) _

pub at_line : (j : ℕ) (down : Bool) (xs : List ℤ) (l i : ℕ) → i < 2 ^ j → at (line j down xs l) i ≡ at xs (place_of j down l i)
unfolding line
at_line j down xs l i h = get_d_made (2 ^ j) _ i (pos 0) h

pub length_along : (f : List ℤ → List ℤ) (j : ℕ) (down : Bool) (xs : List ℤ) → length (along f j down xs) ≡ 4 ^ j
unfolding along
length_along f j down xs = length_made (4 ^ j) _

pub at_along : (f : List ℤ → List ℤ) (j : ℕ) (down : Bool) (xs : List ℤ) (l i : ℕ) → l < 2 ^ j → i < 2 ^ j → at (along f j down xs) (place_of j down l i) ≡ at (f (line j down xs l)) i
unfolding along
at_along f j down xs l i h k = get_d_made (4 ^ j) _ (place_of j down l i) (pos 0) (place_below j down l i) ∙ rw (line_of_place j down l i h, spot_of_place j down l i k)

-- two squares are the same where their lines are
pub same_square : (j : ℕ) (down : Bool) (xs ys : List ℤ) → length xs ≡ 4 ^ j → length ys ≡ 4 ^ j → ((l i : ℕ) → l < 2 ^ j → i < 2 ^ j → at xs (place_of j down l i) ≡ at ys (place_of j down l i)) → xs ≡ ys
same_square j down xs ys p q E = ext_get_or (pos 0) xs ys (p ∙ sym q) (λ z h. by_lines (λ z. at xs z ≡ at ys z) j down E z (omega arith))

-- ---- the first n numbers changed by f, which keeps their count
pub length_first : (n : ℕ) (f : List ℤ → List ℤ) (xs : List ℤ) → n ≤ length xs → length (f (take n xs)) ≡ n → length (on_first n f xs) ≡ length xs
unfolding on_first
length_first n f xs h e = length-append (f (take n xs)) _ ∙ omega (arith, length-drop n xs)

pub first_low : (n : ℕ) (f : List ℤ → List ℤ) (xs : List ℤ) (z : ℕ) → length (f (take n xs)) ≡ n → z < n → at (on_first n f xs) z ≡ at (f (take n xs)) z
unfolding on_first
first_low n f xs z e h = get_or-append (f (take n xs)) (drop n xs) (pos 0) z (omega arith)

pub first_rest : (n : ℕ) (f : List ℤ → List ℤ) (xs : List ℤ) (z : ℕ) → length (f (take n xs)) ≡ n → n ≤ z → at (on_first n f xs) z ≡ at xs z
unfolding on_first
first_rest n f xs z e h =
    let q : z ≡ length (f (take n xs)) + (z - n) = omega arith in
    let r : n + (z - n) ≡ z = omega arith in
    ap (λ (i : ℕ). at (f (take n xs) ++ drop n xs) i) q ∙ get_or-append-add (f (take n xs)) (drop n xs) (z - n) (pos 0) ∙ get_or-drop n xs (z - n) (pos 0) ∙ ap (at xs) r

-- ---- sides and quarters
-- a side is even
pub halved : (j : ℕ) → 0 < j → 2 ^ j ≡ 2 * 2 ^ (j - 1)
halved zero h = omega arith
halved (suc j) h =
    let e : suc j - 1 ≡ j = omega arith in
    rw e (omega (arith, pow-suc 2 j))

pub quarter_le : (k : ℕ) → 4 ^ (k - 1) ≤ 4 ^ k
quarter_le zero = omega arith
quarter_le (suc k) =
    let e : suc k - 1 ≡ k = omega arith in
    rw e (omega (arith, pow-suc 4 k))
