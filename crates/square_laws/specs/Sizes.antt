-- How large the numbers of a square become on the way forward: within M before, within M * 4 ^ L after L levels.
use Rattle.std.specs.Prelude.{◌≡◌, Bool, true, false, List, ℕ, zero, suc, ◌*◌, ◌-◌, ◌^◌, ◌<◌, ◌≤◌, length, take, ℤ, pos}
use Rattle.std.proofs.Common.{sym, ap, ◌∙◌, arith, pow-suc, mul_comm, mul_assoc, length-take, length-take-le, get_or-take}
use Rattle.std.proofs.Math.Decide.{dec_lt}
use Rattle.std.proofs.Math.ListN.{get_or-eq_default}
use Rattle.paper.specs.Lists.{at}
use Rattle.paper.specs.Square.{line, along, level_forward, on_first, levels_forward}
use Rattle.integer_laws.specs.Order.{Within}
use Rattle.lift.proofs.Steps.{grow, zero_within}
use Rattle.line.specs.Each.{Each}
use Rattle.line.specs.Rule.{Rule}
use Rattle.line.proofs.Sized.{each_below}
use Rattle.square_laws.specs.Grid.{by_lines, length_line, at_line, length_along, at_along, first_low, first_rest, halved, quarter_le}
use Rattle.square_laws.specs.Undone.{length_level, length_levels}

-- ---- parts and lines of a square are no larger
pub take_within : {B : ℕ} (n : ℕ) (xs : List ℤ) (z : ℕ) → Within B (at xs z) → Within B (at (take n xs) z)
take_within {B} n xs z w = go (dec_lt z n)
  where
    go : Dec (z < n) → Within B (at (take n xs) z)
    go (yes h) = rw (get_or-take n xs z (pos 0) h) w
    go (no h) = rw (get_or-eq_default (take n xs) (pos 0) {n = z} (omega (arith, length-take n xs))) (zero_within B)

pub take_each : {B : ℕ} (n : ℕ) (xs : List ℤ) → Each B xs → Each B (take n xs)
take_each n xs E z = take_within n xs z (E z)

pub first_each : {B : ℕ} (n : ℕ) (f : List ℤ → List ℤ) (xs : List ℤ) → length (f (take n xs)) ≡ n → Each B (f (take n xs)) → Each B xs → Each B (on_first n f xs)
first_each {B} n f xs e F E z = go (dec_lt z n)
  where
    go : Dec (z < n) → Within B (at (on_first n f xs) z)
    go (yes h) = rw (first_low n f xs z e h) (F z)
    go (no h) = rw (first_rest n f xs z e (omega arith)) (E z)

pub line_each : {B : ℕ} (j : ℕ) (down : Bool) (xs : List ℤ) (l : ℕ) → Each B xs → Each B (line j down xs l)
line_each j down xs l E = each_below (line j down xs l) (λ i h. rw (at_line j down xs l i (omega (arith, length_line j down xs l))) (E _))

-- a pass grows the square as it grows a line
pub along_each : {A B : ℕ} (f : List ℤ → List ℤ) (j : ℕ) (down : Bool) (xs : List ℤ) → ((ys : List ℤ) → length ys ≡ 2 ^ j → Each A ys → Each B (f ys)) → Each A xs → Each B (along f j down xs)
along_each {A} {B} f j down xs F E = each_below (along f j down xs)
    (λ z h. by_lines (λ z. Within B (at (along f j down xs) z)) j down
    (λ l i p q. rw (at_along f j down xs l i p q) (F (line j down xs l) (length_line j down xs l) (line_each j down xs l E) i))
    z (omega (arith, length_along f j down xs)))

-- ---- forward
pub pass_each : {M : ℕ} (R : Rule) (j : ℕ) (down : Bool) (xs : List ℤ) → 0 < j → Each M xs → Each (2 * M) (along R.forward j down xs)
pass_each {M} R j down xs h = along_each R.forward j down xs (λ ys e. R.grows M (2 ^ (j - 1)) ys (e ∙ halved j h))

pub level_each : {M : ℕ} (R : Rule) (j : ℕ) (xs : List ℤ) → 0 < j → Each M xs → Each (4 * M) (level_forward R.forward j xs)
unfolding level_forward
level_each R j xs h E z = grow (pass_each R j true _ h (pass_each R j false xs h E) z) (omega arith)

pub le_mul_pow : (a L : ℕ) → a ≤ a * 4 ^ L
le_mul_pow a zero = omega arith
le_mul_pow a (suc L) = omega (arith, le_mul_pow a L, mul_assoc a (4 ^ L) 4 ∙ ap (λ (x : ℕ). a * x) (sym (pow-suc 4 L)))

pub levels_each : (R : Rule) (M L k : ℕ) (xs : List ℤ) → L ≤ k → length xs ≡ 4 ^ k → Each M xs → Each (M * 4 ^ L) (levels_forward R.forward L k xs)
unfolding levels_forward
levels_each R M zero k xs h e E = λ z. grow (E z) (omega arith)
levels_each R M (suc L) k xs h e E =
    first_each (4 ^ (k - 1)) (levels_forward R.forward L (k - 1)) ys (length_levels R.forward L (k - 1) _ short)
    (λ z. grow (levels_each R (4 * M) L (k - 1) (take (4 ^ (k - 1)) ys) (omega arith) short (take_each (4 ^ (k - 1)) ys F) z) (omega (arith, same)))
    (λ z. grow (F z) (omega (arith, same, le_mul_pow (4 * M) L)))
  where
    ys : List ℤ
    ys = level_forward R.forward k xs

    F : Each (4 * M) ys
    F = level_each R k xs (omega arith) E

    short : length (take (4 ^ (k - 1)) ys) ≡ 4 ^ (k - 1)
    short = length-take-le (4 ^ (k - 1)) ys (omega (arith, quarter_le k, length_level R.forward k xs))

    same : 4 * M * 4 ^ L ≡ M * 4 ^ suc L
    same = rw (pow-suc 4 L, mul_comm 4 M, mul_assoc M 4 (4 ^ L), mul_comm 4 (4 ^ L))
