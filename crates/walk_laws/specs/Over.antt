-- One law for whatever is shown of a walk over a plane: what holds of nothing and of numbers in order, and is kept by a test in
-- front and by one part after another, holds of the plane.
use Rattle.std.specs.Prelude.{◌≡◌, ℤ, take, drop}
use Rattle.std.proofs.Math.Path.{ap}
use mathlib.Core.List.{List, [], ◌∷◌}
use Prim.Native.Nat.{ℕ, zero, suc, ◌+◌, ◌*◌, ◌^◌, ◌≤◌, ◌<◌}
use Rattle.std.proofs.Math.Nat.{pow-suc, pow-le-pow_right}
use Rattle.std.proofs.Common.{add-zero}
use native.Mathlib.Omega.{arith}
use Rattle.std.proofs.Math.ListN.{length, length-take, length-drop}
use Rattle.paper.specs.Walk.{Reading, test_set, walk_numbers, walk_set, walk_rest, walk_plane, ◌next◌}
use Rattle.list_laws.specs.Parts.{fourth}
use Rattle.walk_laws.specs.Asks.{opened}

abbrev pub Walk : Type 1
Walk = (R : Reading) → List ℤ → R.M (List ℤ)

-- a walk that a test stands before
abbrev pub tested : ℕ → Walk → Walk
tested p w R xs = R.then (test_set R p xs) (opened R xs (w R xs))

-- the first n numbers, then the others
abbrev pub split : Walk → Walk → ℕ → Walk
split w v n R xs = ◌next◌ R (w R (take n xs)) (v R (drop n xs))

module _ (p : ℕ) (P : Walk → List ℤ → Type 0) (nothing : P (λ R xs. R.done xs) []) (numbers : (xs : List ℤ) → P (λ R. walk_numbers R p) xs)
    (behind : (w : Walk) (xs : List ℤ) → 0 < length xs → P w xs → P (tested p w) xs)
    (parts : (w v : Walk) (n : ℕ) (xs : List ℤ) → n ≤ length xs → P w (take n xs) → P v (drop n xs) → P (split w v n) xs) where
  -- three sets of length q, then what lies behind them
  module _ (d : ℕ) (v : Walk) where
    abbrev q : ℕ
    q = 4 ^ suc d

    abbrev sets : Walk
    sets R = walk_set R p d

    over_three : ((ys : List ℤ) → length ys ≡ q → P sets ys) → (xs : List ℤ) → q * 3 ≤ length xs → P v (fourth q xs) → P (split sets (split sets (split sets v q) q) q) xs
    over_three S xs h T =
        let a = length-drop q xs in
        let b = length-drop q (drop q xs) in
        parts sets _ q xs (omega arith) (S (take q xs) (omega (arith, length-take q xs)))
        (parts sets _ q (drop q xs) (omega (arith, a)) (S (take q (drop q xs)) (omega (arith, a, length-take q (drop q xs))))
        (parts sets v q (drop q (drop q xs)) (omega (arith, a, b)) (S (take q (drop q (drop q xs))) (omega (arith, a, b, length-take q (drop q (drop q xs))))) T))

  pub over_set : (d : ℕ) (xs : List ℤ) → length xs ≡ 4 ^ suc d → P (λ R. walk_set R p d) xs
  unfolding walk_set
  over_set zero xs h = behind (λ R. walk_numbers R p) xs (omega arith) (numbers xs)
  over_set (suc d) xs h =
      let q = 4 ^ suc d in
      let e = pow-suc 4 (suc d) in
      let s : length (fourth q xs) ≡ q = omega (arith, e, h, length-drop q (drop q (drop q xs)), length-drop q (drop q xs), length-drop q xs) in
      behind _ xs (omega (arith, h, pow-le-pow_right {n = 4} (omega arith) {i = 0} {j = suc (suc d)} (omega arith)))
      (over_three d (λ R. walk_set R p d) (over_set d) xs (omega (arith, e, h)) (over_set d (fourth q xs) s))

  over_rest : (d left : ℕ) (xs : List ℤ) → length xs + 4 ^ suc d ≡ 4 ^ (suc d + left) → P (λ R. walk_rest R p d left) xs
  unfolding walk_rest
  over_rest d zero [] h = nothing
  over_rest d zero (x ∷ xs) h = absurd (omega (arith, ap (λ k. 4 ^ k) (add-zero (suc d))))
  over_rest d (suc left) xs h =
      let q = 4 ^ suc d in
      let e : suc d + suc left ≡ suc (suc d) + left = omega arith in
      let b : 4 ^ suc (suc d) ≤ 4 ^ (suc (suc d) + left) = pow-le-pow_right {n = 4} (omega arith) (omega arith) in
      let f = ap (λ k. 4 ^ k) e in
      let g = pow-suc 4 (suc d) in
      let some : 0 < q = omega (arith, pow-le-pow_right {n = 4} (omega arith) {i = 0} {j = suc d} (omega arith)) in
      let s : length (fourth q xs) + 4 ^ suc (suc d) ≡ 4 ^ (suc (suc d) + left) = omega (arith, h, b, f, g, length-drop q (drop q (drop q xs)), length-drop q (drop q xs), length-drop q xs) in
      behind _ xs (omega (arith, h, b, f, g, some)) (over_three d (λ R. walk_rest R p (suc d) left) (over_set d) xs (omega (arith, h, b, f, g)) (over_rest (suc d) left (fourth q xs) s))

  pub over_plane : (d L : ℕ) (xs : List ℤ) → length xs ≡ 4 ^ (suc d + L) → P (λ R. walk_plane R d L p) xs
  unfolding walk_plane
  over_plane d L xs h =
      let q = 4 ^ suc d in
      let b : q ≤ 4 ^ (suc d + L) = pow-le-pow_right {n = 4} (omega arith) (omega arith) in
      parts (λ R. walk_set R p d) (λ R. walk_rest R p d L) q xs (omega (arith, h, b)) (over_set d (take q xs) (omega (arith, h, b, length-take q xs))) (over_rest d L (drop q xs) (omega (arith, h, b, length-drop q xs)))
