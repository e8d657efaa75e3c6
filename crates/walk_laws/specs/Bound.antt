-- How many bits a coding has: at most n (4 S² - 1) / 3 + S².
use Rattle.std.specs.Prelude.{◌≡◌, refl, Bool, true, false, List, [], ◌∷◌, ◌++◌, leb, ℤ, nat_abs, take, drop}
use Rattle.std.proofs.Common.{sym, subst, append-nil, pow-suc, mul_left_comm, add-zero, arith, leb-true, le-leb, length-drop, take-append-drop}
use Rattle.std.proofs.Math.Path.{ap}
use Rattle.std.proofs.Math.Option.{some}
use Prim.Native.Nat.{ℕ, zero, suc, ◌+◌, ◌*◌, ◌-◌, ◌/◌, ◌^◌, ◌≤◌}
use Rattle.std.proofs.Math.Nat.{pow-le-pow_right, two-pow-succ, suc-mul}
use Rattle.std.proofs.Math.ListN.{length, length-append}
use Rattle.paper.specs.Walk.{reaches, is_one, Coder, test_set, walk_number, walk_numbers, walk_set, walk_rest, walk_plane, walk_planes, ◌next◌}
use Rattle.list_laws.specs.Parts.{fourth}
use Rattle.walk_laws.specs.Asks.{test_known, test_asks, number_known, number_asks, after_bit, opened}
use Rattle.walk_laws.specs.Planes.{planes_code, code_step}

-- ---- one plane
-- 1 for a number that becomes T or more in plane p, which costs a sign bit
fresh_by : Bool → Bool → ℕ
fresh_by true b = 0
fresh_by false true = 1
fresh_by false false = 0

fresh : ℕ → List ℤ → ℕ
fresh p [] = 0
fresh p (x ∷ xs) = fresh_by (leb (2 ^ suc p) (nat_abs x)) (leb (2 ^ p) (nat_abs x)) + fresh p xs

fresh_append : (p : ℕ) (xs ys : List ℤ) → fresh p (xs ++ ys) ≡ fresh p xs + fresh p ys
unfolding fresh
fresh_append p [] ys = omega arith
fresh_append p (x ∷ xs) ys = omega (arith, fresh_append p xs ys)

-- what walking xs costs: at most k tests, a bit for each number, and the signs
record Cost (p : ℕ) (xs : List ℤ) (c : List ℤ × List Bool) (k : ℕ) : Type 0 where
  most : length c.1 ≤ k + length xs + fresh p xs

cost_next : {p : ℕ} {xs ys : List ℤ} {c e : List ℤ × List Bool} {k j : ℕ} → Cost p xs c k → Cost p ys e j → Cost p (xs ++ ys) (◌next◌ Coder c e) (k + j)
unfolding ◌next◌
cost_next {p} {xs} {ys} {c} {e} C D = record {
  most = omega (arith, C.most, D.most, length-append c.1 (e.1 ++ []), ap length (append-nil e.1), length-append xs ys, fresh_append p xs ys);
}

cost_split : {p : ℕ} (n : ℕ) (xs : List ℤ) {c e : List ℤ × List Bool} {k j : ℕ} → Cost p (take n xs) c k → Cost p (drop n xs) e j → Cost p xs (◌next◌ Coder c e) (k + j)
cost_split {p} n xs {c} {e} {k} {j} C D = subst (λ l. Cost p l (◌next◌ Coder c e) (k + j)) (take-append-drop n xs) (cost_next C D)

cost_tested : (p : ℕ) (xs : List ℤ) (c : List ℤ × List Bool) (k : ℕ) → Cost p xs c k → Cost p xs (Coder.then {B = List ℤ} (test_set Coder p xs) (opened Coder xs c)) (suc k)
cost_tested p xs c k C = go (reaches (2 ^ suc p) xs) refl
  where
    asked : (b : Bool) → Cost p xs (Coder.then {A = Bool} {B = List ℤ} (b, b ∷ []) (opened Coder xs c)) (suc k)
    asked true = record { most = omega (arith, C.most) }
    asked false = record { most = omega arith }

    go : (b : Bool) → reaches (2 ^ suc p) xs ≡ b → Cost p xs (Coder.then {B = List ℤ} (test_set Coder p xs) (opened Coder xs c)) (suc k)
    go true e = rw (test_known Coder p xs e) (record { most = omega (arith, C.most) })
    go false e = rw (test_asks Coder p xs e) (asked (reaches (2 ^ p) xs))

cost_number : (p : ℕ) (x : ℤ) → Cost p (x ∷ []) (walk_number Coder p x) 0
unfolding fresh fresh_by
cost_number p x = go (leb (2 ^ suc p) (nat_abs x)) refl
  where
    asked : (b : Bool) → leb (2 ^ suc p) (nat_abs x) ≡ false → leb (2 ^ p) (nat_abs x) ≡ b
        → Cost p (x ∷ []) (Coder.then {B = List ℤ} (some b, b ∷ []) (λ b. after_bit Coder p x (is_one Coder b))) 0
    asked true e f = let g : fresh_by (leb (2 ^ suc p) (nat_abs x)) (leb (2 ^ p) (nat_abs x)) ≡ 1 = λ i. fresh_by (e i) (f i) in record { most = omega arith }
    asked false e f = record { most = omega arith }

    go : (b : Bool) → leb (2 ^ suc p) (nat_abs x) ≡ b → Cost p (x ∷ []) (walk_number Coder p x) 0
    go true e = rw (number_known Coder p x e) (record { most = omega arith })
    go false e = rw (number_asks Coder p x e) (asked (leb (2 ^ p) (nat_abs x)) e refl)

cost_numbers : (p : ℕ) (xs : List ℤ) → Cost p xs (walk_numbers Coder p xs) 0
unfolding walk_numbers
cost_numbers p [] = record { most = omega arith }
cost_numbers p (x ∷ xs) = cost_next {k = 0} {j = 0} (cost_number p x) (cost_numbers p xs)

-- the tests of a set, and of the rest
unfoldable pub set_tests : ℕ → ℕ
set_tests zero = 1
set_tests (suc d) = suc (set_tests d + (set_tests d + (set_tests d + set_tests d)))

unfoldable pub rest_tests : ℕ → ℕ → ℕ
rest_tests d zero = 0
rest_tests d (suc left) = suc (set_tests d + (set_tests d + (set_tests d + rest_tests (suc d) left)))

cost_three : (p d : ℕ) (xs : List ℤ) {k j : ℕ} {c : List ℤ → List ℤ × List Bool} {e : List ℤ × List Bool} → ((ys : List ℤ) → Cost p ys (c ys) k) → Cost p (fourth (4 ^ suc d) xs) e j
    → Cost p xs (◌next◌ Coder (c (take (4 ^ suc d) xs)) (◌next◌ Coder (c (take (4 ^ suc d) (drop (4 ^ suc d) xs))) (◌next◌ Coder (c (take (4 ^ suc d) (drop (4 ^ suc d) (drop (4 ^ suc d) xs)))) e))) (k + (k + (k + j)))
cost_three p d xs C D = let q = 4 ^ suc d in cost_split q xs (C _) (cost_split q (drop q xs) (C _) (cost_split q (drop q (drop q xs)) (C _) D))

cost_set : (p d : ℕ) (xs : List ℤ) → Cost p xs (walk_set Coder p d xs) (set_tests d)
unfolding walk_set set_tests
cost_set p zero xs = cost_tested p xs _ 0 (cost_numbers p xs)
cost_set p (suc d) xs = cost_tested p xs _ _ (cost_three p d xs {c = walk_set Coder p d} (cost_set p d) (cost_set p d (fourth (4 ^ suc d) xs)))

-- the levels end where the numbers do
abbrev Closes : ℕ → ℕ → List ℤ → Type 0
Closes d zero xs = xs ≡ []
Closes d (suc left) xs = Closes (suc d) left (fourth (4 ^ suc d) xs)

rest_closes : (d left : ℕ) (xs : List ℤ) → length xs + 4 ^ suc d ≡ 4 ^ (suc d + left) → Closes d left xs
rest_closes d zero [] h = refl
rest_closes d zero (x ∷ xs) h = absurd (omega (arith, ap (λ k. 4 ^ k) (add-zero (suc d))))
rest_closes d (suc left) xs h =
    let q = 4 ^ suc d in
    let e : suc d + suc left ≡ suc (suc d) + left = omega arith in
    let b : 4 ^ suc (suc d) ≤ 4 ^ (suc (suc d) + left) = pow-le-pow_right {n = 4} (omega arith) (omega arith) in
    rest_closes (suc d) left (fourth q xs)
    (omega (arith, h, pow-suc 4 (suc d), b, ap (λ k. 4 ^ k) e, length-drop q (drop q (drop q xs)), length-drop q (drop q xs), length-drop q xs))

-- a plane's levels end where its 4 ^ (suc d + L) numbers do
plane_closes : (d L : ℕ) (xs : List ℤ) → length xs ≡ 4 ^ (suc d + L) → Closes d L (drop (4 ^ suc d) xs)
plane_closes d L xs s =
    rest_closes d L (drop (4 ^ suc d) xs) (omega (arith, length-drop (4 ^ suc d) xs, pow-le-pow_right {n = 4} (omega arith) {i = suc d} {j = suc d + L} (omega arith)))

-- the rest may end in numbers that no level covers, so it is held to its numbers only where the levels end with them
cost_rest : (p d left : ℕ) (xs : List ℤ) → Closes d left xs → Cost p xs (walk_rest Coder p d left xs) (rest_tests d left)
unfolding walk_rest rest_tests
cost_rest p d zero xs h = subst (λ l. Cost p l (l, []) 0) (sym h) (record { most = omega arith })
cost_rest p d (suc left) xs h = cost_tested p xs _ _ (cost_three p d xs {c = walk_set Coder p d} (cost_set p d) (cost_rest p (suc d) left (fourth (4 ^ suc d) xs) h))

cost_plane : (p d L : ℕ) (xs : List ℤ) → Closes d L (drop (4 ^ suc d) xs) → Cost p xs (walk_plane Coder d L p xs) (set_tests d + rest_tests d L)
unfolding walk_plane
cost_plane p d L xs h = cost_split (4 ^ suc d) xs (cost_set p d (take (4 ^ suc d) xs)) (cost_rest p d L (drop (4 ^ suc d) xs) h)

-- each plane makes at most (S² - 1) / 3 set tests
pub set_tests_lem : (d : ℕ) → 3 * set_tests d + 1 ≡ 4 ^ suc d
unfolding set_tests
set_tests_lem zero = refl
set_tests_lem (suc d) = omega (arith, set_tests_lem d, pow-suc 4 (suc d))

pub rest_tests_lem : (d left : ℕ) → 3 * rest_tests d left + 4 ^ suc d ≡ 4 ^ (suc d + left)
unfolding rest_tests
rest_tests_lem d zero = omega (arith, ap (λ k. 4 ^ k) (let e : suc d ≡ suc d + 0 = omega arith in e))
rest_tests_lem d (suc left) = omega (arith, set_tests_lem d, rest_tests_lem (suc d) left, pow-suc 4 (suc d), ap (λ k. 4 ^ k) (let e : suc (suc d) + left ≡ suc d + suc left = omega arith in e))

plane_tests : (d L : ℕ) → 3 * (set_tests d + rest_tests d L) + 1 ≡ 4 ^ (suc d + L)
plane_tests d L = omega (arith, set_tests_lem d, rest_tests_lem d L)

-- ---- all planes
-- over all planes a number becomes T or more once at most
sign_bits : ℕ → List ℤ → ℕ
sign_bits zero xs = 0
sign_bits (suc p) xs = fresh p xs + sign_bits p xs

signs_cons : (n : ℕ) (x : ℤ) (xs : List ℤ) → sign_bits n (x ∷ xs) ≡ sign_bits n (x ∷ []) + sign_bits n xs
unfolding sign_bits fresh
signs_cons zero x xs = refl
signs_cons (suc n) x xs = omega (arith, signs_cons n x xs)

signs_known : (n : ℕ) (x : ℤ) → 2 ^ n ≤ nat_abs x → sign_bits n (x ∷ []) ≡ 0
unfolding sign_bits fresh fresh_by
signs_known zero x h = refl
signs_known (suc n) x h =
    let e : fresh_by (leb (2 ^ suc n) (nat_abs x)) (leb (2 ^ n) (nat_abs x)) ≡ 0 = ap (λ b. fresh_by b (leb (2 ^ n) (nat_abs x))) (le-leb (2 ^ suc n) (nat_abs x) h) in
    omega (arith, signs_known n x (omega (arith, two-pow-succ n)))

signs_one : (n : ℕ) (x : ℤ) → sign_bits n (x ∷ []) ≤ 1
unfolding sign_bits fresh fresh_by
signs_one zero x = omega arith
signs_one (suc n) x = go (leb (2 ^ suc n) (nat_abs x)) (leb (2 ^ n) (nat_abs x)) refl (signs_one n x)
  where
    go : (b c : Bool) → leb (2 ^ n) (nat_abs x) ≡ c → sign_bits n (x ∷ []) ≤ 1 → (fresh_by b c + 0) + sign_bits n (x ∷ []) ≤ 1
    go true c e ih = omega arith
    go false true e ih = omega (arith, signs_known n x (leb-true (2 ^ n) (nat_abs x) e))
    go false false e ih = omega arith

signs_none : (n : ℕ) → sign_bits n [] ≡ 0
unfolding sign_bits fresh
signs_none zero = refl
signs_none (suc n) = omega (arith, signs_none n)

signs_most : (n : ℕ) (xs : List ℤ) → sign_bits n xs ≤ length xs
signs_most n [] = omega (arith, signs_none n)
signs_most n (x ∷ xs) = omega (arith, signs_cons n x xs, signs_one n x, signs_most n xs)

module _ (d L : ℕ) (xs : List ℤ) (h : length xs ≡ 4 ^ (suc d + L)) where
  cost_planes : (n : ℕ) → length (planes_code d L xs n) ≤ n * (set_tests d + rest_tests d L + length xs) + sign_bits n xs
  unfolding sign_bits
  cost_planes zero = unfold walk_planes in (omega arith)
  cost_planes (suc p) =
      omega (arith, (cost_plane p d L xs (plane_closes d L xs h)).most, cost_planes p, ap length (code_step d L xs h p), length-append (walk_plane Coder d L p xs).1 (planes_code d L xs p), suc-mul p (set_tests d + rest_tests d L + length xs))

  pub planes_bound : (n : ℕ) → length (planes_code d L xs n) ≤ n * (4 * length xs - 1) / 3 + length xs
  planes_bound n =
      let t = set_tests d + rest_tests d L in
      let e : 3 * (t + length xs) ≡ 4 * length xs - 1 = omega (arith, plane_tests d L) in
      let f : n * (3 * (t + length xs)) ≡ 3 * (n * (t + length xs)) = mul_left_comm n 3 (t + length xs) in
      omega (arith, cost_planes n, signs_most n xs, f, ap (λ k. n * k) e)
