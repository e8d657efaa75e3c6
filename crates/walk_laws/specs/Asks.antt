-- What a test and a number ask for, by what the numbers held say: the walk's definitions, one case at a time.
use Rattle.std.specs.Prelude.{◌≡◌, Bool, true, false, List, [], ◌∷◌, ℕ, suc, ◌+◌, ◌^◌, ◌<◌, leb, ℤ, nat_abs, length}
use Rattle.std.proofs.Common.{ap, ◌∙◌, arith}
use Rattle.paper.specs.Walk.{negative, bit_of, reaches, Due, Reading, is_one, test_set, refined, begun, walk_number, depth}

module _ (R : Reading) where
  pub test_known : (p : ℕ) (xs : List ℤ) → reaches (2 ^ suc p) xs ≡ true → test_set R p xs ≡ R.done true
  unfolding test_set
  test_known p xs e = rw (e, test_set)

  pub test_asks : (p : ℕ) (xs : List ℤ) → reaches (2 ^ suc p) xs ≡ false
      → test_set R p xs ≡ R.then (R.ask (Due.test (length xs)) (reaches (2 ^ p) xs)) (λ b. R.done (is_one R b))
  unfolding test_set
  test_asks p xs e = rw (e, test_set)

  pub number_known : (p : ℕ) (x : ℤ) → leb (2 ^ suc p) (nat_abs x) ≡ true
      → walk_number R p x ≡ R.then (R.ask Due.more (bit_of p (nat_abs x))) (λ b. R.done (refined R p x b ∷ []))
  unfolding walk_number
  number_known p x e = rw (e, walk_number)

  -- a number below 2T after its first bit: the sign bit after a 1
  abbrev pub after_bit : ℕ → ℤ → Bool → R.M (List ℤ)
  after_bit p x b = elim b [ true ↦ R.then (R.ask Due.sign (negative x)) (λ s. R.done (begun R p x s ∷ [])) | false ↦ R.done (x ∷ []) ]

  pub number_asks : (p : ℕ) (x : ℤ) → leb (2 ^ suc p) (nat_abs x) ≡ false
      → walk_number R p x ≡ R.then (R.ask (Due.test 1) (leb (2 ^ p) (nat_abs x))) (λ b. after_bit p x (is_one R b))
  unfolding walk_number
  number_asks p x e = rw (e, walk_number)

  -- a part that is walked only if it is open
  abbrev pub opened : List ℤ → R.M (List ℤ) → Bool → R.M (List ℤ)
  opened xs m o = elim o [ true ↦ m | false ↦ R.done xs ]

-- the square's numbers are a plane's
pub square_sized : (k L : ℕ) (xs : List ℤ) → L < k → length xs ≡ 4 ^ k → length xs ≡ 4 ^ (suc (depth k L) + L)
square_sized k L xs levels square = square ∙ ap (λ j. 4 ^ j) (let e : k ≡ suc (depth k L) + L = omega arith in e)
