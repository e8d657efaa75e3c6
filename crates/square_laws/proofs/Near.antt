-- The error law of the square: numbers that differ by at most E come back, after L levels, differing by at most (7 L + 1) E.
use Rattle.std.specs.Prelude.{◌≡◌, List, length, take, ℤ, pos}
use Rattle.std.proofs.Common.{arith, not-suc-le-zero, le_of_suc-le-suc, get_or-take, length-take-le}
use Rattle.std.proofs.Math.Bool.{false}
use Prim.Native.Nat.{ℕ, zero, suc, ◌+◌, ◌*◌, ◌-◌, ◌/◌, ◌^◌, ◌<◌, ◌≤◌}
use Rattle.std.proofs.Math.Nat.{pow-suc}
use Rattle.paper.specs.Lists.{at}
use Rattle.paper.specs.Square.{place_of, along, level_back, on_first, levels_back}
use Rattle.lift.specs.Off.{Off}
use Rattle.lift.proofs.Near.{wider}
use Rattle.line.specs.Rule.{Near, Rule}
use Rattle.square_laws.specs.Grid.{by_lines, first_low, first_rest}
use Rattle.square_laws.specs.Undone.{length_levels_back}
use Rattle.square_laws.specs.Near.{along_near, us, vs, left_column, right_column, seven, grown, grown_is}

-- ---- a level
module _ (R : Rule) (j a e : ℕ) (xs ys : List ℤ) (N : Near (4 ^ j) (4 ^ suc j) a e xs ys) where
  -- after the columns, and then the rows
  pub level_near : (z : ℕ) → z < 4 ^ suc j → Off (a + 7 * e) (at (level_back R.back (suc j) xs) z) (at (level_back R.back (suc j) ys) z)
  unfolding level_back place_of
  level_near = by_lines (λ z. Off (a + 7 * e) (at (along R.back (suc j) false (us R j a e xs ys N)) z) (at (along R.back (suc j) false (vs R j a e xs ys N)) z)) (suc j) false
      (λ r c h k. wider (along_near R j false r (a + e + (e + 1) / 2) (e + e + (e + 1) / 2) (us R j a e xs ys N) (vs R j a e xs ys N) h (λ c l. left_column R j a e xs ys N c l r h) (λ c g l. right_column R j a e xs ys N c g l r h) c k) (seven a e))

-- ---- levels
levels_grown : (R : Rule) (E L k : ℕ) (xs ys : List ℤ) → L ≤ k → length xs ≡ 4 ^ k → length ys ≡ 4 ^ k → ((z : ℕ) → z < 4 ^ k → Off E (at xs z) (at ys z))
    → (z : ℕ) → z < 4 ^ k → Off (grown E L) (at (levels_back R.back L k xs) z) (at (levels_back R.back L k ys) z)
unfolding levels_back grown
levels_grown R E zero k xs ys h p q N z l = N z l
levels_grown R E (suc L) zero xs ys h p q N z l = absurd (not-suc-le-zero h)
levels_grown R E (suc L) (suc k) xs ys h p q N z l =
    let r : suc k - 1 ≡ k = omega arith in
    rw r (level_near R k (grown E L) E (on_first (4 ^ k) (levels_back R.back L k) xs) (on_first (4 ^ k) (levels_back R.back L k) ys) (near (levels_grown R E L k (take (4 ^ k) xs) (take (4 ^ k) ys) (le_of_suc-le-suc h) (short xs p) (short ys q) part)) z l)
  where
    less : 4 ^ k ≤ 4 ^ suc k
    less = omega (arith, pow-suc 4 k)

    short : (ps : List ℤ) → length ps ≡ 4 ^ suc k → length (take (4 ^ k) ps) ≡ 4 ^ k
    short ps e = length-take-le (4 ^ k) ps (omega (arith, less))

    same : (ps : List ℤ) → length ps ≡ 4 ^ suc k → length (levels_back R.back L k (take (4 ^ k) ps)) ≡ 4 ^ k
    same ps e = length_levels_back R.back L k (take (4 ^ k) ps) (short ps e)

    part : (z : ℕ) → z < 4 ^ k → Off E (at (take (4 ^ k) xs) z) (at (take (4 ^ k) ys) z)
    part z c = rw (get_or-take (4 ^ k) xs z (pos 0) c, get_or-take (4 ^ k) ys z (pos 0) c) (N z (omega (arith, less)))

    near : ((z : ℕ) → z < 4 ^ k → Off (grown E L) (at (levels_back R.back L k (take (4 ^ k) xs)) z) (at (levels_back R.back L k (take (4 ^ k) ys)) z))
        → Near (4 ^ k) (4 ^ suc k) (grown E L) E (on_first (4 ^ k) (levels_back R.back L k) xs) (on_first (4 ^ k) (levels_back R.back L k) ys)
    near ih = record {
      low = λ i b. rw (first_low (4 ^ k) (levels_back R.back L k) xs i (same xs p) b, first_low (4 ^ k) (levels_back R.back L k) ys i (same ys q) b) (ih i b);
      rest = λ i b c. rw (first_rest (4 ^ k) (levels_back R.back L k) xs i (same xs p) b, first_rest (4 ^ k) (levels_back R.back L k) ys i (same ys q) b) (N i c);
    }

pub levels_near : (R : Rule) (E L k : ℕ) (xs ys : List ℤ) → L ≤ k → length xs ≡ 4 ^ k → length ys ≡ 4 ^ k → ((z : ℕ) → z < 4 ^ k → Off E (at xs z) (at ys z))
    → (z : ℕ) → z < 4 ^ k → Off ((7 * L + 1) * E) (at (levels_back R.back L k xs) z) (at (levels_back R.back L k ys) z)
levels_near R E L k xs ys h p q N z l = rw (← grown_is E L) (levels_grown R E L k xs ys h p q N z l)
