-- What the softer numbers of any first part of a coding are worth, each against the true one.
use Rattle.std.specs.Prelude.{◌≡◌, true, List, ℕ, ◌-◌, ◌^◌, ◌<◌, ◌≤◌, ℤ, nat_abs, ◌-ℤ◌, length, take}
use Rattle.std.proofs.Common.{arith, pow_mono}
use Rattle.paper.specs.Sizes.{numbers_in}
use Rattle.paper.specs.Lists.{at}
use Rattle.paper.specs.Walk.{negative, plane_count, code_of}
use Rattle.paper.specs.Softer.{half_of, moved_up, softened}
use Rattle.walk_laws.specs.Cleared.{high, cleared, high_le, lt_high, signed_self}
use Rattle.walk_laws.specs.Decoded.{unread_most, count_fits, decoded_first}
use Rattle.walk_laws.specs.Unfinished.{unfinished_most}
use Rattle.walk_laws.proofs.Decoded.{unread_first, decoded_at}
use Rattle.walk_laws.specs.Softer.{Softer, softer_signed, softer_below, at_softened, at_most}

pub softer_cleared : (u : ℕ) (x : ℤ) → Softer u x (cleared u x) (moved_up (half_of u) (cleared u x))
unfolding cleared
softer_cleared u x =
    rw (signed_self x) at (softer_signed u (negative x) (nat_abs x) (high u (nat_abs x)) (high_le u (nat_abs x)) (lt_high u (nat_abs x)))

-- Of any first part of a coding: each number shown against the true one.
module _ (k L : ℕ) (xs : List ℤ) (levels : L < k) (square : length xs ≡ 4 ^ k) (numbers_in_lem : numbers_in xs ≡ true) where
  -- the numbers shown of the first b bits
  abbrev pub shown_first : ℕ → List ℤ
  shown_first b = let s = decoded_first k L xs b in softened s.unfinished s.place s.numbers

  pub decoded_softer : (b i : ℕ) → Softer (unread_first k L xs levels square numbers_in_lem b i) (at xs i) (at (decoded_first k L xs b).numbers i) (at (shown_first b) i)
  decoded_softer b i =
      let s = decoded_first k L xs b in
      rw (at_softened s.unfinished s.place s.numbers i, decoded_at k L xs levels square numbers_in_lem b i) (softer_cleared (unread_first k L xs levels square numbers_in_lem b i) (at xs i))

  -- and it stays below 2 ^ n, n the plane count
  pub softer_in_planes : (b i : ℕ) → nat_abs (at (shown_first b) i) < 2 ^ plane_count xs
  softer_in_planes b i =
      let s = decoded_first k L xs b in
      rw (at_softened s.unfinished s.place s.numbers i, decoded_at k L xs levels square numbers_in_lem b i)
      (softer_below (unread_first k L xs levels square numbers_in_lem b i) (plane_count xs) (at xs i) (omega (arith, unread_most s.unfinished s.place i, unfinished_most k L (plane_count xs) (take b (code_of k L xs)))) (omega (arith, at_most xs i, count_fits xs numbers_in_lem)))

  -- so none is further off than demand 3 says of the stored one
  pub softer_off : (b i : ℕ) → nat_abs (at xs i -ℤ at (shown_first b) i) ≤ 2 ^ (decoded_first k L xs b).unfinished - 1
  softer_off b i =
      let s = decoded_first k L xs b in
      omega (arith, (decoded_softer b i).within, pow_mono (unread_most s.unfinished s.place i))
