-- What any first part of the coding of numbers decodes to, number by number: the true ones with their unread bits cleared, so truthful
-- ones, and never worse for more bits.
use Rattle.std.specs.Prelude.{◌≡◌, Bool, true, List, ◌∷◌, ◌++◌, ℕ, suc, ◌+◌, ◌-◌, ◌^◌, ◌≤◌, ◌<◌, ℤ, nat_abs, ◌-ℤ◌}
use Rattle.std.proofs.Math.Path.{sym, ap}
use Rattle.std.proofs.Common.{◌∙◌, take-add, drop-cons}
use Rattle.std.proofs.Math.Bool.{false}
use native.Mathlib.Omega.{arith}
use Rattle.std.proofs.Math.ListN.{length, take, drop, get_or, take-append-drop}
use Rattle.paper.specs.Sizes.{numbers_in}
use Rattle.paper.specs.Lists.{at}
use Rattle.paper.specs.Walk.{plane_count, depth, code_of, Settled, unread_at}
use Rattle.walk_laws.specs.Cleared.{cleared, high_mono, cleared_none}
use Rattle.walk_laws.specs.Asks.{square_sized}
use Rattle.walk_laws.specs.Planes.{unsettled, unsettled_is, Further, run, run_part}
use Rattle.walk_laws.specs.Decoded.{Truthful, cleared_truthful, unread_before, unread_most, cleared_gap, no_gap, decoded_first, decoded, all_bits, stopped_at, split_bits}

module _ (k L : ℕ) (xs : List ℤ) (levels : L < k) (square : length xs ≡ 4 ^ k) (numbers_in_lem : numbers_in xs ≡ true) where
  abbrev d : ℕ
  d = depth k L

  abbrev n : ℕ
  n = plane_count xs

  abbrev code : List Bool
  code = code_of k L xs

  abbrev sized : length xs ≡ 4 ^ (suc d + L)
  sized = square_sized k L xs levels square

  -- the first b bits and the first c, neither all of them
  some_bits : (b c : ℕ) → b ≤ c → c < length code → Further xs n (run d L xs sized n (take b code)) (run d L xs sized n (take c code))
  unfolding code_of
  some_bits b c h g =
      let k = take (c - b) (drop b code) in
      let join : take b code ++ k ≡ take c code = sym (take-add b (c - b) code) ∙ ap (λ j. take j code) (let e : b + (c - b) ≡ c = omega arith in e) in
      let e : (take b code ++ k) ++ get_or code c false ∷ drop (suc c) code ≡ code = (λ i. join i ++ sym (drop-cons code c false g) i) ∙ take-append-drop c code in
      rw join at (run_part d L xs sized n (take b code) k (get_or code c false) (drop (suc c) code) e)

  -- the low bits of number i that the first b bits leave unread
  abbrev pub unread_first : ℕ → ℕ → ℕ
  unread_first b i = unread_at (decoded_first k L xs b).unfinished (decoded_first k L xs b).place i

  -- Of any first part: number i is the true one with its unread bits cleared.
  pub decoded_at : (b i : ℕ) → at (decoded_first k L xs b).numbers i ≡ cleared (unread_first b i) (at xs i)
  decoded_at b i = split_bits k L xs levels square numbers_in_lem b _ every some
    where
      none : (u : ℕ) → u ≤ 0 → at xs i ≡ cleared u (at xs i)
      none u h = sym (cleared_none (at xs i)) ∙ ap (λ u. cleared u (at xs i)) (let e : 0 ≡ u = omega arith in e)

      every : length code ≤ b → at (decoded_first k L xs b).numbers i ≡ cleared (unread_first b i) (at xs i)
      every h = rw (all_bits k L xs levels square numbers_in_lem b h) (none (unread_at 0 0 i) (unread_most 0 0 i))

      some : b < length code → at (decoded_first k L xs b).numbers i ≡ cleared (unread_first b i) (at xs i)
      some g =
          let S = some_bits b b (omega arith) g in
          stopped_at k L xs levels square numbers_in_lem b i S.fewer ∙ ap (λ u. cleared u (at xs i)) (unsettled_is S.plane S.count i ∙ ap (λ (s : Settled). unread_at s.unfinished s.place i) (sym (decoded k L xs levels square numbers_in_lem (take b code) S.fewer.is)))

  -- So where no more than q of its bits are unread no magnitude is above the true one, none short by more than 2 ^ q - 1, none but 0 has the wrong sign.
  unread_truthful : (b i q : ℕ) → unread_first b i ≤ q → Truthful q (at xs i) (at (decoded_first k L xs b).numbers i)
  unread_truthful b i q h = rw (decoded_at b i) (cleared_truthful (unread_first b i) q (at xs i) h)

  -- That is so of every number with p, and with p - 1 of those before the place.
  pub decoded_truthful : (b i : ℕ) → Truthful (decoded_first k L xs b).unfinished (at xs i) (at (decoded_first k L xs b).numbers i)
  decoded_truthful b i = unread_truthful b i _ (unread_most _ _ i)

  pub decoded_truthful_before : (b i : ℕ) → i < (decoded_first k L xs b).place → Truthful ((decoded_first k L xs b).unfinished - 1) (at xs i) (at (decoded_first k L xs b).numbers i)
  decoded_truthful_before b i h = unread_truthful b i _ (omega (arith, unread_before (decoded_first k L xs b).unfinished (decoded_first k L xs b).place i (omega (arith, h))))

  -- More bits never move a number away from the truth.
  pub decoded_never_worse : (b c i : ℕ) → b ≤ c
      → nat_abs (at xs i -ℤ at (decoded_first k L xs c).numbers i) ≤ nat_abs (at xs i -ℤ at (decoded_first k L xs b).numbers i)
  decoded_never_worse b c i h = split_bits k L xs levels square numbers_in_lem c _ every some
    where
      x : ℤ
      x = at xs i

      every : length code ≤ c → nat_abs (x -ℤ at (decoded_first k L xs c).numbers i) ≤ nat_abs (x -ℤ at (decoded_first k L xs b).numbers i)
      every g = rw (all_bits k L xs levels square numbers_in_lem c g) (omega (arith, no_gap x))

      some : c < length code → nat_abs (x -ℤ at (decoded_first k L xs c).numbers i) ≤ nat_abs (x -ℤ at (decoded_first k L xs b).numbers i)
      some g =
          let S = some_bits b c h g in
          let q = unsettled S.plane S.count i in
          let r = unsettled S.plane' S.count' i in
          rw (stopped_at k L xs levels square numbers_in_lem b i S.fewer, stopped_at k L xs levels square numbers_in_lem c i S.more) (omega (arith, cleared_gap q x, cleared_gap r x, high_mono r q (nat_abs x) (S.settles i)))
