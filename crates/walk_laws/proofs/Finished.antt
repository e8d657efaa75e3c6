-- In the coding of numbers a plane is finished with its last bit and not before.
use Rattle.std.specs.Prelude.{◌≡◌, Bool, true, List, ℕ, suc, ◌+◌, ◌-◌, ◌^◌, ◌≤◌, ◌<◌, ℤ}
use Rattle.std.proofs.Common.{sym, ◌∙◌}
use Rattle.std.proofs.Math.Path.{ap}
use Rattle.std.proofs.Math.Bool.{false}
use native.Mathlib.Omega.{arith}
use Rattle.std.proofs.Math.ListN.{length, length-drop}
use Rattle.paper.specs.Sizes.{numbers_in}
use Rattle.paper.specs.Walk.{plane_count, depth, code_of}
use Rattle.walk_laws.specs.Asks.{square_sized}
use Rattle.walk_laws.specs.Together.{tape}
use Rattle.walk_laws.specs.Planes.{planes_code}
use Rattle.walk_laws.specs.Decoded.{decoded_first, start_cleared}
use Rattle.walk_laws.specs.Down.{walk_down}
use Rattle.walk_laws.specs.Unfinished.{planes_over, bits_through}
use Rattle.walk_laws.proofs.Unfinished.{through_first, last_bit_any, before_last_bit_any}
use Rattle.walk_laws.specs.Finished.{coded_through, down_coding, coding_read}

module _ (k L : ℕ) (xs : List ℤ) (levels : L < k) (square : length xs ≡ 4 ^ k) (numbers_in_lem : numbers_in xs ≡ true) where
  abbrev d : ℕ
  d = depth k L

  abbrev n : ℕ
  n = plane_count xs

  abbrev code : List Bool
  code = code_of k L xs

  -- the decoder's count of the bits is the coder's
  coding_left : (q : ℕ) → q ≤ n → bits_through k L n q code + length (planes_code d L xs q) ≡ length code
  unfolding planes_over bits_through code_of
  coding_left q h =
      let left : (planes_over k L n q code).1 ≡ planes_code d L xs q = ap (λ z. (walk_down d L q n z (tape code false 0)).1.left) (sym (start_cleared k L xs levels square numbers_in_lem))
      ∙ ap (λ r. r.1.left) (down_coding d L xs (square_sized k L xs levels square) q n h) in
      omega (arith, ap length left, ap length (through_first k L n q code (coding_read k L xs levels square numbers_in_lem q)), length-drop (bits_through k L n q code) code)

  -- The last bit of plane q is where the coder wrote it.
  pub coding_through : (q : ℕ) → q ≤ n → bits_through k L n q code ≡ coded_through k L xs q
  unfolding coded_through
  coding_through q h = omega (arith, coding_left q h)

  -- After it exactly q planes are unfinished, and one bit before it q + 1.
  pub last_bit : (q : ℕ) → q ≤ n → (decoded_first k L xs (coded_through k L xs q)).unfinished ≡ q
  last_bit q h = rw coding_through at (last_bit_any k L n q code h (coding_read k L xs levels square numbers_in_lem q))

  pub before_last_bit : (q : ℕ) → q < n → (decoded_first k L xs (coded_through k L xs q - 1)).unfinished ≡ suc q
  before_last_bit q h = rw (coding_through q (omega arith)) at (before_last_bit_any k L n q code h (coding_read k L xs levels square numbers_in_lem q))
