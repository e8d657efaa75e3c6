-- The words of what the check catches: a block that passes its check, its bytes changed or exchanged, and what the check makes of it.
use Rattle.std.specs.Prelude.{◌≡◌, refl, true, false, List, ℕ, zero, suc, length, set, replicate}
use Rattle.std.proofs.Common.{arith}
use Rattle.paper.specs.Lists.{Bytes}
use Rattle.paper.specs.Block.{block_bytes, byte_at, plain_sum, weighed_sum, checks_right, edition_in, origin_right, block_refusal}
use Rattle.paper.specs.Cases.{block417}

-- 512 bytes that pass their check: A and B are right, whatever the fields say
pub record Passes (block : List ℕ) : Type 0 where
  pub long : length block ≡ block_bytes
  pub bytes : Bytes block
  pub right : checks_right block ≡ true

-- byte i has become v
abbrev pub changed : ℕ → ℕ → List ℕ → List ℕ
changed i v block = set block i v

-- bytes i and j have changed places
abbrev pub exchanged : ℕ → ℕ → List ℕ → List ℕ
exchanged i j block = changed j (byte_at block i) (changed i (byte_at block j) block)

-- A or B of these 512 bytes is wrong, and the single-block check answers 8, whatever the edition
pub record Caught (block : List ℕ) : Type 0 where
  pub long : length block ≡ block_bytes
  pub wrong : checks_right block ≡ false
  pub refused : block_refusal block ≡ 8

-- ---- the words at work
-- 512 zero bytes pass their check: what refuses them is the edition
abbrev zeros : List ℕ
zeros = replicate block_bytes 0

zero_at : (n i : ℕ) → byte_at (replicate n 0) i ≡ 0
zero_at zero i = refl
zero_at (suc n) zero = refl
zero_at (suc n) (suc i) = zero_at n i

pub zeros_pass : Passes zeros × (block_refusal zeros ≡ 9)
unfolding plain_sum weighed_sum checks_right edition_in origin_right block_refusal
zeros_pass = (record { long = refl; bytes = λ i. rw (zero_at block_bytes i) (omega arith); right = refl }, refl)

-- the flat block labelled 00000417: its byte 3 is 0x00, and its last, of check B, 0x54
pub changed_seen : (byte_at (changed 511 0x55 block417) 510 ≡ 0x0D) × (byte_at (changed 511 0x55 block417) 511 ≡ 0x55)
changed_seen = (refl, refl)

pub exchanged_seen : (byte_at (exchanged 3 511 block417) 3 ≡ 0x54) × (byte_at (exchanged 3 511 block417) 511 ≡ 0x00)
exchanged_seen = (refl, refl)
