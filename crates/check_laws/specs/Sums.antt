-- How the two sums of a block move when one of its bytes does: A's by the difference, B's by the difference times the byte's weight.
use Rattle.std.specs.Prelude.{◌≡◌, refl, List, [], ◌∷◌, ℕ, zero, suc, ◌+◌, ◌*◌, ◌<◌, length, take, set}
use Rattle.std.proofs.Common.{ap, zero-add, arith, length-take-le, get_or-take}
use Rattle.std.proofs.Math.Seq.{take-set-lt}
use Rattle.paper.specs.Block.{block_bytes, checks_start, plain_sum, weighed_sum, byte_at}

-- any sum in which the byte at place f has the weight `weight f`
module _ (weight : ℕ → ℕ) (sum : ℕ → List ℕ → ℕ) (more : (f v : ℕ) (s : List ℕ) → sum f (v ∷ s) ≡ weight f * v + sum (f + 1) s) where
  sum_moved : (s : List ℕ) (f i v : ℕ) → i < length s → sum f (set s i v) + weight (f + i) * byte_at s i ≡ sum f s + weight (f + i) * v
  sum_moved [] f i v h = absurd (omega arith)
  sum_moved (x ∷ s) f zero v h = omega (arith, more f v s, more f x s, ap (λ n. weight n * v) (let e : f + 0 ≡ f = omega arith in e), ap (λ n. weight n * x) (let e : f + 0 ≡ f = omega arith in e))
  sum_moved (x ∷ s) f (suc i) v h =
      let here : f + 1 + i ≡ f + suc i = omega arith in
      let behind = sum_moved s (f + 1) i v (omega arith) in
      omega (arith, more f x (set s i v), more f x s, behind, ap (λ n. weight n * byte_at s i) here, ap (λ n. weight n * v) here)

-- the two sums of a block, before the modulus
abbrev pub sum_a : List ℕ → ℕ
sum_a block = plain_sum (take checks_start block)

abbrev pub sum_b : List ℕ → ℕ
sum_b block = weighed_sum 0 (take checks_start block)

plain_more : (f v : ℕ) (s : List ℕ) → plain_sum (v ∷ s) ≡ 1 * v + plain_sum s
unfolding plain_sum
plain_more f v s = omega arith

weighed_more : (f v : ℕ) (s : List ℕ) → weighed_sum f (v ∷ s) ≡ (f + 1) * v + weighed_sum (f + 1) s
unfolding weighed_sum
weighed_more f v s = refl

module _ (block : List ℕ) (long : length block ≡ block_bytes) where
  body : length (take checks_start block) ≡ checks_start
  body = length-take-le checks_start block (omega arith)

  module _ (i v : ℕ) (h : i < checks_start) where
    here : byte_at (take checks_start block) i ≡ byte_at block i
    here = get_or-take checks_start block i 0 h

    pub a_moved : sum_a (set block i v) + byte_at block i ≡ sum_a block + v
    a_moved = rw (take-set-lt checks_start block i v h, ← here) (let e = sum_moved (λ f. 1) (λ f s. plain_sum s) plain_more (take checks_start block) 0 i v (omega (arith, body)) in omega (arith, e))

    pub b_moved : sum_b (set block i v) + (i + 1) * byte_at block i ≡ sum_b block + (i + 1) * v
    b_moved = rw (take-set-lt checks_start block i v h, ← here) (let e = sum_moved (λ f. f + 1) weighed_sum weighed_more (take checks_start block) 0 i v (omega (arith, body)) in rw (zero-add i) at e)
