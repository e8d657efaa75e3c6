-- The sums as the library writes them, one more byte of the weighed one, and no byte left. Assumes nothing.
use Prim.Native.Nat.{ℕ, ◌+◌, ◌*◌, ◌<◌, ◌≤◌}
use mathlib.Core.Path.{◌≡◌, refl, ap, ◌∙◌, sym}
use mathlib.Core.List.{List}
use native.Mathlib.Numerals.{add-one}
use native.Mathlib.Nat.{mul-le-mul}
use native.Mathlib.Omega.{arith}
use lib.ListN.{length, drop, get_or}
use lib.Seq.{drop-cons, drop-length}
use Rattle.std.specs.List.{sum_by}
use Rattle.std.proofs.lemmas.List.Recursion.{is_sum_by}
use Rattle.paper.specs.Block.{plain_sum, weighed_sum, checks_start}

pub plain_is_sum : (s : List ℕ) → plain_sum s ≡ sum_by (λ v. v) s
unfolding plain_sum
plain_is_sum s = is_sum_by plain_sum (λ v. v) refl (λ v t. refl) s

pub weighed_more : (s : List ℕ) (i : ℕ) → i < length s → weighed_sum i (drop i s) ≡ (i + 1) * get_or s i 0 + weighed_sum (i + 1) (drop (i + 1) s)
unfolding weighed_sum
weighed_more s i h =
    ap (weighed_sum i) (drop-cons s i 0 h) ∙ ap (λ (n : ℕ). (i + 1) * get_or s i 0 + weighed_sum (i + 1) (drop n s)) (sym (add-one i))

pub weighed_end : (s : List ℕ) (i : ℕ) → i ≡ length s → weighed_sum i (drop i s) ≡ 0
unfolding weighed_sum
weighed_end s i e = ap (λ (n : ℕ). weighed_sum i (drop n s)) e ∙ rw drop-length

-- one byte's share of B, so that as many as stand before the checks fit
pub weighed_small : (i v : ℕ) → i < checks_start → v ≤ 255 → (i + 1) * v ≤ checks_start * 255
weighed_small i v hi hv = mul-le-mul {n₂ = checks_start} {m₂ = 255} (omega arith) hv
