-- A line of h lows, then h highs: every place, and the sizes.
use mathlib.Core.Path.{◌≡◌, sym, ap, ◌∙◌}
use mathlib.Core.List.{List, ◌++◌}
use Prim.Native.Nat.{ℕ, ◌+◌, ◌*◌, ◌<◌}
use native.Mathlib.Omega.{arith}
use lib.ListN.{length, length-append, get_or-append}
use lib.Seq.{get_or-append-add}
use lib.IntN.{ℤ, pos}
use Rattle.paper.specs.Lists.{made, at}
use Rattle.integer_laws.specs.Order.{Within}
use Rattle.list_laws.specs.Made.{length_made, get_d_made}
use Rattle.line.specs.Each.{Each}
use Rattle.line.proofs.Sized.{each_below}
use Rattle.line.proofs.Pairs.{by_halves}

module _ (h : ℕ) (f g : ℕ → ℤ) where
  abbrev halves : List ℤ
  halves = made h f ++ made h g

  pub length_halves : length (made h f ++ made h g) ≡ 2 * h
  length_halves = length-append (made h f) _ ∙ omega (arith, length_made h f, length_made h g)

  pub halves_low : (i : ℕ) → i < h → at (made h f ++ made h g) i ≡ f i
  halves_low i l = get_or-append (made h f) (made h g) (pos 0) i (omega (arith, length_made h f)) ∙ get_d_made h f i (pos 0) l

  pub halves_high : (i : ℕ) → i < h → at (made h f ++ made h g) (h + i) ≡ g i
  halves_high i l = ap (λ (n : ℕ). at halves (n + i)) (sym (length_made h f)) ∙ get_or-append-add (made h f) (made h g) i (pos 0) ∙ get_d_made h g i (pos 0) l

  pub halves_each : {B : ℕ} → ((i : ℕ) → Within B (f i)) → ((i : ℕ) → Within B (g i)) → Each B (made h f ++ made h g)
  halves_each {B} F G = each_below halves
      (λ z l. by_halves (λ z. Within B (at halves z)) h (λ i k. rw (halves_low i k) (F i)) (λ i k. rw (halves_high i k) (G i)) z (omega (arith, length_halves)))
