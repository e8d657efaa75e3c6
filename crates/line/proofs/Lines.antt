-- A line forward and back: every place, the undoing, and the sizes.
use mathlib.Core.Path.{◌≡◌, refl, sym, ◌∙◌}
use mathlib.Core.List.{List}
use Prim.Native.Nat.{ℕ, zero, suc, ◌+◌, ◌*◌, ◌-◌, ◌/◌, ◌<◌, min}
use native.Mathlib.Omega.{arith}
use native.Mathlib.Nat.{not-suc-le-zero, le_of_suc-le-suc}
use lib.ListN.{length}
use lib.Seq.{ext_get_or}
use lib.IntN.{ℤ, pos}
use Rattle.paper.specs.Lists.{at}
use Rattle.paper.specs.Line.{high_at, low_at, line_forward, even_at, odd_at, woven, line_back}
use Rattle.integer_laws.specs.Order.{Within}
use Rattle.lift.proofs.Steps.{odd_high, even_low, high_within, low_within, even_within, odd_within, grow}
use Rattle.line.specs.Each.{Each}
use Rattle.line.proofs.Sized.{each_below}
use Rattle.line.proofs.Pairs.{by_halves, by_turns, Paired}
use Rattle.line.proofs.Halves.{length_halves, halves_low, halves_high, halves_each}

-- ---- samples in turns
length_woven : (n : ℕ) (f g : ℕ → ℤ) → length (woven n f g) ≡ 2 * n
unfolding woven
length_woven zero f g = refl
length_woven (suc n) f g = omega (arith, length_woven n (λ i. f (suc i)) (λ i. g (suc i)))

woven_even : (n : ℕ) (f g : ℕ → ℤ) (i : ℕ) → i < n → at (woven n f g) (2 * i) ≡ f i
unfolding woven
woven_even zero f g i l = absurd (not-suc-le-zero l)
woven_even (suc n) f g zero l = refl
woven_even (suc n) f g (suc i) l =
    let r : 2 * suc i ≡ suc (suc (2 * i)) = omega arith in
    rw r (woven_even n (λ i. f (suc i)) (λ i. g (suc i)) i (le_of_suc-le-suc l))

woven_odd : (n : ℕ) (f g : ℕ → ℤ) (i : ℕ) → i < n → at (woven n f g) (2 * i + 1) ≡ g i
unfolding woven
woven_odd zero f g i l = absurd (not-suc-le-zero l)
woven_odd (suc n) f g zero l = refl
woven_odd (suc n) f g (suc i) l =
    let r : 2 * suc i + 1 ≡ suc (suc (2 * i + 1)) = omega arith in
    rw r (woven_odd n (λ i. f (suc i)) (λ i. g (suc i)) i (le_of_suc-le-suc l))

module _ (x : List ℤ) (h : ℕ) (e : length x ≡ 2 * h) where
  half : length x / 2 ≡ h
  half = omega arith

  -- ---- every place
  pub length_forward : length (line_forward x) ≡ 2 * h
  unfolding line_forward
  length_forward = rw half (length_halves h _ _)

  pub forward_low : (i : ℕ) → i < h → at (line_forward x) i ≡ low_at x i
  unfolding line_forward
  forward_low i l = rw half (halves_low h _ _ i l)

  pub forward_high : (i : ℕ) → i < h → at (line_forward x) (h + i) ≡ high_at x i
  unfolding line_forward
  forward_high i l = rw half (halves_high h _ _ i l)

  pub length_back : length (line_back x) ≡ 2 * h
  unfolding line_back
  length_back = rw half (length_woven h _ _)

  pub back_even : (i : ℕ) → i < h → at (line_back x) (2 * i) ≡ even_at x h i
  unfolding line_back
  back_even i l = rw half (woven_even h (even_at x h) (odd_at x h) i l)

  pub back_odd : (i : ℕ) → i < h → at (line_back x) (2 * i + 1) ≡ odd_at x h i
  unfolding line_back
  back_odd i l = rw half (woven_odd h (even_at x h) (odd_at x h) i l)

  -- ---- what a loop has filled
  pub forward_is : (out : List ℤ) → length out ≡ 2 * h → Paired (λ i. i) (λ i. h + i) (low_at x) (high_at x) h out → out ≡ line_forward x
  forward_is out q P = ext_get_or (pos 0) out _ (q ∙ sym length_forward)
      (λ z l. by_halves (λ z. at out z ≡ at (line_forward x) z) h (λ i k. P.first i k ∙ sym (forward_low i k)) (λ i k. P.second i k ∙ sym (forward_high i k)) z (omega arith))

  pub back_is : (out : List ℤ) → length out ≡ 2 * h → Paired (λ i. 2 * i) (λ i. 2 * i + 1) (even_at x h) (odd_at x h) h out → out ≡ line_back x
  back_is out q P = ext_get_or (pos 0) out _ (q ∙ sym length_back)
      (λ z l. by_turns (λ z. at out z ≡ at (line_back x) z) h (λ i k. P.first i k ∙ sym (back_even i k)) (λ i k. P.second i k ∙ sym (back_odd i k)) z (omega arith))

-- the even sample after pair i
pub mirrored : (x : List ℤ) (h i : ℕ) → length x ≡ 2 * h → i < h → 2 * min (i + 1) (h - 1) ≡ min (2 * i + 2) (length x - 2)
mirrored x h i e l = omega arith

-- ---- the way back undoes the way forward
module _ (x : List ℤ) (h : ℕ) (e : length x ≡ 2 * h) where
  even_undone : (i : ℕ) → i < h → even_at (line_forward x) h i ≡ at x (2 * i)
  unfolding even_at low_at
  even_undone i l = simp (forward_low x h e i l, forward_high x h e (i - 1) (omega arith), forward_high x h e i l) (even_low _ _ _)

  odd_undone : (i : ℕ) → i < h → odd_at (line_forward x) h i ≡ at x (2 * i + 1)
  unfolding odd_at high_at
  odd_undone i l = simp (forward_high x h e i l, even_undone i l, even_undone (min (i + 1) (h - 1)) (omega arith), mirrored x h i e l) (odd_high _ _ _)

  pub line_undone : line_back (line_forward x) ≡ x
  line_undone = sym (back_is (line_forward x) h (length_forward x h e) x e (record { first = λ i l. sym (even_undone i l); second = λ i l. sym (odd_undone i l) }))

-- ---- sizes
pub high_at_within : {M : ℕ} (x : List ℤ) (i : ℕ) → Each M x → Within (2 * M) (high_at x i)
unfolding high_at
high_at_within x i E = high_within (E _) (E _) (E _)

low_at_within : {M : ℕ} (x : List ℤ) (i : ℕ) → Each M x → Within (2 * M) (low_at x i)
unfolding low_at
low_at_within x i E = low_within (E _) (high_at_within x (i - 1) E) (high_at_within x i E)

pub even_at_within : {M : ℕ} (y : List ℤ) (h i : ℕ) → Each M y → Within (2 * M) (even_at y h i)
unfolding even_at
even_at_within y h i E = even_within (E _) (E _) (E _)

-- if a line's values are within M, lows and highs are within 2 M
pub forward_each : {M : ℕ} (x : List ℤ) → Each M x → Each (2 * M) (line_forward x)
unfolding line_forward
forward_each x E = halves_each _ _ _ (λ i. low_at_within x i E) (λ i. high_at_within x i E)

odd_at_within : {M : ℕ} (y : List ℤ) (h i : ℕ) → Each M y → Within (4 * M) (odd_at y h i)
unfolding odd_at
odd_at_within y h i E = odd_within (E _) (even_at_within y h i E) (even_at_within y h _ E)

-- on the way back a line may grow fourfold
pub back_each : {M : ℕ} (y : List ℤ) (h : ℕ) → length y ≡ 2 * h → Each M y → Each (4 * M) (line_back y)
back_each {M} y h e E = each_below (line_back y)
    (λ z l. by_turns (λ z. Within (4 * M) (at (line_back y) z)) h (λ i k. rw (back_even y h e i k) (grow (even_at_within y h i E) (omega arith))) (λ i k. rw (back_odd y h e i k) (odd_at_within y h i E)) z (omega (arith, length_back y h e)))
