-- What keeps unions: shifts, masks, and unions of such. A number is the union of its digits, so what these make of a number is
-- settled by what they make of each digit alone.
use mathlib.Core.Path.{◌≡◌, refl, sym, ap, ◌∙◌}
use mathlib.Core.List.{List, [], ◌∷◌}
use Prim.Native.Nat.{ℕ, ◌*◌, ◌/◌, ◌%◌, ◌^◌, min, max}
use native.Mathlib.Nat.{add-zero}
use native.Mathlib.Omega.{arith}
use lib.Arith.{bin_ind}
use lib.Pow.{pow_pos}
use lib.Bits.{bit_and, bit_or, and_step, or_step, and_shr, or_shr, or_mod, or_comm, or_block}

-- ---- unions and masks, bit by bit
or_low : (a b : ℕ) → bit_or a b % 2 ≡ max (a % 2) (b % 2)
or_low a b = omega (arith, or_step a b)

and_low : (a b : ℕ) → bit_and a b % 2 ≡ min (a % 2) (b % 2)
and_low a b = omega (arith, and_step a b)

or_assoc : (a b c : ℕ) → bit_or (bit_or a b) c ≡ bit_or a (bit_or b c)
or_assoc =
    bin_ind (λ (a : ℕ). (b c : ℕ) → bit_or (bit_or a b) c ≡ bit_or a (bit_or b c)) (λ b c. refl)
    (λ a ih b c.
    or_step (bit_or a b) c ∙ rw (or_shr a b 1, or_low a b, ih (b / 2) (c / 2))
    (sym (or_step a (bit_or b c) ∙ rw (or_shr b c 1, or_low b c) (omega arith))))

or_four : (a b c d : ℕ) → bit_or (bit_or a b) (bit_or c d) ≡ bit_or (bit_or a c) (bit_or b d)
or_four a b c d = or_assoc a b _ ∙ ap (bit_or a) (sym (or_assoc b c d) ∙ ap (λ (x : ℕ). bit_or x d) (or_comm b c) ∙ or_assoc c b d) ∙ sym (or_assoc a c _)

and_or : (x y m : ℕ) → bit_and (bit_or x y) m ≡ bit_or (bit_and x m) (bit_and y m)
and_or =
    bin_ind (λ (x : ℕ). (y m : ℕ) → bit_and (bit_or x y) m ≡ bit_or (bit_and x m) (bit_and y m)) (λ y m. refl)
    (λ x ih y m.
    and_step (bit_or x y) m ∙ rw (or_shr x y 1, or_low x y, ih (y / 2) (m / 2))
    (sym (or_step (bit_and x m) (bit_and y m) ∙ rw (and_shr x m 1, and_shr y m 1, and_low x m, and_low y m) (omega arith))))

-- ---- what keeps unions
abbrev pub Keeps : (ℕ → ℕ) → Type 0
Keeps f = (x y : ℕ) → f (bit_or x y) ≡ bit_or (f x) (f y)

pub keeps_times : (k : ℕ) → Keeps (λ x. x * 2 ^ k)
keeps_times k x y = sym (add-zero _) ∙ sym (or_block k x y 0 0 (pow_pos k) (pow_pos k)) ∙ rw (add-zero (x * 2 ^ k), add-zero (y * 2 ^ k)) refl

pub keeps_mask : (m : ℕ) → Keeps (λ x. bit_and x m)
keeps_mask m x y = and_or x y m

pub keeps_then : (f g : ℕ → ℕ) → Keeps f → Keeps g → Keeps (λ x. g (f x))
keeps_then f g hf hg x y = ap g (hf x y) ∙ hg (f x) (f y)

-- ---- shifts of a word, and steps by them: a number with a shift of it, and a mask, one after the other
abbrev pub left : ℕ → ℕ → ℕ
left k x = x * 2 ^ k % 2 ^ 64

abbrev pub right : ℕ → ℕ → ℕ
right k x = x / 2 ^ k

pub keeps_left : (k : ℕ) → Keeps (left k)
keeps_left k x y = ap (λ (n : ℕ). n % 2 ^ 64) (keeps_times k x y) ∙ or_mod (x * 2 ^ k) (y * 2 ^ k) 64

pub keeps_right : (k : ℕ) → Keeps (right k)
keeps_right k x y = or_shr x y k

abbrev pub step : (ℕ → ℕ → ℕ) → ℕ → ℕ → ℕ → ℕ
step shift k m x = bit_and (bit_or x (shift k x)) m

abbrev pub steps : (ℕ → ℕ → ℕ) → List (ℕ × ℕ) → ℕ → ℕ
steps shift [] x = x
steps shift ((k, m) ∷ later) x = steps shift later (step shift k m x)

pub keeps_steps : (shift : ℕ → ℕ → ℕ) → ((k : ℕ) → Keeps (shift k)) → (l : List (ℕ × ℕ)) → Keeps (steps shift l)
keeps_steps shift h [] x y = refl
keeps_steps shift h ((k, m) ∷ later) x y =
    ap (λ (n : ℕ). steps shift later (bit_and (bit_or (bit_or x y) n) m)) (h k x y)
    ∙ ap (λ (n : ℕ). steps shift later (bit_and n m)) (or_four x y (shift k x) (shift k y))
    ∙ ap (steps shift later) (and_or (bit_or x (shift k x)) (bit_or y (shift k y)) m)
    ∙ keeps_steps shift h later _ _
