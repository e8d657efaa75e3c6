-- Spreading and squeezing are one law read two ways: what keeps unions, and sends each digit alone where it should go, moves
-- the bits of every number (`moves`): from base 2 to 4 they are spread, from 4 to 2 squeezed.
use mathlib.Core.Path.{◌≡◌, refl, ap, ◌∙◌, sym, subst}
use mathlib.Core.Bool.{Bool, true, false, ◌&&◌}
use mathlib.Core.Logic.{⊎_elim}
use Prim.Native.Nat.{ℕ, zero, suc, ◌+◌, ◌*◌, ◌/◌, ◌%◌, ◌^◌, ◌<◌, ◌≤◌}
use native.Mathlib.Nat.{pow-zero, pow-suc, le_of_suc-le-suc, not-suc-le-zero, eq-or-lt_of_le, mod-lt, div-lt_iff_lt-mul, div-add-mod', zero-mul, mul-le-mul_right, add-mul, mul_comm, mul_assoc, add_comm, mul-one, mul-zero, zero-div, mod-one, one-le-pow, pow-le-pow_right, suc-mul, le_refl}
use native.Mathlib.Numerals.{add-one}
use native.Mathlib.Omega.{arith}
use lib.Arith.{lt-one, digits_div, mod-mul}
use lib.Dec.{T, eqb, eqb→eq, lit<}
use lib.Pow.{pow_pos, pow-add, pow-lt, pow_mono, mod-mod-pow}
use lib.Bits.{bit_or, or_shifted}
use Rattle.paper.specs.Places.{interleaved, column_of, row_of, z_of}
use Rattle.places.proofs.Unions.{Keeps, keeps_times, keeps_then}

-- the lowest bit of each of the first j digits of x in an even base b, as digits of base d
unfoldable pub moved : ℕ → ℕ → ℕ → ℕ → ℕ
moved b d zero x = 0
moved b d (suc j) x = x % 2 + d * moved b d j (x / b)

-- ---- what becomes of each digit
-- a test that passes at each number below n
unfoldable pub every : (ℕ → Bool) → ℕ → Bool
every f zero = true
every f (suc n) = f n && every f n

both : (a b : Bool) → T (a && b) → T a × T b
both true b t = (tt, t)
both false b t = absurd t

at_each : (f : ℕ → Bool) (n : ℕ) → T (every f n) → (i : ℕ) → i < n → T (f i)
unfolding every
at_each f zero t i h = absurd (not-suc-le-zero h)
at_each f (suc n) t i h =
    let ts = both (f n) (every f n) t in
    ⊎_elim (λ e. subst (λ (m : ℕ). T (f m)) (sym e) ts.0) (at_each f n ts.1 i) (eq-or-lt_of_le (le_of_suc-le-suc h))

-- of each digit of base 2 ^ p, alone at each of the first j places, f makes its lowest bit, at weight 2 ^ e and q bits further up
-- each time: a test that is computed
unfoldable pub sends : (p q e : ℕ) → (ℕ → ℕ) → ℕ → Bool
sends p q e f zero = eqb (f 0) 0
sends p q e f (suc j) = every (λ t. eqb (f t) (t % 2 * 2 ^ e)) (2 ^ p) && sends p q (e + q) (λ y. f (y * 2 ^ p)) j

low_bit : (p x : ℕ) → x % 2 ^ suc p % 2 ≡ x % 2
low_bit p x = ap (λ (n : ℕ). x % 2 ^ n % 2) (sym (add-one p)) ∙ mod-mod-pow x p 1

-- the law, at any weight: a number is the union of its lowest digit and the others
moves_at : (p q e j : ℕ) (f : ℕ → ℕ) → Keeps f → T (sends (suc p) (suc q) e f j) → (x : ℕ) → x < (2 ^ suc p) ^ j → f x ≡ moved (2 ^ suc p) (2 ^ suc q) j x * 2 ^ e
unfolding sends moved
moves_at p q e zero f keeps t x h = ap f (lt-one (rw (sym (pow-zero (2 ^ suc p))) h)) ∙ eqb→eq (f 0) 0 t ∙ sym (zero-mul (2 ^ e))
moves_at p q e (suc j) f keeps t x h =
    let b : ℕ = 2 ^ suc p in
    let y : ℕ = x / b in
    let w : ℕ = 2 ^ e in
    let d : ℕ = 2 ^ suc q in
    let m : ℕ = moved b d j y in
    let up : ℕ → ℕ = λ n. f (n * 2 ^ suc p) in
    let ts = both (every (λ n. eqb (f n) (n % 2 * 2 ^ e)) b) (sends (suc p) (suc q) (e + suc q) up j) t in
    let low : x % b < b = mod-lt x (pow_pos (suc p)) in
    let rest : f (y * b) ≡ m * 2 ^ (e + suc q) = moves_at p q (e + suc q) j up (keeps_then _ f (keeps_times (suc p)) keeps) ts.1 y ((div-lt_iff_lt-mul (pow_pos (suc p))).1 (rw (sym (pow-suc b j)) h)) in
    let digit : f (x % b) ≡ x % 2 * w = eqb→eq _ _ (at_each _ b ts.0 (x % b) low) ∙ ap (λ (n : ℕ). n * w) (low_bit p x) in
    let whole : bit_or (y * b) (x % b) ≡ x = or_shifted y (suc p) (x % b) low ∙ div-add-mod' x b in
    let small : x % 2 * w < 2 ^ (e + suc q) = omega (arith, mul-le-mul_right {m = x % 2} {n = 1} w (omega arith), pow-lt {i = e} {j = e + suc q} (omega arith)) in
    let sum : m * 2 ^ (e + suc q) + x % 2 * w ≡ (x % 2 + d * m) * w = ap (λ (n : ℕ). m * n + x % 2 * w) (pow-add 2 e (suc q)) ∙ rw (add-mul (x % 2) (d * m) w, mul_comm d m, mul_assoc m d w, mul_comm d w) (add_comm _ _) in
    ap f (sym whole) ∙ keeps (y * b) (x % b) ∙ rw (rest, digit) (or_shifted m (e + suc q) (x % 2 * w) small ∙ sum)

-- ---- fewer digits
nothing : (b d m : ℕ) → moved b d m 0 ≡ 0
unfolding moved
nothing b d zero = refl
nothing b d (suc m) = rw (zero-div b, nothing b d m, mul-zero d) refl

-- of the first j + 1 digits of a number, the lowest bit and the others
digits : (p j x : ℕ) → (x % (2 ^ suc p) ^ suc j % 2 ≡ x % 2) × (x % (2 ^ suc p) ^ suc j / 2 ^ suc p ≡ x / 2 ^ suc p % (2 ^ suc p) ^ j)
digits p j x =
    let b : ℕ = 2 ^ suc p in
    let y : ℕ = x / b % b ^ j in
    let low : x % b < b = mod-lt x (pow_pos (suc p)) in
    let e : x % b ^ suc j ≡ y * b + x % b = ap (λ (n : ℕ). x % n) (pow-suc b j) ∙ mod-mul x (one-le-pow j b (pow_pos (suc p))) (pow_pos (suc p)) in
    let even : y * b ≡ y * 2 ^ p * 2 = ap (λ (n : ℕ). y * n) (pow-suc 2 p) ∙ sym (mul_assoc y (2 ^ p) 2) in
    (omega (arith, low_bit p x), ap (λ (n : ℕ). n / b) e ∙ digits_div y low)

fewer : (p d j m x : ℕ) → j ≤ m → moved (2 ^ suc p) d m (x % (2 ^ suc p) ^ j) ≡ moved (2 ^ suc p) d j x
unfolding moved
fewer p d zero m x h = ap (moved (2 ^ suc p) d m) (ap (λ (n : ℕ). x % n) (pow-zero (2 ^ suc p)) ∙ mod-one x) ∙ nothing (2 ^ suc p) d m
fewer p d (suc j) zero x h = absurd (not-suc-le-zero h)
fewer p d (suc j) (suc m) x h =
    let e = digits p j x in
    rw (e.0, e.1) (ap (λ (n : ℕ). x % 2 + d * n) (fewer p d j m (x / 2 ^ suc p) (le_of_suc-le-suc h)))

pub moved_below : (b d j x : ℕ) → 2 ≤ d → moved b d j x < d ^ j
unfolding moved
moved_below b d zero x h = rw (pow-zero d) (lit< tt)
moved_below b d (suc j) x h =
    let m : ℕ = moved b d j (x / b) in
    let a : suc m * d ≤ d ^ j * d = mul-le-mul_right d (moved_below b d j (x / b) h) in
    omega (arith, a, suc-mul m d, mul_comm m d, pow-suc d j)

-- ---- two numbers at once, in the halves of a word of 2 h bits: each has room for j digits, and its lowest k are moved
pub moves : (p q h j k : ℕ) (f : ℕ → ℕ) → Keeps f → (2 ^ suc p) ^ j ≤ 2 ^ h → (2 ^ suc q) ^ j ≤ 2 ^ h
    → T (sends (suc p) (suc q) 0 f j) → T (sends (suc p) (suc q) h (λ n. f (n * 2 ^ h)) j) → k ≤ j → (x y : ℕ)
    → f (x % (2 ^ suc p) ^ k + y % (2 ^ suc p) ^ k * 2 ^ h) ≡ moved (2 ^ suc p) (2 ^ suc q) k x + moved (2 ^ suc p) (2 ^ suc q) k y * 2 ^ h
moves p q h j k f keeps from-fits to-fits low high less x y =
    let b : ℕ = 2 ^ suc p in
    let d : ℕ = 2 ^ suc q in
    let within : (n : ℕ) → n % b ^ k < b ^ j = λ n. omega (arith, mod-lt n (one-le-pow k b (pow_pos (suc p))), pow-le-pow_right {n = b} (pow_pos (suc p)) less) in
    let small : moved b d k x < 2 ^ h = omega (arith, moved_below b d k x (pow_mono {i = 1} {j = suc q} (omega arith)), pow-le-pow_right {n = d} (pow_pos (suc q)) less) in
    let lower : f (x % b ^ k) ≡ moved b d k x = moves_at p q 0 j f keeps low (x % b ^ k) (within x) ∙ mul-one _ ∙ fewer p d k j x less in
    let upper : f (y % b ^ k * 2 ^ h) ≡ moved b d k y * 2 ^ h = moves_at p q h j (λ n. f (n * 2 ^ h)) (keeps_then _ f (keeps_times h) keeps) high (y % b ^ k) (within y) ∙ ap (λ (n : ℕ). n * 2 ^ h) (fewer p d k j y less) in
    ap f (add_comm (x % b ^ k) _ ∙ sym (or_shifted (y % b ^ k) h (x % b ^ k) (omega (arith, within x)))) ∙ keeps (y % b ^ k * 2 ^ h) (x % b ^ k) ∙ rw (lower, upper) (or_shifted (moved b d k y) h (moved b d k x) small ∙ add_comm _ _)

-- ---- rows, columns and Z places
interleaved_moved : (j r c : ℕ) → interleaved j r c ≡ moved 2 4 j c + 2 * moved 2 4 j r
unfolding interleaved moved
interleaved_moved zero r c = refl
interleaved_moved (suc j) r c = omega (arith, interleaved_moved j (r / 2) (c / 2))

pub spread_moved : (j c : ℕ) → interleaved j 0 c ≡ moved 2 4 j c
spread_moved j c = omega (arith, interleaved_moved j 0 c, nothing 2 4 j)

pub column_moved : (j z : ℕ) → column_of j z ≡ moved 4 2 j z
unfolding column_of moved
column_moved zero z = refl
column_moved (suc j) z = omega (arith, column_moved j (z / 4))

pub row_moved : (j z : ℕ) → row_of j z ≡ moved 4 2 j (z / 2)
unfolding row_of moved
row_moved zero z = refl
row_moved (suc j) z =
    let e : z / 4 / 2 ≡ z / 2 / 4 = omega arith in
    omega (arith, row_moved j (z / 4), ap (moved 4 2 j) e)

pub nowhere : (j : ℕ) → interleaved j 0 0 ≡ 0
nowhere j = spread_moved j 0 ∙ nothing 2 4 j

-- a Z place is what its column and its row give, each alone
pub apart : (j r c : ℕ) → interleaved j r c ≡ interleaved j 0 c + 2 * interleaved j 0 r
apart j r c = omega (arith, interleaved_moved j r c, spread_moved j r, spread_moved j c)

pub apart_raster : (k p : ℕ) → z_of k p ≡ interleaved k 0 p + 2 * interleaved k 0 (p / 2 ^ k)
unfolding z_of
apart_raster k p = omega (arith, apart k (p / 2 ^ k) (p % 2 ^ k), spread_moved k p, spread_moved k (p % 2 ^ k), fewer 0 4 k k p (le_refl k))
