-- A step fits 32 bits, is undone, and at most doubles what goes in.
use mathlib.Core.Path.{◌≡◌}
use Prim.Native.Nat.{ℕ, ◌*◌, ◌≤◌}
use native.Mathlib.Omega.{arith}
use lib.IntN.{ℤ, pos, ◌+ℤ◌, ◌-ℤ◌, +ℤ-neg_ℤ_cancel, -ℤ-+ℤ_cancel}
use mir.Syntax.{w32}
use mir.Val.{SFits}
use Rattle.paper.specs.Line.{floor_half, floor_quarter, high_of, low_of, odd_of, even_of}
use Rattle.integer_laws.specs.Difference.{split}
use Rattle.integer_laws.specs.Order.{Within, ints, zarith}
use Rattle.lift.specs.Limit.{step_limit}

-- ---- a step fits
pub half_fits : {o l r : ℤ} → Within step_limit o → Within step_limit l → Within step_limit r
    → SFits w32 (l +ℤ r) × SFits w32 (floor_half (l +ℤ r)) × SFits w32 (o -ℤ floor_half (l +ℤ r)) × SFits w32 (o +ℤ floor_half (l +ℤ r))
half_fits {o} {l} {r} = rw (split o, split l, split r) (simp ints (omega zarith))

pub quarter_fits : {e l r : ℤ} → Within step_limit e → Within step_limit l → Within step_limit r
    → SFits w32 (l +ℤ r) × SFits w32 (l +ℤ r +ℤ pos 2) × SFits w32 (floor_quarter (l +ℤ r +ℤ pos 2))
    × SFits w32 (e +ℤ floor_quarter (l +ℤ r +ℤ pos 2)) × SFits w32 (e -ℤ floor_quarter (l +ℤ r +ℤ pos 2))
quarter_fits {e} {l} {r} = rw (split e, split l, split r) (simp ints (omega zarith))

-- ---- a step is undone
pub odd_high : (o l r : ℤ) → odd_of (high_of o l r) l r ≡ o
unfolding odd_of high_of
odd_high o l r = -ℤ-+ℤ_cancel o (floor_half (l +ℤ r))

pub even_low : (e l r : ℤ) → even_of (low_of e l r) l r ≡ e
unfolding even_of low_of
even_low e l r = +ℤ-neg_ℤ_cancel e (floor_quarter (l +ℤ r +ℤ pos 2))

-- ---- samples within M give highs and lows within 2 M
pub high_within : {M : ℕ} {o l r : ℤ} → Within M o → Within M l → Within M r → Within (2 * M) (high_of o l r)
unfolding high_of
high_within {M} {o} {l} {r} = rw (split o, split l, split r) (simp ints (omega zarith))

pub low_within : {M : ℕ} {e l r : ℤ} → Within M e → Within (2 * M) l → Within (2 * M) r → Within (2 * M) (low_of e l r)
unfolding low_of
low_within {M} {e} {l} {r} = rw (split e, split l, split r) (simp ints (omega zarith))

-- a low and highs within M give an even sample within 2 M
pub even_within : {M : ℕ} {l a b : ℤ} → Within M l → Within M a → Within M b → Within (2 * M) (even_of l a b)
unfolding even_of
even_within {M} {l} {a} {b} = rw (split l, split a, split b) (simp ints (omega zarith))

-- and a high within M between two such even samples gives an odd one within 4 M
pub odd_within : {M : ℕ} {h l r : ℤ} → Within M h → Within (2 * M) l → Within (2 * M) r → Within (4 * M) (odd_of h l r)
unfolding odd_of
odd_within {M} {h} {l} {r} = rw (split h, split l, split r) (simp ints (omega zarith))

-- ---- sizes
pub grow : {A B : ℕ} {z : ℤ} → Within A z → A ≤ B → Within B z
grow h l = record { size = omega (arith, h.size) }

pub zero_within : (B : ℕ) → Within B (pos 0)
zero_within B = record { size = omega arith }
