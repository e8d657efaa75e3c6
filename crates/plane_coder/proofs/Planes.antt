-- Planes n - 1 down to 0, coded: what holds before each plane.
use mathlib.Core.Path.{◌≡◌, refl, subst}
use mathlib.Core.Bool.{false}
use mathlib.Core.List.{List}
use Prim.Native.Nat.{ℕ, suc, ◌-◌, ◌<◌, ◌≤◌}
use native.Mathlib.Omega.{arith}
use lib.IntN.{ℤ}
use Rattle.paper.specs.Walk.{Coder, walk_planes}
use Rattle.bits.specs.declared.BitSink.{BitSink}
use Rattle.shapes.specs.Shapes.{IsSquare}
use Rattle.shapes.proofs.Walks.{planes_none, planes_next}
use Rattle.set_coder.specs.Coded.{Coded}
use Rattle.set_coder.proofs.Run.{coder, done}
use Rattle.plane_coder.proofs.Plane.{PlaneCoded}

-- before plane p - 1: what is coded from here on is coded from the start
pub record Before (n first : ℕ) (xs : List ℤ) (start : BitSink) (p : ℕ) (here : BitSink) : Type 0 where
  pub onward : (K : IsSquare xs first) {v : List ℤ × ℕ} {t : BitSink} → Coded (walk_planes Coder K.d K.L p xs) here v t → Coded (walk_planes Coder K.d K.L n xs) start v t

pub before_first : (n first : ℕ) (xs : List ℤ) (s : BitSink) → Before n first xs s n s
before_first n first xs s = record { onward = λ K X. X }

module _ {n first : ℕ} {xs : List ℤ} {start : BitSink} {p : ℕ} {here : BitSink} (B : Before n first xs start p here) where
  pub before_next : {there : BitSink} → 0 < p → PlaneCoded (p - 1) first xs here there → Before n first xs start (p - 1) there
  before_next {there} h X = record {
    onward = λ K {v} {t} Y.
        B.onward K (subst (λ m. Coded (walk_planes Coder K.d K.L m xs) here v t) (let z : suc (p - 1) ≡ p = omega arith in z)
        (planes_next coder K.d K.L (p - 1) xs (X K) (done there false) refl Y));
  }

  pub none_left : p ≤ 0 → (K : IsSquare xs first) → Coded (walk_planes Coder K.d K.L n xs) start (xs, 0) here
  none_left h K = B.onward K (planes_none coder K.d K.L p xs (done here (xs, 0)) h)
