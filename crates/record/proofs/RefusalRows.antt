-- Rows of the refusal table, judged one after the other.
use mathlib.Core.Path.{◌≡◌, refl}
use mathlib.Core.Bool.{Bool, true, false}
use Prim.Native.Nat.{ℕ, suc, ◌<◌}
use native.Mathlib.Omega.{arith}
use Rattle.paper.specs.Sizes.{unless}

-- two rows of which the first has two conditions, before whatever the later rows say
pub rows_leave : (r q : ℕ) (a b : Bool) (later : ℕ) → unless (suc r) a (unless (suc q) b 0) ≡ 0 → unless (suc r) a (unless (suc q) b later) ≡ later
rows_leave r q true true later e = refl
rows_leave r q true false later e = absurd (omega arith)
rows_leave r q false b later e = absurd (omega arith)

pub rows_stand : (r q : ℕ) (a b : Bool) (later : ℕ) → 0 < unless (suc r) a (unless (suc q) b 0) → unless (suc r) a (unless (suc q) b later) ≡ unless (suc r) a (unless (suc q) b 0)
rows_stand r q true true later h = absurd (omega arith)
rows_stand r q true false later h = refl
rows_stand r q false b later h = refl
