-- What changes a line, and what that leaves of the square.
use Rattle.std.specs.Prelude.{◌≡◌, Bool, true, false, List, ◌≢◌, ℕ, ◌<◌, ◌*◌, ◌/◌, length, ℤ}
use Rattle.std.specs.Fn.{Shared}
use Rattle.std.specs.Borrow.{Bor, MutBor}
use Rattle.paper.specs.Lists.{at}
use Rattle.paper.specs.Square.{place_of, line_of}
use Rattle.pass.specs.declared.Lines.{Lines}
use Rattle.pass.specs.declared.Lines.TheVariants.{Rows, Columns}
use Rattle.line.specs.Each.{Each, line_limit}

-- whether the lines go down
abbrev pub down : Lines → Bool
down Rows = false
down Columns = true

-- `turn` may be called on a line that fits, with room of its length, and leaves there the line changed by the rule
pub record Turns {F R : Type 0} (g : Shared F (Bor (List ℤ) × (MutBor (List ℤ) × Unit {0})) (R × (MutBor (List ℤ) × Unit {0}))) (turn : F) (rule : List ℤ → List ℤ) : Type 0 where
  pub may : (x : Bor (List ℤ)) (out : MutBor (List ℤ)) → Each line_limit x.now → length x.now ≡ 2 * (length x.now / 2) → 0 < length x.now → length out.now ≡ length x.now → g.pre turn (x, (out, tt))
  pub gives : (x : Bor (List ℤ)) (out left : MutBor (List ℤ)) (r : R) → g.post turn (x, (out, tt)) (r, (left, tt)) → left.now ≡ rule x.now

-- the first n numbers of line l are those of v, and the other lines are as they were
pub record Put (j : ℕ) (down : Bool) (l n : ℕ) (v old new : List ℤ) : Type 0 where
  pub size : length new ≡ length old
  pub put : (i : ℕ) → i < n → at new (place_of j down l i) ≡ at v i
  pub kept : (z : ℕ) → line_of j down z ≢ l → at new z ≡ at old z
