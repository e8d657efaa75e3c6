-- A refusal's number is not 0, and no two refusals share one.
use mathlib.Core.Path.{◌≡◌, refl, sym, ap, ◌∙◌}
use Rattle.std.specs.Prelude.{Result, Ok, Err, [], ◌∷◌, get_or}
use native.Mathlib.Omega.{arith}
use Prim.Native.Nat.{ℕ, zero, suc, ◌<◌}
use Rattle.refusals.specs.declared.Refusal.{Refusal}
use Rattle.refusals.specs.declared.Refusal.TheVariants.{Side, Levels, Length, Magnitude, Planes, Room, Label, Check, Field, Turn, Place, Halvings}
use Rattle.refusals.specs.Numbers.{number_of, refusal_of}

pub numbered : (r : Refusal) → 0 < number_of r
numbered Side = omega arith
numbered Levels = omega arith
numbered Length = omega arith
numbered Magnitude = omega arith
numbered Planes = omega arith
numbered Room = omega arith
numbered Label = omega arith
numbered Check = omega arith
numbered Field = omega arith
numbered Turn = omega arith
numbered Place = omega arith
numbered Halvings = omega arith

-- the refusal of a number
abbrev named : ℕ → Refusal
named n = get_or (Side ∷ Side ∷ Levels ∷ Length ∷ Magnitude ∷ Planes ∷ Room ∷ Label ∷ Check ∷ Field ∷ Turn ∷ Place ∷ Place ∷ Halvings ∷ []) n Side

named_is : (r : Refusal) → named (number_of r) ≡ r
named_is Side = refl
named_is Levels = refl
named_is Length = refl
named_is Magnitude = refl
named_is Planes = refl
named_is Room = refl
named_is Label = refl
named_is Check = refl
named_is Field = refl
named_is Turn = refl
named_is Place = refl
named_is Halvings = refl

-- what stands at a number: one thing at 0, else what a refusal makes
abbrev pub by_number : {B : Type 0} → B → (Refusal → B) → ℕ → B
by_number none some zero = none
by_number none some (suc n) = some (named (suc n))

pub refused_at : {B : Type 0} (none : B) (some : Refusal → B) (r : Refusal) → by_number none some (number_of r) ≡ some r
refused_at none some r = go (number_of r) refl (numbered r)
  where
    go : (n : ℕ) → number_of r ≡ n → 0 < n → by_number none some n ≡ some r
    go zero e h = absurd (omega arith)
    go (suc n) e h = ap some (ap named (sym e) ∙ named_is r)

-- an answer is told by its number and what was made
abbrev pub answer_at : {A : Type 0} → ℕ → A → Result A Refusal
answer_at n x = by_number (Ok x) Err n

pub judged_at : (r : Result (Unit {0}) Refusal) → answer_at (refusal_of r) tt ≡ r
judged_at (Ok x) = refl
judged_at (Err r) = refused_at (Ok tt) Err r
