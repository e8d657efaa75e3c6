-- A plane, coded: the first set and the rest.
use mathlib.Core.Path.{subst}
use mathlib.Core.List.{List}
use Prim.Native.Nat.{ℕ}
use lib.IntN.{ℤ}
use lib.ListN.{take, take-append-drop}
use Rattle.paper.specs.Walk.{Coder, walk_rest, walk_plane}
use Rattle.list_laws.specs.Parts.{from, from_is, from_long}
use Rattle.bits.specs.declared.BitSink.{BitSink}
use Rattle.shapes.specs.Shapes.{IsSquare}
use Rattle.shapes.proofs.Cuts.{first_fits, first_long, square_set, square_rest}
use Rattle.shapes.proofs.Walks.{plane_ran}
use Rattle.set_coder.specs.Coded.{Coded}
use Rattle.set_coder.proofs.Run.{coder}
use Rattle.set_coder.proofs.Set.{SetCoded}
use Rattle.plane_coder.proofs.Rest.{RestCoded}

-- a plane coded, whatever its depth
abbrev pub PlaneCoded : ℕ → ℕ → List ℤ → BitSink → BitSink → Type 0
PlaneCoded p q xs s t = (K : IsSquare xs q) → Coded (walk_plane Coder K.d K.L p xs) s xs t

pub plane_coded : (p : ℕ) (xs : List ℤ) {q : ℕ} {s t u : BitSink} → SetCoded p (take q xs) s t → RestCoded p q (from q xs) t u → PlaneCoded p q xs s u
plane_coded p xs {q} {s} {t} {u} X Y K =
    let n = first_fits K in
    subst (λ l. Coded (walk_plane Coder K.d K.L p xs) s l u) (take-append-drop q xs)
    (plane_ran coder p xs K
    (X (square_set K (first_long K)))
    (subst (λ l. Coded (walk_rest Coder p K.d K.L l) t l u) (from_is q xs) (Y (square_rest K (from_long q xs n)))))
