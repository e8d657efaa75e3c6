-- What `find` and `rebuild` answer is settled in full, a fault's numbers and what was settled before a refusal too. This is said of
-- their own contracts, as the checker reads them from src/lib.rt (`Post` of their `Reads`): no second answer meets them.
use mathlib.Core.Path.{◌≡◌, refl, sym, ap, ◌∙◌}
use mathlib.Core.List.{List}
use Prim.Native.Nat.{ℕ, ◌<◌}
use native.Mathlib.Omega.{arith}
use denote.Triple.Clauses.{AtExit}
use contract.Lifetimes.{Lfts}
use borrow.Fn.World.{ArgsD, ResD}
use borrow.Fn.Kinds.{ended_of}
use lib.IntN.{ℤ}
use Rattle.std.specs.Prelude.{Option, None, Some, Result, Ok, Err, IfOk, IfErr}
use Rattle.std.specs.Option.{ForSome}
use Rattle.refusals.specs.declared.Refusal.{Refusal}
use Rattle.refusals.specs.declared.Refusal.TheVariants.{Side}
use Rattle.refusals.specs.Numbers.{number_of}
use Rattle.refusals.proofs.Numbers.{numbered, by_number, refused_at}
use Rattle.decoding.specs.declared.Settled.{Settled}
use Rattle.pgm.specs.declared.Header.{Header}
use Rattle.desk.specs.declared.Found.{Found}
use Rattle.desk.specs.declared.Fault.{Fault}
use Rattle.desk.specs.declared.Fault.TheVariants.{NoHeader, Greys, Sides, Missing}
use Rattle.desk.specs.declared.Unshown.{Unshown}
use Rattle.desk.specs.Answers.{fault_number, found_answer, settled_answer, rebuilding_answer}
use Rattle.desk.specs.Desk.{Finding, found_of, fault_of, wrong_with, Rebuilding}
use Rattle.desk.specs.contracts.find as find-fn
use Rattle.desk.proofs.find.Kinds as find-kinds
use Rattle.desk.proofs.find.Reads as find-contract
use Rattle.desk.specs.contracts.rebuild as rebuild-fn
use Rattle.desk.proofs.rebuild.Kinds as rebuild-kinds
use Rattle.desk.proofs.rebuild.Reads as rebuild-contract

-- ---- find: the picture's k and the place of its greys, or the fault
fault_numbered : (fault : Fault) → 0 < fault_number fault
fault_numbered NoHeader = omega arith
fault_numbered (Greys most) = omega arith
fault_numbered (Sides width height) = omega arith
fault_numbered (Missing came wanted) = omega arith

-- what is found has a header, and begins behind it
begins : (header : Option Header) (bytes : ℕ) (f g : Found) → found_answer (Ok f) ≡ found_of header bytes
    → ForSome header (λ h. f.start ≡ h.start) → ForSome header (λ h. g.start ≡ h.start) → f.start ≡ g.start
unfolding found_of fault_of
begins None bytes f g e x y = absurd (omega (arith, ap (λ (r : Finding). r.fault) e))
begins (Some h) bytes f g e x y = x h refl ∙ sym (y h refl)

one_found : (header : Option Header) (bytes : ℕ) (r q : Result Found Fault)
    → found_answer r ≡ found_of header bytes → IfOk r (λ f. ForSome header (λ h. f.start ≡ h.start)) → IfErr r (λ fault. fault ≡ wrong_with header bytes)
    → found_answer q ≡ found_of header bytes → IfOk q (λ f. ForSome header (λ h. f.start ≡ h.start)) → IfErr q (λ fault. fault ≡ wrong_with header bytes)
    → r ≡ q
one_found header bytes (Ok f) (Ok g) x starts _ y begun _ =
    let k : f.k ≡ g.k = ap (λ (r : Finding). r.k) (x ∙ sym y) in
    ap Ok (λ i. record { k = k i; start = begins header bytes f g x starts begun i })
one_found header bytes (Ok f) (Err d) x _ _ y _ _ = absurd (omega (arith, ap (λ (r : Finding). r.fault) (x ∙ sym y), fault_numbered d))
one_found header bytes (Err e) (Ok g) x _ _ y _ _ = absurd (omega (arith, ap (λ (r : Finding). r.fault) (x ∙ sym y), fault_numbered e))
one_found header bytes (Err e) (Err d) _ _ x _ _ y = ap Err (x ∙ sym y)

pub find_answered : (κs : Lfts 0) (a : ArgsD find-fn.signature κs) (r q : ResD find-fn.signature κs) (s t : AtExit (ended_of 0 find-kinds.ps find-kinds.r) κs)
    → find-contract.Post κs a r s → find-contract.Post κs a q t → r ≡ q
find_answered κs a r q s t x y = one_found a.0 a.1.0 r q x.0 x.1.0 x.1.1 y.0 y.1.0 y.1.1

-- ---- rebuild: what was settled, or why nothing is shown, and what was settled before
refusal_told : (refusal : ℕ) (settled : Option Settled) (numbers : List ℤ) (picture : List ℕ) (room : List ℤ) → (settled_answer refusal settled numbers picture room).refusal ≡ refusal
refusal_told refusal None numbers picture room = refl
refusal_told refusal (Some s) numbers picture room = refl

one_refusal : (r q : Refusal) → number_of r ≡ number_of q → r ≡ q
one_refusal r q e = sym (refused_at Side (λ r. r) r) ∙ (ap (by_number Side (λ r. r)) e ∙ refused_at Side (λ r. r) q)

one_rebuilt : (o : Rebuilding) (before : Option Settled) (r q : Result Settled Unshown) (numbers xs : List ℤ) (picture greys : List ℕ) (room more : List ℤ)
    → o ≡ rebuilding_answer r numbers picture room → IfErr r (λ u. u.settled ≡ before)
    → o ≡ rebuilding_answer q xs greys more → IfErr q (λ u. u.settled ≡ before)
    → r ≡ q
one_rebuilt o before (Ok s) (Ok t) numbers xs picture greys room more x _ y _ =
    let e = sym x ∙ y in
    ap Ok (λ i. record { unfinished = (e i).unfinished; read = (e i).read; place = (e i).place })
one_rebuilt o before (Ok s) (Err v) numbers xs picture greys room more x _ y _ =
    absurd (omega (arith, ap (λ (r : Rebuilding). r.refusal) (sym x ∙ y) ∙ refusal_told (number_of v.refusal) v.settled xs greys more, numbered v.refusal))
one_rebuilt o before (Err u) (Ok t) numbers xs picture greys room more x _ y _ =
    absurd (omega (arith, ap (λ (r : Rebuilding). r.refusal) (sym y ∙ x) ∙ refusal_told (number_of u.refusal) u.settled numbers picture room, numbered u.refusal))
one_rebuilt o before (Err u) (Err v) numbers xs picture greys room more x settled y settled_too =
    let number = sym (refusal_told (number_of u.refusal) u.settled numbers picture room) ∙ (ap (λ (r : Rebuilding). r.refusal) (sym x ∙ y) ∙ refusal_told (number_of v.refusal) v.settled xs greys more) in
    let before_both : u.settled ≡ v.settled = settled ∙ sym settled_too in
    ap Err (λ i. record { refusal = one_refusal u.refusal v.refusal number i; settled = before_both i })

pub rebuild_answered : (κs : Lfts 4) (a : ArgsD rebuild-fn.signature κs) (r q : ResD rebuild-fn.signature κs) (s t : AtExit (ended_of 4 rebuild-kinds.ps rebuild-kinds.r) κs)
    → rebuild-contract.Post κs a r s → rebuild-contract.Post κs a q t → r ≡ q
rebuild_answered κs a r q s t x y = one_rebuilt _ _ r q _ _ _ _ _ _ x.0 x.1 y.0 y.1
