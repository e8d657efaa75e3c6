-- What the programs make is what the demands speak of: a picture's journey into a record, and out of what is left of it, as it is,
-- softer, or as a thumbnail. Both are said of the contracts of `encode` and `rebuild`, as the checker reads them from src/lib.rt
-- (`Post` of their `Reads`).
use mathlib.Core.Path.{◌≡◌, refl, sym, ap, ◌∙◌}
use mathlib.Core.Bool.{Bool, true, false, ◌&&◌}
use mathlib.Core.List.{List, ◌++◌}
use Prim.Native.Nat.{ℕ, zero, suc, ◌+◌, ◌-◌}
use native.Mathlib.Omega.{arith}
use denote.Triple.Clauses.{AtExit}
use contract.Lifetimes.{Lfts}
use borrow.Fn.World.{ArgsD, ResD}
use borrow.Fn.Kinds.{ended_of}
use lib.Dec.{leb}
use lib.IntN.{ℤ}
use lib.ListN.{length, take, drop}
use Rattle.paper.specs.Lists.{pick}
use Rattle.paper.specs.Sizes.{judged}
use Rattle.paper.specs.Block.{Origin}
use Rattle.paper.specs.Jobs.{forward_job, coding_job, Writing, writing_job, Decoding, decoding_job, Inverse, reading_job}
use Rattle.label.specs.Journey.{into_record, Seen, seen_by, out_of_record, softer_out_of_record, thumbnail_out_of_record}
use Rattle.std.specs.Prelude.{Result, Ok}
use Rattle.refusals.specs.declared.Refusal.{Refusal}
use Rattle.decoding.specs.declared.Settled.{Settled}
use Rattle.desk.specs.declared.Unshown.{Unshown}
use Rattle.desk.specs.declared.Wanted.{Wanted}
use Rattle.desk.specs.declared.Wanted.TheVariants.{Picture, Softer, Thumbnail}
use Rattle.desk.specs.Desk.{area_of, Encoding, encoding_of, encoding_in, halvings_of, shown_job, Rebuilding, rebuilding_of, rebuilding_in}
use Rattle.desk.specs.contracts.encode as encode-fn
use Rattle.desk.proofs.encode.Kinds as encode-kinds
use Rattle.desk.proofs.encode.Reads as encode-contract
use Rattle.desk.specs.contracts.rebuild as rebuild-fn
use Rattle.desk.proofs.rebuild.Kinds as rebuild-kinds
use Rattle.desk.proofs.rebuild.Reads as rebuild-contract

-- what is not refused as 3 is the first of two
not_3 : {A : Type 0} (refusalOf : A → ℕ) (b : Bool) (one two e : A) → refusalOf two ≡ 3 → pick b one two ≡ e → refusalOf e ≡ 0 → one ≡ e
not_3 refusalOf true one two e t p h = p
not_3 refusalOf false one two e t p h = absurd (omega (arith, ap refusalOf p))

-- ---- into a record
none_refused : (a b : ℕ) (w : Writing) (numbers : List ℤ) (bytes coded room : List ℕ) →
    let e : Encoding = judged a (λ r. record { refusal = r; blocks = 0; numbers = numbers; bytes = bytes; room = room }) (judged b (λ r. record { refusal = r; blocks = 0; numbers = numbers; bytes = coded; room = room }) (record { refusal = w.refusal; blocks = w.blocks; numbers = numbers; bytes = coded; room = w.room })) in
    e.refusal ≡ 0 → w ≡ record { refusal = 0; blocks = e.blocks; room = e.room }
none_refused zero zero w numbers bytes coded room h = ap {B = Writing} (λ (r : ℕ). record { refusal = r; blocks = w.blocks; room = w.room }) h
none_refused zero (suc b) w numbers bytes coded room h = absurd (omega arith)
none_refused (suc a) b w numbers bytes coded room h = absurd (omega arith)

encoding_into_record : (k L : ℕ) (o : Origin) (picture label : List ℕ) (limit : ℕ) (numbers : List ℤ) (bytes room : List ℕ) →
    let e = encoding_of k L o picture label limit numbers bytes room in
    e.refusal ≡ 0 → into_record k L o label picture limit numbers bytes room ≡ record { refusal = 0; blocks = e.blocks; room = e.room }
unfolding encoding_of into_record
encoding_into_record k L o picture label limit numbers bytes room h =
    let f = forward_job k L picture numbers in
    let c = coding_job k L f.numbers limit bytes in
    none_refused f.refusal c.refusal (writing_job k L c.n o label c.bytes c.written room) f.numbers bytes c.bytes room h

encoding_in_lem : (k L : ℕ) (o : Origin) (input : List ℕ) (start : ℕ) (label : List ℕ) (limit : ℕ) (numbers : List ℤ) (bytes room : List ℕ) (e : Encoding)
    → encoding_in k L o input start label limit numbers bytes room ≡ e → e.refusal ≡ 0
    → into_record k L o label (take (area_of k) (drop start input)) limit (take (area_of k) numbers) bytes room ≡ record { refusal = 0; blocks = e.blocks; room = e.room }
unfolding encoding_in
encoding_in_lem k L o input start label limit numbers bytes room e p h =
    let area = area_of k in
    let is = not_3 (λ (e : Encoding). e.refusal) (leb (start + area) (length input) && leb area (length numbers)) _ _ e refl p h in
    encoding_into_record k L o (take area (drop start input)) label limit (take area numbers) bytes room (ap (λ (e : Encoding). e.refusal) is ∙ h)
    ∙ ap {B = Writing} (λ (e : Encoding). record { refusal = 0; blocks = e.blocks; room = e.room }) is

-- Where encode does not refuse, the blocks that it counts and leaves in the room are the record of the picture at its place.
pub encode_into_record : (κs : Lfts 5) (a : ArgsD encode-fn.signature κs) (r : ResD encode-fn.signature κs) (s : AtExit (ended_of 5 encode-kinds.ps encode-kinds.r) κs)
    → encode-contract.Post κs a r s → (blocks : ℕ) → ◌≡◌ {A = Result ℕ Refusal} r (Ok blocks) →
    let k = a.0 in
    let L = a.1.0 in
    let o : Origin = record { edition = a.1.1.0; arm = a.1.1.1.0; mount = a.1.1.1.1.0 } in
    let input = a.1.1.1.1.1.0.now in
    let start = a.1.1.1.1.1.1.0 in
    let label = a.1.1.1.1.1.1.1.0.now in
    let limit = a.1.1.1.1.1.1.1.1.0 in
    let numbers = a.1.1.1.1.1.1.1.1.1.0.now in
    let bytes = a.1.1.1.1.1.1.1.1.1.1.0.now in
    let room = a.1.1.1.1.1.1.1.1.1.1.1.0.now in
    into_record k L o label (take (area_of k) (drop start input)) limit (take (area_of k) numbers) bytes room ≡ record { refusal = 0; blocks = blocks; room = s.1.1.1.1.1.1.1.1.1.1.1.0.now }
encode_into_record κs a r s x blocks h = encoding_in_lem _ _ _ _ _ _ _ _ _ _ _ (rw h at x) refl

-- ---- out of a record
one_refused : (a : ℕ) (d : Decoding) (i : Inverse) (picture : List ℕ) (room : List ℤ) →
    let r : Rebuilding = judged a (λ r. record { refusal = r; unfinished = d.unfinished; read = d.read; place = d.place; numbers = d.numbers; picture = picture; room = room }) (record { refusal = i.refusal; unfinished = d.unfinished; read = d.read; place = d.place; numbers = d.numbers; picture = i.picture; room = i.room }) in
    r.refusal ≡ 0 → (i.refusal ≡ 0) × (i.picture ≡ r.picture) × (d.unfinished ≡ r.unfinished) × (d.place ≡ r.place) × (d.numbers ≡ r.numbers)
one_refused zero d i picture room h = (h, refl, refl, refl, refl)
one_refused (suc a) d i picture room h = absurd (omega arith)

-- the front of the picture's buffer ends as the journey's picture, that of the numbers' as the numbers decoded, whatever is shown of
-- them, and the unfinished planes and the place are the journey's
pub record Shown (seen : Seen) (area shown : ℕ) (held holds : List ℤ) (before after : List ℕ) (unfinished place : ℕ) : Type 0 where
  pub accepted : seen.rebuilt.refusal ≡ 0
  pub picture : after ≡ seen.rebuilt.picture ++ drop shown before
  pub numbers : holds ≡ seen.decoded.numbers ++ drop area held
  pub planes : unfinished ≡ seen.decoded.unfinished
  pub cut : place ≡ seen.decoded.place

-- the journey of what is wanted: to the picture, to a softer one, or to a thumbnail
abbrev pub journey_of : Wanted → List ℕ → List ℕ → List ℕ → List ℤ → List ℕ → List ℤ → Seen
journey_of Picture label s payload numbers picture room = out_of_record label s payload numbers picture room
journey_of Softer label s payload numbers picture room = softer_out_of_record label s payload numbers picture room
journey_of (Thumbnail r) label s payload numbers picture room = thumbnail_out_of_record r label s payload numbers picture room

journey_is : (wanted : Wanted) (label s payload : List ℕ) (numbers : List ℤ) (picture : List ℕ) (room : List ℤ)
    → journey_of wanted label s payload numbers picture room ≡ seen_by (λ k L d. shown_job wanted k L d.unfinished d.place d.numbers picture room) label s payload numbers
unfolding out_of_record softer_out_of_record thumbnail_out_of_record
journey_is Picture label s payload numbers picture room = refl
journey_is Softer label s payload numbers picture room = refl
journey_is (Thumbnail r) label s payload numbers picture room = refl

rebuilding_out_of_record : (wanted : Wanted) (label s payload : List ℕ) (numbers : List ℤ) (picture : List ℕ) (room : List ℤ) (q : Rebuilding) →
    let read = reading_job s label payload in
    let area = area_of read.k in
    let shown = area_of (read.k - halvings_of wanted) in
    rebuilding_in wanted read.k read.L read.n read.room read.bits numbers picture room ≡ q → q.refusal ≡ 0
    → Shown (journey_of wanted label s payload (take area numbers) (take shown picture) (take shown room)) area shown numbers q.numbers picture q.picture q.unfinished q.place
unfolding rebuilding_in rebuilding_of
rebuilding_out_of_record wanted label s payload numbers picture room q p h =
    let read = reading_job s label payload in
    let area = area_of read.k in
    let shown = area_of (read.k - halvings_of wanted) in
    let is = not_3 (λ (q : Rebuilding). q.refusal) (leb area (length numbers) && leb shown (length picture) && leb shown (length room)) _ _ q refl p h in
    let d = decoding_job read.k read.L read.n (take area numbers) read.room read.bits in
    let i = shown_job wanted read.k read.L d.unfinished d.place d.numbers (take shown picture) (take shown room) in
    let all = one_refused d.refusal d i (take shown picture) (take shown room) (ap (λ (q : Rebuilding). q.refusal) is ∙ h) in
    rw (journey_is wanted label s payload (take area numbers) (take shown picture) (take shown room)) (record {
      accepted = all.0;
      picture = sym (ap (λ (q : Rebuilding). q.picture) is) ∙ ap (λ (l : List ℕ). l ++ drop shown picture) (sym all.1);
      numbers = sym (ap (λ (q : Rebuilding). q.numbers) is) ∙ ap (λ (l : List ℤ). l ++ drop area numbers) (sym all.4);
      planes = sym (ap (λ (q : Rebuilding). q.unfinished) is) ∙ sym all.2;
      cut = sym (ap (λ (q : Rebuilding). q.place) is) ∙ sym all.3;
    })

-- Where rebuild, lent what the reader gave, does not refuse, the greys, the numbers, the unfinished planes and the place are those of the
-- journey.
pub rebuild_out_of_record : (label s payload : List ℕ) → let read = reading_job s label payload in
    (κs : Lfts 4) (a : ArgsD rebuild-fn.signature κs) (r : ResD rebuild-fn.signature κs) (e : AtExit (ended_of 4 rebuild-kinds.ps rebuild-kinds.r) κs)
    → rebuild-contract.Post κs a r e → (settled : Settled) → ◌≡◌ {A = Result Settled Unshown} r (Ok settled)
    → a.1.0 ≡ read.k → a.1.1.0 ≡ read.L → a.1.1.1.0 ≡ read.n → a.1.1.1.1.0.now ≡ read.room → a.1.1.1.1.1.0 ≡ read.bits →
    let wanted = a.0 in
    let area = area_of read.k in
    let shown = area_of (read.k - halvings_of wanted) in
    let numbers = a.1.1.1.1.1.1.0.now in
    let picture = a.1.1.1.1.1.1.1.0.now in
    let room = a.1.1.1.1.1.1.1.1.0.now in
    Shown (journey_of wanted label s payload (take area numbers) (take shown picture) (take shown room)) area shown numbers e.1.1.1.1.1.1.0.now picture e.1.1.1.1.1.1.1.0.now settled.unfinished settled.place
rebuild_out_of_record label s payload κs a r e x settled h k L n bytes b =
    rebuilding_out_of_record a.0 label s payload _ _ _ _ (sym (λ i. rebuilding_in a.0 (k i) (L i) (n i) (bytes i) (b i) a.1.1.1.1.1.1.0.now a.1.1.1.1.1.1.1.0.now a.1.1.1.1.1.1.1.1.0.now) ∙ (rw h at x.0)) refl
