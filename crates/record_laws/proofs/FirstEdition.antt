-- What the first edition's reader opens, the reader of both editions opens the same.
use Rattle.std.specs.Prelude.{◌≡◌, refl, true, false, ◌&&◌, leb, eqb, length}
use Rattle.std.proofs.Math.Path.{sym, ap}
use Rattle.std.proofs.Common.{◌∙◌, subst, inr, arith, ne_eqb, eqb-true}
use Rattle.std.proofs.Math.Bool.{Bool}
use mathlib.Core.List.{List, ◌++◌, append-nil}
use Rattle.std.proofs.Math.Logic.{inl}
use Prim.Native.Nat.{ℕ, zero, suc, ◌*◌}
use Rattle.std.proofs.Math.Decide.{ℕ_discrete}
use Rattle.std.proofs.Math.ListN.{take}
use Rattle.paper.specs.Sizes.{unless}
use Rattle.paper.specs.Lists.{over}
use Rattle.paper.specs.Block.{is_label, block_bytes, header_bytes, byte_at, edition_of, checks_right, fields_right, contents_right, block_refusal}
use Rattle.paper.specs.Record.{whole_blocks, block_at, said, in_turn, turn_row, turn_refusal, refusal_at, is_full, Run, run_from, start_in, run_of, bits_kept, payload_kept}
use Rattle.paper.specs.Jobs.{room_bytes, Read, lent_refusal, read_run, read_refused, reading_refusal, reading_job}
use Rattle.paper.specs.First.{first_refusal, first_in_turn, first_refusal_at, first_run_of, FirstRead, first_read_run, first_refused, first_reading}
use Rattle.sizes.proofs.Ranges.{both_first}
use Rattle.sizes.proofs.Refusals.{row_passed, rows_left, done_is, refusal_is}
use Rattle.block.proofs.Editions.{start_first, named_of_first, arm_none, mount_none}
use Rattle.record_laws.specs.Turn.{own_row, edition_of_0, edition_kept}
use Rattle.record_laws.specs.FirstEdition.{first_same, Alike}

-- ---- rows 6 and 7 before it
lent_left : (s label room : List ℕ) (later : ℕ) → lent_refusal s label room later ≡ 0 → later ≡ 0
unfolding lent_refusal
lent_left s label room later passed = rows_left 6 (is_label label) later (rows_left 5 (leb block_bytes (length s) && leb (room_bytes * whole_blocks s) (length room)) _ passed)

-- a job that is not refused passed its rows
module _ (s label room : List ℕ) where
  first_passed : (first_reading s label room).refusal ≡ 0 → lent_refusal s label room (first_refusal_at s label 0) ≡ 0
  unfolding first_reading
  first_passed opened = sym (refusal_is (λ (f : FirstRead). f.refusal) _ (first_refused room) _ (λ r. refl) refl) ∙ opened

  today_passed : (reading_job s label room).refusal ≡ 0 → lent_refusal s label room (refusal_at s label 0) ≡ 0
  unfolding reading_job reading_refusal
  today_passed opened = sym (refusal_is (λ (f : Read). f.refusal) _ (read_refused room) _ (λ r. refl) refl) ∙ opened

-- ---- what that reader opens, the reader of both editions opens the same
alike_0 : {a b : ℕ} → Alike a b → b ≡ 0 → a ≡ 0
alike_0 (inl e) z = e ∙ z
alike_0 (inr (e, f)) z = absurd (omega arith)

alike_0_back : {a b : ℕ} → Alike a b → a ≡ 0 → b ≡ 0
alike_0_back (inl e) z = sym e ∙ z
alike_0_back (inr (e, f)) z = absurd (omega arith)

-- two runs keep the same, and end alike
record RunsAlike (p q : Run) : Type 0 where
  same_kept : p.kept ≡ q.kept
  ended_alike : Alike p.ended q.ended

runs_alike : (start : ℕ) (p q : ℕ → ℕ) (s : List ℕ) → ((j : ℕ) → Alike (p j) (q j)) → (left i : ℕ) → RunsAlike (run_from start p s left i) (run_from start q s left i)
unfolding run_from
runs_alike start p q s h zero i = record { same_kept = refl; ended_alike = inl refl }
runs_alike start p q s h (suc left) i = go (p i) (q i) (h i) (is_full start (block_at s i)) (runs_alike start p q s h left (suc i))
  where
    at : (ℕ → ℕ) → ℕ → Bool → Run
    at refusal r full = elim r [
      | zero ↦ elim full [ true ↦ run_from start refusal s left (suc i) | false ↦ record { kept = suc i; ended = 0 } ]
      | suc r ↦ record { kept = i; ended = suc r }
    ]

    go : (a b : ℕ) → Alike a b → (full : Bool) → RunsAlike (run_from start p s left (suc i)) (run_from start q s left (suc i)) → RunsAlike (at p a full) (at q b full)
    go zero zero same true later = later
    go zero zero same false later = record { same_kept = refl; ended_alike = inl refl }
    go zero (suc b) same full later = absurd (let z : suc b ≡ 0 = alike_0_back same refl in omega arith)
    go (suc a) zero same full later = absurd (let z : suc a ≡ 0 = alike_0 same refl in omega arith)
    go (suc a) (suc b) same full later = record { same_kept = refl; ended_alike = same }

edition_passed : (block : List ℕ) → first_refusal block ≡ 0 → edition_of block ≡ 1
unfolding first_refusal
edition_passed block passed =
    let one = eqb (edition_of block) 1 in
    let fields = fields_right header_bytes block in
    let nine = rows_left 7 (checks_right block) _ (rows_left 5 (eqb (length block) block_bytes) _ passed) in
    eqb-true _ _ (both_first one fields (row_passed 8 (one && fields) 0 nine))

module _ (s label : List ℕ) (first : edition_of s ≡ 1) where
  -- in turn too, if both are of edition 1: no arm is named
  said_front : (block : List ℕ) → edition_of block ≡ 1 → said block ≡ take 12 block
  unfolding said
  said_front block one = ap (λ n. take 12 block ++ n) (named_of_first block one) ∙ append-nil (take 12 block)

  same_at : (j : ℕ) → edition_of (block_at s j) ≡ 1 → first_refusal_at s label j ≡ refusal_at s label j
  unfolding first_in_turn turn_refusal in_turn
  same_at j one = rw (said_front (block_at s j) one, said_front (block_at s 0) (edition_of_0 s ∙ first), first_same (block_at s j) one)

  -- a block of another edition is out of turn here
  out_of_turn : (j : ℕ) → (edition_of (block_at s j) ≡ 1 → ⊥) → refusal_at s label j ≡ 0 → ⊥
  out_of_turn j other passed = other (edition_kept s label j passed ∙ first)

  -- the two judge alike
  alike : (j : ℕ) → Alike (refusal_at s label j) (first_refusal_at s label j)
  unfolding first_refusal turn_refusal block_refusal
  alike j = elim (ℕ_discrete (edition_of (block_at s j)) 1) [
    | yes one ↦ inl (sym (same_at j one))
    | no other ↦
        let B = block_at s j in
        rw (ne_eqb (edition_of B) 1 other)
        (go (eqb (length B) block_bytes) (checks_right B) (contents_right B) (in_turn (said (block_at s 0)) label j B) (first_in_turn (block_at s 0) label j B) (out_of_turn j other))
  ]
    where
      own : Bool → Bool → Bool → ℕ
      own w c f = unless 6 w (unless 8 c (unless 9 f 0))

      go : (w c f t u : Bool) → (turn_row (own w c f) t ≡ 0 → ⊥) → Alike (turn_row (own w c f) t) (turn_row (own w c false) u)
      go true true true true u out = absurd (out refl)
      go true true true false u out = inr (refl, refl)
      go true true false t u out = inl refl
      go true false f t u out = inl refl
      go false c f t u out = inl refl

  starts : start_in s ≡ header_bytes
  starts = start_first (edition_of s) first

  -- so both runs keep the same
  runs : RunsAlike (run_of s label) (first_run_of s label)
  runs = subst (λ start. RunsAlike (run_from start (refusal_at s label) s (whole_blocks s) 0) (first_run_of s label)) (sym starts) (runs_alike header_bytes (refusal_at s label) (first_refusal_at s label) s alike (whole_blocks s) 0)

-- ---- the two readers
module _ (s label room : List ℕ) where
  abbrev old : FirstRead
  old = first_reading s label room

  abbrev new : Read
  new = reading_job s label room

  -- what the first reader opens is of edition 1
  first_block_0 : first_refusal_at s label 0 ≡ 0 → edition_of s ≡ 1
  first_block_0 h = sym (edition_of_0 s) ∙ edition_passed (block_at s 0) (own_row (first_refusal (block_at s 0)) _ h).0

  opened_by : lent_refusal s label room (first_refusal_at s label 0) ≡ 0 → (old ≡ first_read_run s room (first_run_of s label)) × (new ≡ read_run (edition_of s) s room (run_of s label))
  unfolding first_reading reading_job reading_refusal
  opened_by passed =
      let block_0 = lent_left s label room (first_refusal_at s label 0) passed in
      let too = alike_0 (alike s label (first_block_0 block_0) 0) block_0 in
      (done_is _ _ _ passed, done_is _ _ _ (ap (lent_refusal s label room) (too ∙ sym block_0) ∙ passed))

  -- Whatever the first reader opens, the reader of both editions opens, and gives and leaves the same, with edition 1, arm 0 and
  -- mount 0 besides.
  pub first_read_same : old.refusal ≡ 0 → new ≡ record { refusal = 0; k = old.k; L = old.L; n = old.n; blocks = old.blocks; bits = old.bits; ended = new.ended; edition = 1; arm = 0; mount = 0; room = old.room }
  first_read_same opened =
      let passed = first_passed s label room opened in
      let first = first_block_0 (lent_left s label room (first_refusal_at s label 0) passed) in
      let both = opened_by passed in
      let kept = (runs s label first).same_kept in
      both.1
      ∙ (λ t. record {
        refusal = 0;
        k = byte_at s 1;
        L = byte_at s 2;
        n = byte_at s 3;
        blocks = kept t;
        bits = bits_kept (starts s label first t) s (kept t);
        ended = (run_of s label).ended;
        edition = first t;
        arm = arm_none s first t;
        mount = mount_none s first t;
        room = over (payload_kept (starts s label first t) s (kept t)) room;
      })
      ∙ (λ t. let o = sym both.0 t in record { refusal = 0; k = o.k; L = o.L; n = o.n; blocks = o.blocks; bits = o.bits; ended = (sym both.1 t).ended; edition = 1; arm = 0; mount = 0; room = o.room })

  -- Only the number that ended the run may be another: 10 where it was 9.
  pub first_ended : old.refusal ≡ 0 → Alike new.ended old.ended
  first_ended opened =
      let passed = first_passed s label room opened in
      let first = first_block_0 (lent_left s label room (first_refusal_at s label 0) passed) in
      let both = opened_by passed in
      rw (both.0, both.1) (runs s label first).ended_alike

  -- And of edition 1 it opens all that is opened now.
  pub first_opens : edition_of s ≡ 1 → new.refusal ≡ 0 → old.refusal ≡ 0
  first_opens first opened =
      let now = lent_left s label room (refusal_at s label 0) (today_passed s label room opened) in
      let before = alike_0_back (alike s label first 0) now in
      ap (λ (f : FirstRead). f.refusal) (opened_by (ap (lent_refusal s label room) (before ∙ sym now) ∙ today_passed s label room opened)).0
