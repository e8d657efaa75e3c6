-- Which numbers a run and the reading job can end with: whole blocks have 512 bytes, so that no block of a run is refused by 6.
-- What the run and the reading job end with is in proofs/Ended.antt.
use Rattle.std.specs.Prelude.{◌≡◌, Bool, ◌&&◌, List, [], ◌∷◌, ◌⊎◌, drop}
use Rattle.std.proofs.Math.Path.{refl, subst}
use Rattle.std.proofs.Common.{sym, ◌∙◌, arith, length-take, length-drop}
use Rattle.std.proofs.Math.Bool.{true, false}
use Rattle.std.proofs.Math.Logic.{inl, inr}
use Prim.Native.Nat.{ℕ, zero, suc, ◌+◌, ◌*◌, ◌<◌, ◌≤◌}
use Rattle.std.proofs.Math.Dec.{leb}
use Rattle.std.proofs.Math.ListN.{length}
use borrow.Author.Tests.{eq-eqb, leb-true}
use Rattle.paper.specs.Sizes.{unless}
use Rattle.paper.specs.Block.{is_label, block_bytes, checks_right, contents_right, block_refusal}
use Rattle.paper.specs.Record.{whole_blocks, block_at, said, in_turn, turn_row, turn_refusal, refusal_at, is_full, Run, run_from, start_in}
use Rattle.paper.specs.Jobs.{Read, room_bytes, lent_refusal, read_refused, reading_refusal, reading_job}
use Rattle.sizes.proofs.Ranges.{both_first}
use Rattle.sizes.proofs.Refusals.{refusal_is}

-- one of some numbers
abbrev pub OneOf : List ℕ → ℕ → Type 0
OneOf [] r = ⊥
OneOf (a ∷ l) r = (r ≡ a) ⊎ OneOf l r

-- what a block in its turn, a run and the reading job end with
abbrev pub Ended : ℕ → Type 0
Ended = OneOf (0 ∷ 8 ∷ 9 ∷ 10 ∷ [])

abbrev RunEnded : Run → Type 0
RunEnded run = Ended run.ended

pub turn_refusal_0_8_9_10 : (first label : List ℕ) (i : ℕ) (block : List ℕ) → length block ≡ block_bytes → Ended (turn_refusal first label i block)
unfolding turn_refusal block_refusal
turn_refusal_0_8_9_10 first label i block whole = rw (eq-eqb _ _ whole) (go (checks_right block) (contents_right block) (in_turn first label i block))
  where
    go : (c f t : Bool) → Ended (turn_row (unless 8 c (unless 9 f 0)) t)
    go true true true = inl refl
    go true true false = inr (inr (inr (inl refl)))
    go true false t = inr (inr (inl refl))
    go false f t = inr (inl refl)

pub whole_block : (s : List ℕ) (i : ℕ) → i < whole_blocks s → length (block_at s i) ≡ block_bytes
whole_block s i h = length-take block_bytes (drop (block_bytes * i) s) ∙ omega (arith, length-drop (block_bytes * i) s)

module _ (s label : List ℕ) where
  pub refusal_at_0_8_9_10 : (i : ℕ) → i < whole_blocks s → Ended (refusal_at s label i)
  refusal_at_0_8_9_10 i h = turn_refusal_0_8_9_10 (said (block_at s 0)) label i (block_at s i) (whole_block s i h)

  pub ended_from : (left i : ℕ) → i + left ≤ whole_blocks s → RunEnded (run_from (start_in s) (refusal_at s label) s left i)
  unfolding run_from
  ended_from zero i h = inl refl
  ended_from (suc left) i h = go (refusal_at s label i) (is_full (start_in s) (block_at s i)) (refusal_at_0_8_9_10 i (omega arith)) (ended_from left (suc i) (omega arith))
    where
      go : (r : ℕ) (f : Bool) → Ended r → RunEnded (run_from (start_in s) (refusal_at s label) s left (suc i))
          → RunEnded (elim r [
            | zero ↦ elim f [ true ↦ run_from (start_in s) (refusal_at s label) s left (suc i) | false ↦ record { kept = suc i; ended = 0 } ]
            | suc r ↦ record { kept = i; ended = suc r }
          ])
      go zero true e later = later
      go zero false e later = e
      go (suc r) f e later = e

module _ (s label room : List ℕ) where
  pub read_refusal_0_6_7_8_9_10 : OneOf (0 ∷ 6 ∷ 7 ∷ 8 ∷ 9 ∷ 10 ∷ []) (reading_job s label room).refusal
  unfolding reading_job reading_refusal lent_refusal
  read_refusal_0_6_7_8_9_10 =
      let first = leb block_bytes (length s) in
      let fits = leb (room_bytes * whole_blocks s) (length room) in
      subst (OneOf (0 ∷ 6 ∷ 7 ∷ 8 ∷ 9 ∷ 10 ∷ [])) (sym (refusal_is (λ (a : Read). a.refusal) (reading_refusal s label room) (read_refused room) _ (λ r. refl) refl))
      (rows (first && fits) (is_label label) (λ h. let whole : block_bytes ≤ length s = leb-true _ _ (both_first first fits h) in refusal_at_0_8_9_10 s label 0 (omega arith)))
    where
      more : {r : ℕ} → Ended r → OneOf (0 ∷ 6 ∷ 7 ∷ 8 ∷ 9 ∷ 10 ∷ []) r
      more (inl e) = inl e
      more (inr e) = inr (inr (inr e))

      rows : (a b : Bool) → (a ≡ true → Ended (refusal_at s label 0)) → OneOf (0 ∷ 6 ∷ 7 ∷ 8 ∷ 9 ∷ 10 ∷ []) (unless 6 a (unless 7 b (refusal_at s label 0)))
      rows true true e = more (e refl)
      rows true false e = inr (inr (inl refl))
      rows false b e = inr (inl refl)
