-- A block that is refused by 10 is never left without a reason: where none of the six applies, it is in its turn.
use mathlib.Core.Path.{◌≡◌, sym, ap, ◌∙◌}
use mathlib.Core.Bool.{true}
use mathlib.Core.List.{List, [], ◌∷◌, ◌++◌}
use Prim.Native.Nat.{ℕ, zero, suc, ◌-◌, ◌<◌, ◌≤◌}
use native.Mathlib.Omega.{arith}
use lib.Dec.{eqb}
use lib.ListN.{length, take, drop, get_or, length-take, length-drop}
use lib.Seq.{take-add, take-suc, drop-drop, ext_get_or}
use borrow.Author.Tests.{eqb-true}
use Rattle.paper.specs.Lists.{Bytes}
use Rattle.paper.specs.Block.{block_bytes, header_bytes, start_of, byte_at, triple_at, edition_of, label_of, number_of, named_of, arm_of, mount_of, same_bytes}
use Rattle.paper.specs.Record.{said, in_turn}
use Rattle.list_laws.specs.Parts.{part_bytes}
use Rattle.block.proofs.Editions.{start_most}
use Rattle.block.proofs.Blocks.{same_bytes_refl, same_bytes_equal}
use Rattle.faults.specs.Faults.{form_of}

-- at most four bytes: the first, and the number that the others make
four_bytes : (a b : List ℕ) → Bytes a → Bytes b → length a ≡ length b → length a ≤ 4
    → byte_at a 0 ≡ byte_at b 0 → triple_at a 1 ≡ triple_at b 1 → a ≡ b
four_bytes a b x y same few arm mount = ext_get_or 0 a b same each
  where
    each : (i : ℕ) → i < length a → get_or a i 0 ≡ get_or b i 0
    each zero h = arm
    each (suc zero) h = omega (arith, x 2, x 3, y 2, y 3)
    each (suc (suc zero)) h = omega (arith, x 2, x 3, y 2, y 3)
    each (suc (suc (suc zero))) h = omega (arith, x 2, x 3, y 2, y 3)
    each (suc (suc (suc (suc i)))) h = absurd (omega arith)

-- bytes 0 to 11 in three parts
front_parts : (block : List ℕ) → length block ≡ block_bytes → take 12 block ≡ (edition_of block ∷ []) ++ (form_of block ++ label_of block)
front_parts block long =
    let one : 0 < length block = omega arith in
    take-add 1 11 block ∙ (ap (λ (l : List ℕ). l ++ take 11 (drop 1 block)) (take-suc block 0 0 one)
    ∙ ap (λ (l : List ℕ). (edition_of block ∷ []) ++ l) (take-add 3 8 (drop 1 block) ∙ ap (λ (l : List ℕ). form_of block ++ take 8 l) (drop-drop 3 1 block)))

module _ (first block : List ℕ) (x : length first ≡ block_bytes) (y : length block ≡ block_bytes) (u : Bytes first) (v : Bytes block) where
  -- arm and mount are the same, if the edition is
  named_same : edition_of block ≡ edition_of first → arm_of block ≡ arm_of first → mount_of block ≡ mount_of first → named_of block ≡ named_of first
  unfolding named_of
  named_same e arm mount =
      let room = start_of (edition_of block) - header_bytes in
      let other = start_of (edition_of first) - header_bytes in
      let rooms : room ≡ other = ap (λ (e : ℕ). start_of e - header_bytes) e in
      four_bytes (take room (drop header_bytes block)) (take other (drop header_bytes first)) (part_bytes room header_bytes block v) (part_bytes other header_bytes first u)
      (omega (arith, rooms, length-take room (drop header_bytes block), length-take other (drop header_bytes first), length-drop header_bytes block, length-drop header_bytes first))
      (omega (arith, start_most (edition_of block), length-take room (drop header_bytes block)))
      arm mount

  -- block 0 was kept, so its label is the one expected; or block 0 is the block itself
  pub no_reason_left : (label : List ℕ) (i : ℕ) → same_bytes (label_of first) label ≡ true
      → eqb (number_of block) i ≡ true → same_bytes (label_of block) label ≡ true
      → eqb (edition_of block) (edition_of first) ≡ true → same_bytes (form_of block) (form_of first) ≡ true
      → eqb (arm_of block) (arm_of first) ≡ true → eqb (mount_of block) (mount_of first) ≡ true
      → in_turn (said first) label i block ≡ true
  unfolding in_turn said
  no_reason_left label i kept number name edition form arm mount =
      let e = eqb-true (edition_of block) (edition_of first) edition in
      let names : label_of block ≡ label_of first = same_bytes_equal (label_of block) label name ∙ sym (same_bytes_equal (label_of first) label kept) in
      let parts : (edition_of block ∷ []) ++ (form_of block ++ label_of block) ≡ (edition_of first ∷ []) ++ (form_of first ++ label_of first) = rw (e, same_bytes_equal (form_of block) (form_of first) form, names) in
      let front : take 12 block ≡ take 12 first = front_parts block y ∙ (parts ∙ sym (front_parts first x)) in
      let behind = named_same e (eqb-true (arm_of block) (arm_of first) arm) (eqb-true (mount_of block) (mount_of first) mount) in
      rw (number, front, behind, same_bytes_refl (take 12 first ++ named_of first), name)

-- of block 0 itself there are but two
pub no_reason_first : (label block : List ℕ) → eqb (number_of block) 0 ≡ true → same_bytes (label_of block) label ≡ true → in_turn (said block) label 0 block ≡ true
unfolding in_turn
no_reason_first label block number name = rw (number, same_bytes_refl (said block), name)
