-- A written block, of either edition, passes the single-block check and gives back what was put into it.
use Rattle.std.specs.Prelude.{◌≡◌, Bool, true, List, ◌∷◌, ◌++◌, ℕ, ◌*◌, ◌-◌, ◌<◌, ◌≤◌, min, length, take, drop}
use Rattle.std.proofs.Common.{ap, ◌∙◌, arith, length-take, length-drop}
use Rattle.bits.proofs.Packing.{packed_length}
use Rattle.block.proofs.Editions.{start_least}
use Rattle.block.proofs.Blocks.{label_length, made_length, front_of_made, named_of_made, said_of_made, label_of_made, number_of_made, count_of_made, payload_of_made, made_passes}
use Rattle.record_laws.specs.Packing.{unused_back}
use Rattle.paper.specs.Sizes.{size_in, levels_in, planes_in}
use Rattle.paper.specs.Lists.{joined}
use Rattle.paper.specs.Bits.{packed}
use Rattle.paper.specs.Block.{is_label, Origin, edition_in, origin_in, block_bytes, start_of, payload_bytes, payload_bits, numbered_blocks, header, named, sealed, label_of, number_of, count_of, named_of, payload_of, block_refusal}
use Rattle.paper.specs.Record.{made_block, bits_of_block, blocks_for, block_of, record_of, said}

-- what a record can be made of: an edition that there is, an arm and a mount in range, sizes in range, a label, and no more bits than
-- numbered blocks hold
pub record Writable (o : Origin) (k L n : ℕ) (label : List ℕ) (l : List Bool) : Type 0 where
  pub known : edition_in o.edition ≡ true
  pub origin : origin_in o ≡ true
  pub size : size_in k ≡ true
  pub levels : levels_in k L ≡ true
  pub planes : planes_in n ≡ true
  pub labelled : is_label label ≡ true
  pub few : length l ≤ payload_bits (start_of o.edition) * numbered_blocks

module _ (start : ℕ) (l : List Bool) (i : ℕ) where
  pub length_of_block : length (bits_of_block start l i) ≡ min (payload_bits start) (length l - payload_bits start * i)
  length_of_block = length-take (payload_bits start) (drop (payload_bits start * i) l) ∙ ap (min (payload_bits start)) (length-drop (payload_bits start * i) l)

  few_bits : length (bits_of_block start l i) ≤ payload_bits start
  few_bits = omega (arith, length_of_block)

  abbrev payload : List ℕ
  payload = packed (payload_bytes start) (bits_of_block start l i)

  payload_length : length payload ≡ payload_bytes start
  payload_length = packed_length (payload_bytes start) (bits_of_block start l i)

module _ (o : Origin) (k L n : ℕ) (label : List ℕ) (l : List Bool) (w : Writable o k L n label l) (i : ℕ) where
  abbrev start : ℕ
  start = start_of o.edition

  abbrev block : List ℕ
  block = block_of o k L n label l i

  eight : length label ≡ 8
  eight = label_length label w.labelled

  pub length_block : length block ≡ block_bytes
  unfolding block_of
  length_block = made_length o k L n label i _ (payload start l i) eight (payload_length start l i)

  pub front_of_block : take 12 block ≡ o.edition ∷ k ∷ L ∷ n ∷ label
  unfolding block_of
  front_of_block = front_of_made o k L n label i _ (payload start l i) eight (payload_length start l i)

  pub named_of_block : named_of block ≡ named o
  unfolding block_of
  named_of_block = named_of_made o k L n label i _ (payload start l i) eight (payload_length start l i)

  pub said_of_block : said block ≡ (o.edition ∷ k ∷ L ∷ n ∷ label) ++ named o
  unfolding block_of
  said_of_block = said_of_made o k L n label i _ (payload start l i) eight (payload_length start l i)

  pub label_of_block : label_of block ≡ label
  unfolding block_of
  label_of_block = label_of_made o k L n label i _ (payload start l i) eight (payload_length start l i)

  pub number_of_block : i < numbered_blocks → number_of block ≡ i
  unfolding block_of
  number_of_block = number_of_made o k L n label i _ (payload start l i) eight (payload_length start l i)

  pub count_of_block : count_of block ≡ min (payload_bits start) (length l - payload_bits start * i)
  unfolding block_of
  count_of_block = count_of_made o k L n label i _ (payload start l i) eight (payload_length start l i) (omega (arith, few_bits start l i, start_least o.edition)) ∙ length_of_block start l i

  pub payload_of_block : payload_of start block ≡ packed (payload_bytes start) (bits_of_block start l i)
  unfolding block_of
  payload_of_block = payload_of_made o k L n label i _ (payload start l i) eight (payload_length start l i)

  pub block_passes : block_refusal block ≡ 0
  unfolding block_of
  block_passes =
      made_passes o k L n label i _ (payload start l i) eight (payload_length start l i) w.known w.origin w.size w.levels w.planes w.labelled (few_bits start l i) (unused_back (payload_bytes start) (bits_of_block start l i) (few_bits start l i))

-- a record depends on its origin only by the edition and the bytes that name arm and mount
pub same_blocks : (o p : Origin) → o.edition ≡ p.edition → named o ≡ named p → (k L n : ℕ) (label : List ℕ) (l : List Bool) → block_of o k L n label l ≡ block_of p k L n label l
unfolding block_of made_block
same_blocks o p e says k L n label l = λ t. λ i. sealed (header (e t) k L n label i (length (bits_of_block (start_of (e t)) l i)) ++ (says t ++ payload (start_of (e t)) l i))

pub same_record : (o p : Origin) → o.edition ≡ p.edition → named o ≡ named p → (k L n : ℕ) (label : List ℕ) (l : List Bool) → record_of o k L n label l ≡ record_of p k L n label l
unfolding record_of
same_record o p e says k L n label l = λ t. joined (blocks_for (e t) (length l)) (same_blocks o p e says k L n label l t)
