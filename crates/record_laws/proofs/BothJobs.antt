-- The writing job and the reading job together: what one wrote, the other gives back.
use Rattle.std.specs.Prelude.{◌≡◌, List, ℕ, ◌*◌, ◌/◌, ◌≤◌, min, take}
use Rattle.std.proofs.Common.{ap, ◌∙◌, arith}
use Rattle.std.proofs.Math.ListN.{length}
use Rattle.std.proofs.lemmas.List.{take-append-le}
use Rattle.paper.specs.Lists.{over}
use Rattle.paper.specs.Bits.{bits}
use Rattle.paper.specs.Block.{Origin, block_bytes}
use Rattle.paper.specs.Record.{blocks_for, record_of}
use Rattle.paper.specs.Jobs.{room_bytes, writing_refusal, writing_job, reading_job}
use Rattle.record_laws.specs.ReadBack.{read_back, length_record}
use Rattle.record_laws.proofs.ReadBack.{read_cut}
use Rattle.record_laws.specs.BothJobs.{record_writable, bits_given, room_written}

module _ (k L n : ℕ) (o : Origin) (label bytes : List ℕ) (b : ℕ) (room : List ℕ) (passed : writing_refusal k L n o label bytes b room ≡ 0) where
  -- any first part of the record with a whole block, read with its label into enough room, gives back what was written, as much as its whole blocks hold
  pub read_written : (m : ℕ) (lent : List ℕ) → block_bytes ≤ m → m ≤ block_bytes * blocks_for o.edition b → room_bytes * (m / block_bytes) ≤ length lent
      → reading_job (take m (writing_job k L n o label bytes b room).room) label lent ≡ read_back o k L n (take b (bits bytes)) lent (m / block_bytes)
  read_written m lent h g r =
      let l = take b (bits bytes) in
      let whole : length (record_of o k L n label l) ≡ block_bytes * blocks_for o.edition b = length_record o k L n label l (record_writable k L n o label bytes b room passed) ∙ ap (λ c. block_bytes * blocks_for o.edition c) (bits_given k L n o label bytes b room passed) in
      let front : take m (over (record_of o k L n label l) room) ≡ take m (record_of o k L n label l) = take-append-le m (record_of o k L n label l) _ (omega arith) in
      let blocks : min (m / block_bytes) (blocks_for o.edition (length l)) ≡ m / block_bytes = omega (arith, ap (blocks_for o.edition) (bits_given k L n o label bytes b room passed)) in
      ap (λ w. reading_job (take m w.room) label lent) (room_written k L n o label bytes b room passed) ∙ ap (λ s. reading_job s label lent) front
      ∙ read_cut o k L n label l (record_writable k L n o label bytes b room passed) m lent h (omega arith) ∙ ap (read_back o k L n l lent) blocks
