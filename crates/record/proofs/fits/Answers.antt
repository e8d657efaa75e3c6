-- `fits`: b is small enough to count its blocks once it is within the bound.
use Prim.Native.Nat.{◌*◌, ◌≤◌}
use mathlib.Core.Path.{sym, ◌∙◌}
use native.Mathlib.Omega.{arith}
use borrow.Author.Tests.{leb-true}
use Rattle.paper.specs.Sizes.{most_bits}
use Rattle.paper.specs.Block.{start_of, payload_bits, numbered_blocks}
use Rattle.record_laws.specs.BothJobs.{most_bits_lem}
use Rattle.record.proofs.Writing.{blocks_numbered}
use Rattle.record.proofs.fits.Goals.{then-lends, else-lends}
use Rattle.record.proofs.fits.Goals as goal

pub overflow_mul-result : goal.overflow_mul-result
overflow_mul-result c =
    let a = c.args in
    let within : a.b ≤ most_bits a.k a.n = elim c.if-lends.branch [
      | then-lends w ↦ omega (arith, leb-true a.b w.most_bits.result (sym w.value-is ∙ c.if-b-most_bits.true), w.most_bits.ensures)
      | else-lends w ↦ cc
    ] in
    let few : a.b ≤ payload_bits (start_of a.edition) * numbered_blocks = omega (arith, most_bits_lem a.edition a.k a.n c.requires.k_value c.requires.n_value) in
    record { fits = omega (arith, c.blocks_for.ensures, blocks_numbered a.edition a.b few) }
