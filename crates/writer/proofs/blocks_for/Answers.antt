-- `blocks_for` counts by the payload of the edition, and never less than 1.
use Prim.Native.Nat.{ℕ, max}
use mathlib.Core.Path.{◌≡◌, ap, ◌∙◌}
use native.Mathlib.Omega.{arith}
use Rattle.paper.specs.Lists.{parts}
use Rattle.paper.specs.Block.{payload_bits}
use Rattle.paper.specs.Record.{blocks_of}
use Rattle.block.proofs.Editions.{start_most}
use Rattle.writer.proofs.Bytes.{parts_up}
use Rattle.writer.proofs.blocks_for.Goals as goal

pub returns : goal.returns
returns c =
    let full = payload_bits c.payload_start.result in
    let most : max (parts c.args.b full) 1 ≡ max 1 (parts c.args.b full) = omega arith in
    c.max.ensures ∙ ap (λ (n : ℕ). max n 1) (c.div_ceil.ensures ∙ parts_up c.args.b full (omega (arith, c.payload_start.ensures, start_most c.args.edition)))
    ∙ most ∙ ap (λ (start : ℕ). blocks_of start c.args.b) c.payload_start.ensures
