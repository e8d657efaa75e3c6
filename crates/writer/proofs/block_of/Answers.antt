-- `block_of` is the definition's block: the count by arithmetic, the payload and the block by their contracts.
use Prim.Native.Nat.{ℕ, ◌*◌, ◌-◌, min}
use mathlib.Core.Path.{◌≡◌, ap, ◌∙◌}
use native.Mathlib.Omega.{arith}
use lib.ListN.{take, drop}
use lib.Seq.{take_at}
use Rattle.paper.specs.Bits.{bits, packed}
use Rattle.paper.specs.Block.{start_of, payload_bytes}
use Rattle.bits.proofs.Packing.{packed_length}
use Rattle.block.specs.Origins.{origin_of}
use Rattle.writer.proofs.Blocks.{block_is}
use Rattle.writer.proofs.block_of.Goals as goal

pub returns : goal.returns
returns c =
    let a = c.args in
    let has = c.payload_bytes-size.ensures ∙ ap (λ (e : ℕ). payload_bytes (start_of e)) (c.from.ensures ∙ c.edition.ensures) in
    let all : c.payload_bytes-size.result - 0 ≡ c.payload_bytes-size.result = omega arith in
    block_is (origin_of a.h.origin) a.h.k a.h.levels a.h.n a.label.now a.bytes.now a.b a.i _ _ _ c.requires.b_bound
    (c.count_in.ensures ∙ ap (λ (size : ℕ). min (8 * size) (a.b - 8 * size * a.i)) has)
    (ap (λ (n : ℕ). take n c.payload-part.result) all ∙ ap (take c.payload_bytes-size.result) c.payload-part.ensures ∙ take_at _ _ c.payload_bytes-size.result (packed_length c.payload_bytes-size.result _) ∙ ap (λ (size : ℕ). packed size (drop (8 * (size * a.i)) (take a.b (bits a.bytes.now)))) has)
    c.made.ensures
