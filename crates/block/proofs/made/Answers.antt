-- `made` is the definition's block: header, arm and mount, payload, checks. Assumes nothing.
use Prim.Native.Nat.{ℕ}
use mathlib.Core.Path.{ap, ◌∙◌}
use mathlib.Core.List.{◌++◌}
use native.Mathlib.Omega.{arith}
use lib.ListN.{take, drop}
use Rattle.paper.specs.Block.{checks_start, start_of}
use Rattle.block.specs.Origins.{origin_of}
use Rattle.block.proofs.Copies.{made_in}
use Rattle.block.proofs.made.Goals as goal

pub returns : goal.returns
returns c =
    let a = c.args in
    let e = c.payload_start-start.ensures ∙ ap start_of (c.from.ensures ∙ c.edition.ensures) in
    let f = c.with_origin-front.result in
    made_in (origin_of a.h.origin) a.h.k a.h.levels a.h.n a.label.now a.number a.count a.payload.now _ _ f _ _ (omega arith) (omega arith)
    c.with_header.ensures
    c.with_origin-front.ensures
    (c.with_payload.ensures ∙ ap (λ (s : ℕ). take s f ++ (a.payload.now ++ drop checks_start f)) e)
    c.with_checks.ensures
