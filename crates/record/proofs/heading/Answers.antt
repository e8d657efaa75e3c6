-- `heading` says what was asked for; in edition 1 arm and mount stand for nothing.
use mathlib.Core.Path.{◌≡◌, refl, sym, ap, ◌∙◌}
use native.Mathlib.Omega.{arith}
use Rattle.paper.specs.Block.{Origin, given_back}
use Rattle.block.specs.Origins.{origin_of}
use Rattle.block.proofs.Editions.{arm_few, given_first, given_later}
use Rattle.record.proofs.heading.Goals.{then-edition-eq1, else-edition-eq1}
use Rattle.record.proofs.heading.Goals as goal

pub overflow_cast-origin-else-edition-eq1 : goal.overflow_cast-origin-else-edition-eq1
overflow_cast-origin-else-edition-eq1 c = record { fits = omega (arith, arm_few (record { edition = c.args.edition; arm = c.args.arm; mount = c.args.mount }) c.if-edition-eq1.false c.requires.mount_value) }

pub returns : goal.returns
returns c =
    let asked : Origin = record { edition = c.args.edition; arm = c.args.arm; mount = c.args.mount } in
    let says : origin_of c.if-edition-eq1.origin ≡ given_back asked = elim c.if-edition-eq1.branch [
      | then-edition-eq1 w ↦ ap origin_of w.origin-is ∙ sym (given_first asked w.if-edition-eq1.true)
      | else-edition-eq1 w ↦ ap origin_of w.origin-is ∙ sym (given_later asked w.if-edition-eq1.false)
    ] in
    (refl, refl, refl, says)
