-- `with_origin` puts arm and mount behind the header, where the edition names them. Assumes nothing.
use native.Mathlib.Omega.{arith}
use mathlib.Core.Path.{◌∙◌}
use Rattle.block.specs.Origins.{origin_of}
use Rattle.block.proofs.Copies.{no_origin_in, mount_in}
use Rattle.block.proofs.with_origin.Goals as goal

pub returns-then-origin-ne1 : goal.returns-then-origin-ne1
returns-then-origin-ne1 c =
    mount_in (origin_of c.args.origin) c.args.from _ c.if-origin-ne1.true (omega arith) (c.copy_from_slice.ensures.after ∙ c.three_bytes.ensures)

pub returns-else-origin-ne1 : goal.returns-else-origin-ne1
returns-else-origin-ne1 c = no_origin_in (origin_of c.args.origin) c.args.from c.if-origin-ne1.false
