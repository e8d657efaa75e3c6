-- `with_checks` puts the two checks behind bytes 0 to 507. Assumes nothing.
use native.Mathlib.Omega.{arith}
use mathlib.Core.Path.{◌∙◌}
use borrow.Rule.Slice.PartMut.{same_len_mid}
use Rattle.block.proofs.Copies.{checks_in}
use Rattle.block.proofs.with_checks.Goals as goal

pub slice_bounds-block-end-2 : goal.slice_bounds-block-end-2
slice_bounds-block-end-2 c = omega (arith, same_len_mid 508 2 c.args.from c.copy_from_slice.new.self c.copy_from_slice.auto.self)

pub returns : goal.returns
returns c =
    checks_in c.args.from _ _ c.check_a-a.result c.check_b-b.result (omega arith)
    (c.copy_from_slice.ensures.after ∙ c.two_bytes.ensures) (c.copy_from_slice-2.ensures.after ∙ c.two_bytes-2.ensures)
    c.check_a-a.ensures c.check_b-b.ensures
