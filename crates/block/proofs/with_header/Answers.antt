-- `with_header` puts the header at the front: four single bytes, the label, and two numbers. Assumes nothing.
use Prim.Native.Nat.{ℕ}
use native.Mathlib.Omega.{arith}
use mathlib.Core.Path.{◌≡◌, ap, ◌∙◌}
use mathlib.Core.List.{List, ◌++◌}
use lib.ListN.{length, drop, set, length-set}
use borrow.Rule.Slice.PartMut.{put_mid, same_len_mid}
use Rattle.paper.specs.Block.{header, header_bytes}
use Rattle.block.proofs.Copies.{header_in}
use Rattle.block.proofs.with_header.Goals as goal

pub slice_bounds-block-end-3 : goal.slice_bounds-block-end-3
slice_bounds-block-end-3 c =
    let a = c.args in
    let singles : List ℕ = set (set (set (set a.from 0 c.edition.result) 1 a.h.k) 2 a.h.levels) 3 a.h.n in
    let with_label : List ℕ = put_mid 4 8 singles c.copy_from_slice.new.self in
    let as_long : length singles ≡ length a.from = simp length-set in
    omega (arith, as_long, same_len_mid 4 8 singles c.copy_from_slice.new.self c.copy_from_slice.auto.self, same_len_mid 12 2 with_label c.copy_from_slice-2.new.self c.copy_from_slice-2.auto.self)

pub returns : goal.returns
returns c =
    let a = c.args in
    header_in c.edition.result a.h.k a.h.levels a.h.n a.label.now a.number a.count a.from _ _ _ (omega arith) (omega arith)
    c.copy_from_slice.ensures.after (c.copy_from_slice-2.ensures.after ∙ c.two_bytes.ensures) (c.copy_from_slice-3.ensures.after ∙ c.two_bytes-2.ensures)
    ∙ ap (λ (e : ℕ). header e a.h.k a.h.levels a.h.n a.label.now a.number a.count ++ drop header_bytes a.from) c.edition.ensures
