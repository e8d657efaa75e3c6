-- `transform::judge_forward` meets its contract.
use mathlib.Core.Path.{◌∙◌}
use lib.ListN.{length}
use Rattle.paper.specs.Jobs.{forward_refusal}
use Rattle.std.proofs.lemmas.Result.{err_from_is_err_and}
use Rattle.refusals.proofs.Numbers.{numbered}
use Rattle.sizes.proofs.Ranges.{size_high}
use Rattle.transform.proofs.Refusals.{sizes_refused, sizes_right, size_right, lengths_right, lengths_wrong}
use Rattle.transform.proofs.judge_forward.Goals as goal

pub returns-in_err-judge : goal.returns-in_err-judge
unfolding forward_refusal
returns-in_err-judge c = let p = err_from_is_err_and c.from_residual.result c.from_residual.ensures.1 in rw (p.1, p.2) (sizes_refused c.args.k c.args.levels _ _ c.in_err-judge.ensures (numbered _))

pub new-requires : goal.new-requires
new-requires c = size_high _ (size_right c.args.k c.args.levels c.in_ok-judge.ensures)

pub returns-then-picture-places : goal.returns-then-picture-places
unfolding forward_refusal
returns-then-picture-places c =
    let g = c.args in
    rw (sizes_right g.k g.levels _ c.in_ok-judge.ensures, lengths_wrong g.k (length g.picture.now) (length g.numbers.now) _ (rw c.new.ensures at c.area-places.ensures) c.then-picture-places.either)

pub returns : goal.returns
unfolding forward_refusal
returns c =
    let g = c.args in
    rw (sizes_right g.k g.levels _ c.in_ok-judge.ensures, lengths_right g.k (length g.picture.now) (length g.numbers.now) (c.if-picture-places.false ∙ (rw c.new.ensures at c.area-places.ensures)) (c.if-numbers-places.false ∙ (rw c.new.ensures at c.area-places.ensures)))
