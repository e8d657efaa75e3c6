-- `transform::judge_inverse` meets its contract.
use mathlib.Core.Path.{sym, ◌∙◌}
use Rattle.paper.specs.Jobs.{inverse_refusal}
use Rattle.std.proofs.lemmas.Result.{err_from_is_err_and}
use Rattle.refusals.proofs.Numbers.{numbered}
use Rattle.sizes.proofs.Ranges.{size_high}
use Rattle.transform.proofs.Refusals.{sizes_refused, sizes_right, size_right}
use Rattle.transform.proofs.judge_inverse.Goals as goal

pub returns-in_err-judge : goal.returns-in_err-judge
unfolding inverse_refusal
returns-in_err-judge c = let p = err_from_is_err_and c.from_residual.result c.from_residual.ensures.1 in rw (p.1, p.2) (sizes_refused c.args.k c.args.levels _ _ c.in_err-judge.ensures (numbered _))

pub new-size-requires : goal.new-size-requires
new-size-requires c = size_high _ (size_right _ _ c.in_ok-judge.ensures)

pub returns-then-not-squares : goal.returns-then-not-squares
unfolding inverse_refusal
returns-then-not-squares c = rw (sizes_right _ _ _ c.in_ok-judge.ensures, sym (rw c.new-size.ensures at c.squares.ensures) ∙ c.if-not-squares.true)

pub returns-then-not-numbers_in : goal.returns-then-not-numbers_in
unfolding inverse_refusal
returns-then-not-numbers_in c = rw (sizes_right _ _ _ c.in_ok-judge.ensures, sym (rw c.new-size.ensures at c.squares.ensures) ∙ c.if-not-squares.false, sym c.numbers_in.ensures ∙ c.if-not-numbers_in.true)

pub returns : goal.returns
unfolding inverse_refusal
returns c = rw (sizes_right _ _ _ c.in_ok-judge.ensures, sym (rw c.new-size.ensures at c.squares.ensures) ∙ c.if-not-squares.false, sym c.numbers_in.ensures ∙ c.if-not-numbers_in.false)
