-- `judge_coding`: the sizes first, then row by row.
use mathlib.Core.Path.{◌∙◌, sym}
use mathlib.Core.Bool.{true, false}
use Rattle.std.proofs.lemmas.Result.{err_from_is_err_and}
use Rattle.sizes.proofs.Ranges.{size_high}
use Rattle.sizes.proofs.Refusals.{size_accepted}
use Rattle.coding.proofs.Job.{sizes_refused, length_refused, range_judged}
use Rattle.coding.proofs.judge_coding.Goals as goal

pub returns-in_err-judge : goal.returns-in_err-judge
returns-in_err-judge c =
    let p = err_from_is_err_and c.from_residual.result c.from_residual.ensures.1 in
    rw (p.1, p.2) (sizes_refused c.args.k c.args.levels c.args.numbers.now _ c.in_err-judge.ensures)

pub new-requires : goal.new-requires
new-requires c = size_high _ (size_accepted _ _ 0 (sym c.in_ok-judge.ensures))

pub returns-then-numbers-area : goal.returns-then-numbers-area
returns-then-numbers-area c = length_refused c.args.k c.args.levels c.args.numbers.now c.in_ok-judge.ensures (λ e. c.if-numbers-area.true (e ∙ sym (rw c.new.ensures at c.area.ensures)))

pub returns-then-not-numbers_in : goal.returns-then-not-numbers_in
returns-then-not-numbers_in c = range_judged c.args.k c.args.levels c.args.numbers.now c.in_ok-judge.ensures (c.if-numbers-area.false ∙ (rw c.new.ensures at c.area.ensures)) false (sym c.numbers_in.ensures ∙ c.if-not-numbers_in.true)

pub returns : goal.returns
returns c = range_judged c.args.k c.args.levels c.args.numbers.now c.in_ok-judge.ensures (c.if-numbers-area.false ∙ (rw c.new.ensures at c.area.ensures)) true (sym c.numbers_in.ensures ∙ c.if-not-numbers_in.false)
