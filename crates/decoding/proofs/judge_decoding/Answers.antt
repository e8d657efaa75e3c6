-- `judge_decoding`: the sizes first, then row by row.
use mathlib.Core.Path.{◌∙◌, sym}
use mathlib.Core.Bool.{true, false}
use Rattle.std.proofs.lemmas.Result.{err_from_is_err_and}
use Rattle.sizes.proofs.Ranges.{size_high}
use Rattle.sizes.proofs.Refusals.{size_accepted}
use Rattle.decoding.proofs.Judging.{sizes_refused, places_refused, planes_refused, bits_judged}
use Rattle.decoding.proofs.judge_decoding.Goals as goal

pub returns-in_err-judge : goal.returns-in_err-judge
returns-in_err-judge c =
    let p = err_from_is_err_and c.from_residual.result c.from_residual.ensures.1 in
    rw (p.1, p.2) (sizes_refused c.args.k c.args.levels c.args.n c.args.numbers.now c.args.bytes.now c.args.b _ c.in_err-judge.ensures)

pub new-requires : goal.new-requires
new-requires c = size_high _ (size_accepted _ _ 0 (sym c.in_ok-judge.ensures))

pub returns-then-numbers-area : goal.returns-then-numbers-area
returns-then-numbers-area c = places_refused c.args.k c.args.levels c.args.n c.args.numbers.now c.args.bytes.now c.args.b c.in_ok-judge.ensures (λ e. c.if-numbers-area.true (e ∙ sym (rw c.new.ensures at c.area.ensures)))

pub returns-then-not-planes_in : goal.returns-then-not-planes_in
returns-then-not-planes_in c = planes_refused c.args.k c.args.levels c.args.n c.args.numbers.now c.args.bytes.now c.args.b c.in_ok-judge.ensures (c.if-numbers-area.false ∙ (rw c.new.ensures at c.area.ensures)) (sym c.planes_in.ensures ∙ c.if-not-planes_in.true)

pub returns-then-not-lends : goal.returns-then-not-lends
returns-then-not-lends c = bits_judged c.args.k c.args.levels c.args.n c.args.numbers.now c.args.bytes.now c.args.b c.in_ok-judge.ensures (c.if-numbers-area.false ∙ (rw c.new.ensures at c.area.ensures)) (sym c.planes_in.ensures ∙ c.if-not-planes_in.false) false (sym c.lends.ensures ∙ c.if-not-lends.true)

pub returns : goal.returns
returns c = bits_judged c.args.k c.args.levels c.args.n c.args.numbers.now c.args.bytes.now c.args.b c.in_ok-judge.ensures (c.if-numbers-area.false ∙ (rw c.new.ensures at c.area.ensures)) (sym c.planes_in.ensures ∙ c.if-not-planes_in.false) true (sym c.lends.ensures ∙ c.if-not-lends.false)
