-- `judge_display`: the inverse's rows first, then the two of its own.
use mathlib.Core.Path.{sym, ◌∙◌}
use mathlib.Core.Bool.{true, false}
use Rattle.std.proofs.lemmas.Result.{err_from_is_err_and}
use borrow.Author.Tests.{lt-ltb, le-ltb}
use Rattle.display.proofs.Refusals.{picture_judged, planes_judged, place_judged}
use Rattle.display.proofs.judge_display.Goals as goal

pub returns-in_err-judge_inverse : goal.returns-in_err-judge_inverse
returns-in_err-judge_inverse c =
    let p = err_from_is_err_and c.from_residual.result c.from_residual.ensures.1 in
    rw (p.1, p.2) (picture_judged _ _ _ _ _ _ _ _ c.in_err-judge_inverse.ensures)

pub returns-then-not-planes_in : goal.returns-then-not-planes_in
returns-then-not-planes_in c = planes_judged _ _ _ _ _ _ _ c.in_ok-judge_inverse.ensures (sym c.planes_in.ensures ∙ c.if-not-planes_in.true)

pub returns-then-place-numbers : goal.returns-then-place-numbers
returns-then-place-numbers c = place_judged _ _ _ _ _ _ _ c.in_ok-judge_inverse.ensures (sym c.planes_in.ensures ∙ c.if-not-planes_in.false) false (le-ltb _ _ c.if-place-numbers.true)

pub returns : goal.returns
returns c = place_judged _ _ _ _ _ _ _ c.in_ok-judge_inverse.ensures (sym c.planes_in.ensures ∙ c.if-not-planes_in.false) true (lt-ltb _ _ c.if-place-numbers.false)
