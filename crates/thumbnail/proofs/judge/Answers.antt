-- `thumbnail::judge` meets its contract.
use mathlib.Core.Bool.{true, false}
use mathlib.Core.Path.{sym, ◌∙◌}
use lib.ListN.{length}
use lib.Seq.{length-take-le}
use native.Mathlib.Omega.{arith}
use Rattle.std.proofs.lemmas.Result.{err_from_is_err_and}
use Rattle.refusals.proofs.Numbers.{numbered}
use Rattle.sizes.proofs.Ranges.{size_high}
use Rattle.transform.proofs.Refusals.{size_right}
use Rattle.thumbnail.proofs.Refusals.{sizes_judged, halvings_refused, halvings_below, lengths_refused, room_within, numbers_judged}
use Rattle.thumbnail.proofs.judge.Goals as goal

pub returns-in_err-judge : goal.returns-in_err-judge
returns-in_err-judge c = let p = err_from_is_err_and c.from_residual.result c.from_residual.ensures.1 in rw (p.1, p.2) (sizes_judged _ _ _ _ _ _ _ c.in_err-judge.ensures (numbered _))

pub returns-then-not-halvings_in : goal.returns-then-not-halvings_in
returns-then-not-halvings_in c = halvings_refused _ _ _ _ _ _ c.in_ok-judge.ensures (sym c.halvings_in.ensures ∙ c.if-not-halvings_in.true)

pub new-size-requires : goal.new-size-requires
new-size-requires c = size_high _ (size_right _ _ c.in_ok-judge.ensures)

pub overflow_sub-k : goal.overflow_sub-k
overflow_sub-k c = omega (arith, halvings_below _ _ _ c.in_ok-judge.ensures (sym c.halvings_in.ensures ∙ c.if-not-halvings_in.false))

pub new-shown-requires : goal.new-shown-requires
new-shown-requires c = omega (arith, size_high _ (size_right _ _ c.in_ok-judge.ensures))

pub returns-then-not-squares : goal.returns-then-not-squares
returns-then-not-squares c = lengths_refused _ _ _ _ _ _ c.in_ok-judge.ensures (sym c.halvings_in.ensures ∙ c.if-not-halvings_in.false) (sym (rw (c.new-size.ensures, c.new-shown.ensures) at c.squares.ensures) ∙ c.if-not-squares.true)

pub slice_bounds-numbers_in-end : goal.slice_bounds-numbers_in-end
slice_bounds-numbers_in-end c =
    let a = c.args in
    let h = room_within a.k a.halvings (length a.numbers.now) (length a.picture.now) (length a.room.now) (sym (rw (c.new-size.ensures, c.new-shown.ensures) at c.squares.ensures) ∙ c.if-not-squares.false) in
    sym (length-take-le _ _ (omega arith))

pub returns-then-not-numbers_in : goal.returns-then-not-numbers_in
returns-then-not-numbers_in c = numbers_judged _ _ _ _ _ _ c.in_ok-judge.ensures (sym c.halvings_in.ensures ∙ c.if-not-halvings_in.false) (sym (rw (c.new-size.ensures, c.new-shown.ensures) at c.squares.ensures) ∙ c.if-not-squares.false) false (sym c.numbers_in.ensures ∙ c.if-not-numbers_in.true)

pub returns : goal.returns
returns c = numbers_judged _ _ _ _ _ _ c.in_ok-judge.ensures (sym c.halvings_in.ensures ∙ c.if-not-halvings_in.false) (sym (rw (c.new-size.ensures, c.new-shown.ensures) at c.squares.ensures) ∙ c.if-not-squares.false) true (sym c.numbers_in.ensures ∙ c.if-not-numbers_in.false)
