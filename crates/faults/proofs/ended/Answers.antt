use mathlib.Core.Path.{subst}
use Rattle.words.proofs.Laws.{Inside, puts_inside}
use Rattle.faults.proofs.Laws.{told_inside}
use Rattle.faults.proofs.ended.Goals as goal

pub returns-then-number-ne0-clause-upper_bound : goal.returns-then-number-ne0-clause-upper_bound
returns-then-number-ne0-clause-upper_bound c = λ h.
    let figure = subst Inside c.put_figure.ensures.line_value (puts_inside _ _ (puts_inside _ _ h)) in
    let said = subst Inside c.put.ensures.line_value (puts_inside _ _ figure) in
    subst Inside c.put_told.ensures.line_value (told_inside _ said _ _ _ _)
