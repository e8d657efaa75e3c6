use mathlib.Core.Path.{◌∙◌}
use Rattle.desk.proofs.Jobs.{rebuilt_held, no_numbers, no_picture, no_working, rebuilt_front}
use Rattle.desk.proofs.rebuild.Goals.{then-numbers-area-via-then-numbers-area, then-numbers-area-via-else-numbers-area+then-picture-shown, then-numbers-area-via-else-numbers-area+else-picture-shown+then-room-shown}
use Rattle.desk.proofs.rebuild.Goals as goal

pub returns-then-numbers-area-clause-outcome : goal.returns-then-numbers-area-clause-outcome
returns-then-numbers-area-clause-outcome c = rw c.into.ensures (elim c.then-numbers-area.branch [
  | then-numbers-area-via-then-numbers-area w ↦ no_numbers _ _ _ _ _ _ _ _ _ _ _ c.area-area.ensures c.shown_area-shown.ensures w.if-numbers-area.true
  | then-numbers-area-via-else-numbers-area+then-picture-shown w ↦ no_picture _ _ _ _ _ _ _ _ _ _ _ c.area-area.ensures c.shown_area-shown.ensures w.if-numbers-area.false w.if-picture-shown.true
  | then-numbers-area-via-else-numbers-area+else-picture-shown+then-room-shown w ↦ no_working _ _ _ _ _ _ _ _ _ _ _ c.area-area.ensures c.shown_area-shown.ensures w.if-numbers-area.false w.if-picture-shown.false w.if-room-shown.true
])

pub returns-clause-outcome : goal.returns-clause-outcome
returns-clause-outcome c =
    rebuilt_front _ _ _ _ _ _ _ _ _ _ _ c.area-area.ensures c.shown_area-shown.ensures _ c.if-numbers-area.false c.if-picture-shown.false c.if-room-shown.false c.rebuilt.ensures.outcome
    ∙ rebuilt_held c.rebuilt.result _ _ _ _ _ _
