use mathlib.Core.Path.{◌∙◌}
use native.Mathlib.Omega.{arith}
use Rattle.desk.proofs.Jobs.{encoded_held, input_short, numbers_short, encoded_front}
use Rattle.desk.proofs.encode.Goals.{then-input-start-via-then-input-start, then-input-start-via-else-input-start+then-input-start-2, then-input-start-via-else-input-start+else-input-start-2+then-numbers-area}
use Rattle.desk.proofs.encode.Goals as goal

pub returns-then-input-start : goal.returns-then-input-start
returns-then-input-start c = elim c.then-input-start.branch [
  | then-input-start-via-then-input-start w ↦ input_short _ _ _ _ _ _ _ _ _ _ _ c.area-area.ensures (omega arith)
  | then-input-start-via-else-input-start+then-input-start-2 w ↦ input_short _ _ _ _ _ _ _ _ _ _ _ c.area-area.ensures (omega arith)
  | then-input-start-via-else-input-start+else-input-start-2+then-numbers-area w ↦ numbers_short _ _ _ _ _ _ _ _ _ _ _ c.area-area.ensures (omega arith) w.if-numbers-area.true
]

pub returns : goal.returns
returns c =
    encoded_front _ _ _ _ _ _ _ _ _ _ _ c.area-area.ensures _ (omega arith) c.if-numbers-area.false c.encoded.ensures
    ∙ encoded_held c.encoded.result _ _ _ _
