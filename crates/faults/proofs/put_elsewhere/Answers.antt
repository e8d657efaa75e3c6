use Rattle.faults.proofs.Laws.{elsewhere_is}
use mathlib.Core.Path.{◌∙◌}
use Rattle.faults.proofs.put_elsewhere.Goals as goal

pub returns-clause-line_value : goal.returns-clause-line_value
returns-clause-line_value c =
    elsewhere_is _ _ _ _ _ _ _ _ _ (c.from-arm.ensures ∙ c.arm_of.ensures) (c.from-arm_wanted.ensures ∙ c.arm_of-2.ensures) (c.from-mount.ensures ∙ c.mount_of.ensures) (c.from-mount_wanted.ensures ∙ c.mount_of-2.ensures) c.put_another.ensures.line_value c.put_another-2.ensures.line_value
