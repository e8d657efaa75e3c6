-- `copy`: after i turns the first i bytes are copied.
use mathlib.Core.Path.{◌∙◌}
use native.Mathlib.Omega.{arith}
use lib.Seq.{ext_get_or}
use Rattle.reader.proofs.copy.Goals as goal

pub returns : goal.returns
returns c = ext_get_or 0 _ _ (c.loop-i.auto.to ∙ c.requires) (λ i h. c.loop-i.invariant.filled i (omega arith))
