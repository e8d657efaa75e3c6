-- `transform::copy` meets its contract. After i turns the first i numbers are copied.
use mathlib.Core.Path.{◌∙◌}
use native.Mathlib.Omega.{arith}
use lib.Seq.{ext_get_or}
use lib.IntN.{pos}
use Rattle.transform.proofs.copy.Goals as goal

pub returns : goal.returns
returns c = ext_get_or (pos 0) _ _ (c.loop-i.auto.room ∙ c.requires) (λ i h. c.loop-i.invariant.filled i (omega arith))
