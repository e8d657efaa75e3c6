-- `half_of` meets its contract.
use Rattle.display.proofs.Softened.{half_is}
use Rattle.display.proofs.half_of.Goals as goal

pub returns : goal.returns
returns c = half_is _ c.requires
