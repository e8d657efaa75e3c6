use Rattle.sizes.proofs.Ranges.{planes_is}
use Rattle.sizes.proofs.planes_in.Goals as goal

pub returns : goal.returns
returns c = planes_is _
