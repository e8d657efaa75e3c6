use Rattle.sizes.proofs.Numbers.{needed_is}
use Rattle.sizes.proofs.bits_needed.Goals as goal

pub returns : goal.returns
returns c = needed_is c.args.m c.requires
