-- The origin that a heading says, as it says it.
use Rattle.paper.specs.Block.{Origin as Said}
use Rattle.block.specs.declared.Origin.{Origin}

abbrev pub origin_of : Origin → Said
origin_of o = record { edition = o.edition; arm = o.arm; mount = o.mount }
