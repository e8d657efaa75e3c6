-- `transform::show` meets its contract.
use mathlib.Core.Path.{ap, ◌∙◌}
use lib.ListN.{length}
use Rattle.paper.specs.Square.{pictured}
use Rattle.square_laws.specs.Numbers.{length_greys}
use Rattle.transform.proofs.Fits.{shown_each, raised_greys}
use Rattle.transform.proofs.show.Goals as goal

pub back-requires : goal.back-requires
back-requires c = record { levels_le_size = c.requires.levels_le_size; xs_len = c.requires.room_len; fitting = c.requires.fitting }

pub raise-requires : goal.raise-requires
raise-requires c = rw c.back.ensures (shown_each c.args.levels c.args.size c.args.room.now c.requires.levels_le_size c.requires.room_len c.requires.fitting)

pub set_picture-requires : goal.set_picture-requires
set_picture-requires c = record { greys_len = ap length (raised_greys _ _ _ _ _ c.requires.room_len c.back.ensures c.raise.ensures) ∙ length_greys c.args.size c.args.levels c.args.room.now; picture_len = c.requires.picture_len }

pub returns : goal.returns
returns c =
    let greys = raised_greys _ _ _ _ _ c.requires.room_len c.back.ensures c.raise.ensures in
    record { picture_after = c.set_picture.ensures ∙ ap (pictured c.args.size) greys; room_after = greys }
