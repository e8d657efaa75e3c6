-- `transform::rebuild` meets its contract.
use Rattle.paper.specs.Square.{greys_of, pictured}
use Rattle.transform.proofs.Fits.{numbers_fit}
use lib.ListN.{length}
use mathlib.Core.Path.{sym, ap, ◌∙◌}
use Rattle.transform.proofs.rebuild.Goals as goal

pub copy-requires : goal.copy-requires
copy-requires c = c.requires.room_len ∙ sym c.requires.numbers_len

pub show-requires : goal.show-requires
show-requires c =
    let e = c.copy.ensures in
    record { levels_le_size = c.requires.levels_le_size; picture_len = c.requires.picture_len; room_len = ap length e ∙ c.requires.numbers_len; fitting = rw e (numbers_fit c.args.levels c.args.numbers.now c.requires.levels_le_most_levels c.requires.numbers_value) }

pub returns : goal.returns
returns c =
    let a = c.args in
    record { picture_after = c.show.ensures.picture_after ∙ ap (λ xs. pictured a.size (greys_of a.size a.levels xs)) c.copy.ensures; room_after = c.show.ensures.room_after ∙ ap (greys_of a.size a.levels) c.copy.ensures }
