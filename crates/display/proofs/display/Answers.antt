-- `display` meets its contract.
use mathlib.Core.Path.{sym, ap, ◌∙◌}
use lib.ListN.{length}
use Rattle.paper.specs.Square.{greys_of, pictured}
use Rattle.walk_laws.specs.Softer.{length_softened}
use Rattle.display.proofs.Refusals.{accepted, planes_accepted, display_done}
use Rattle.display.proofs.Softened.{softened_fit}
use Rattle.display.proofs.display.Goals as goal

pub soften-requires : goal.soften-requires
soften-requires c =
    let e = c.in_ok-judge_display.ensures in
    let a = accepted _ _ _ _ _ _ _ e in
    record { unfinished_le_most_planes = planes_accepted _ _ _ _ _ _ _ e; numbers_value = a.1.1.1.1.0; out_len = a.1.1.1.1.1.1 ∙ sym a.1.1.1.0 }

pub new-requires : goal.new-requires
new-requires c = (accepted _ _ _ _ _ _ _ c.in_ok-judge_display.ensures).0

pub show-requires : goal.show-requires
show-requires c =
    let e = c.in_ok-judge_display.ensures in
    let s = c.args in
    let a = accepted _ _ _ _ _ _ _ e in
    let f = c.soften.ensures in
    rw c.new.ensures (record { levels_le_size = a.1.1.0; picture_len = a.1.1.1.1.1.0; room_len = ap length f ∙ length_softened s.unfinished s.place s.numbers.now ∙ a.1.1.1.0; fitting = rw f (softened_fit s.unfinished s.place s.levels s.numbers.now (planes_accepted _ _ _ _ _ _ _ e) a.1.0 a.1.1.1.1.0) })

pub returns : goal.returns
returns c =
    let s = c.args in
    let e = c.soften.ensures in
    display_done _ _ _ _ _ _ _ c.in_ok-judge_display.ensures _ _
    ((rw c.new.ensures at c.show.ensures.picture_after) ∙ ap (λ xs. pictured s.k (greys_of s.k s.levels xs)) e) ((rw c.new.ensures at c.show.ensures.room_after) ∙ ap (greys_of s.k s.levels) e)
