-- `settle` meets its contract.
use mathlib.Core.Path.{refl}
use Rattle.decoding.proofs.Settling.{Started, begun, zeros_room, zeros_fit, square, decoded}
use Rattle.decoding.proofs.settle.Goals as goal

pub read_planes-unfinished-requires : goal.read_planes-unfinished-requires
read_planes-unfinished-requires c =
    let a = c.args in
    let r = c.requires in
    let A : Started a.k a.levels a.n a.numbers.now a.bytes.now a.b _ _ _ = record { less = r.levels_lt_k; small = r.k_le_most_size; planes = r.n_le_most_planes; places = r.numbers_len; lent = r.b_bound; zeros = c.clear.ensures; set = (rw c.new.ensures at c.first_set-first.ensures); cap = c.min.ensures } in
    let T = begun c.new-tape.result _ c.new-tape.ensures.source refl c.new-tape.ensures.place in
    record { room = zeros_room A; n_le_most_planes = r.n_le_most_planes; fits = zeros_fit A T; square = square A }

pub returns : goal.returns
returns c =
    let a = c.args in
    let r = c.requires in
    let A : Started a.k a.levels a.n a.numbers.now a.bytes.now a.b _ _ _ = record { less = r.levels_lt_k; small = r.k_le_most_size; planes = r.n_le_most_planes; places = r.numbers_len; lent = r.b_bound; zeros = c.clear.ensures; set = (rw c.new.ensures at c.first_set-first.ensures); cap = c.min.ensures } in
    let T = begun c.new-tape.result _ c.new-tape.ensures.source refl c.new-tape.ensures.place in
    decoded A _ _ _ T (c.read_planes-unfinished.ensures (square A)) c.read.ensures
