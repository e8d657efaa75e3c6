-- The three sets are parts of the rest, each read where the one before left off; behind them is the next rest.
use Prim.Native.Nat.{suc}
use native.Mathlib.Omega.{arith}
use borrow.Author.Rules.{rules}
use Rattle.list_laws.specs.Parts.{cut1_long, part2_long, part3_long, part4_long}
use Rattle.set_decoder.proofs.Run.{decoder, done, inside}
use Rattle.set_decoder.proofs.Set.{room1, room2, room3, room4, set_reached}
use Rattle.shapes.proofs.Cuts.{behind_shorter, part_set, rest_behind}
use Rattle.shapes.proofs.Walks.{rest_none, rest_closed}
use Rattle.plane_decoder.proofs.Rest.{none_left, more_left, onward_read}
use Rattle.plane_decoder.proofs.+read_rest.Goals as goal

pub returns-then-is_empty : goal.returns-then-is_empty
returns-then-is_empty t c = rest_none decoder _ _ (done c.args.tape.now c.args.numbers.now) (none_left _ c.is_empty.ensures c.if-is_empty.true)

pub returns-then-not-read_test : goal.returns-then-not-read_test
returns-then-not-read_test t c = rest_closed decoder _ _ c.read_test.ensures (more_left c.requires.rest c.is_empty.ensures c.if-is_empty.false) c.if-not-read_test.true

pub overflow_add-q2 : goal.overflow_add-q2
overflow_add-q2 t c =
    let O = more_left c.requires.rest c.is_empty.ensures c.if-is_empty.false in
    let n = O.cut.three in
    let s = O.cut.some in
    record { fits = omega arith }

pub overflow_add-q3 : goal.overflow_add-q3
overflow_add-q3 t c =
    let O = more_left c.requires.rest c.is_empty.ensures c.if-is_empty.false in
    let n = O.cut.three in
    let s = O.cut.some in
    record { fits = omega arith }

pub overflow_add-q4 : goal.overflow_add-q4
overflow_add-q4 t c =
    let O = more_left c.requires.rest c.is_empty.ensures c.if-is_empty.false in
    let n = O.cut.three in
    let s = O.cut.some in
    record { fits = omega arith }

pub slice_bounds-read_set-end : goal.slice_bounds-read_set-end
slice_bounds-read_set-end t c =
    let O = more_left c.requires.rest c.is_empty.ensures c.if-is_empty.false in
    let n = O.cut.three in
    search rules

pub read_set-requires : goal.read_set-requires
read_set-requires t c =
    let p = c.args.plane in
    let xs = c.args.numbers.now in
    let q = c.args.q in
    let O = more_left c.requires.rest c.is_empty.ensures c.if-is_empty.false in
    let n = O.cut.three in
    let r = inside p xs c.read_test.ensures c.if-not-read_test.false in
    let m = cut1_long q xs n in
    record { room = room1 (suc p) q xs n c.requires.room; fits = omega arith; set = part_set O.cut m }

pub slice_bounds-read_set-end-2 : goal.slice_bounds-read_set-end-2
slice_bounds-read_set-end-2 t c =
    let O = more_left c.requires.rest c.is_empty.ensures c.if-is_empty.false in
    let n = O.cut.three in
    search rules

pub read_set-requires-2 : goal.read_set-requires-2
read_set-requires-2 t c =
    let p = c.args.plane in
    let xs = c.args.numbers.now in
    let q = c.args.q in
    let O = more_left c.requires.rest c.is_empty.ensures c.if-is_empty.false in
    let n = O.cut.three in
    let r = inside p xs c.read_test.ensures c.if-not-read_test.false in
    let z1 = c.read_set.new.numbers in
    let k1 = c.read_set.auto.numbers in
    let r1 = set_reached p O.cut (cut1_long q xs n) c.read_set.ensures in
    let m = part2_long q xs n z1 k1 in
    record { room = room2 (suc p) q xs n c.requires.room z1 k1; fits = omega arith; set = part_set O.cut m }

pub slice_bounds-read_set-end-3 : goal.slice_bounds-read_set-end-3
slice_bounds-read_set-end-3 t c =
    let O = more_left c.requires.rest c.is_empty.ensures c.if-is_empty.false in
    let n = O.cut.three in
    search rules

pub read_set-requires-3 : goal.read_set-requires-3
read_set-requires-3 t c =
    let p = c.args.plane in
    let xs = c.args.numbers.now in
    let q = c.args.q in
    let O = more_left c.requires.rest c.is_empty.ensures c.if-is_empty.false in
    let n = O.cut.three in
    let r = inside p xs c.read_test.ensures c.if-not-read_test.false in
    let z1 = c.read_set.new.numbers in
    let k1 = c.read_set.auto.numbers in
    let r1 = set_reached p O.cut (cut1_long q xs n) c.read_set.ensures in
    let z2 = c.read_set-2.new.numbers in
    let k2 = c.read_set-2.auto.numbers in
    let r2 = set_reached p O.cut (part2_long q xs n z1 k1) c.read_set-2.ensures in
    let m = part3_long q xs n z1 k1 z2 k2 in
    record { room = room3 (suc p) q xs n c.requires.room z1 k1 z2 k2; fits = omega arith; set = part_set O.cut m }

pub read_rest-requires : goal.read_rest-requires
read_rest-requires t c =
    let p = c.args.plane in
    let xs = c.args.numbers.now in
    let q = c.args.q in
    let O = more_left c.requires.rest c.is_empty.ensures c.if-is_empty.false in
    let n = O.cut.three in
    let r = inside p xs c.read_test.ensures c.if-not-read_test.false in
    let z1 = c.read_set.new.numbers in
    let k1 = c.read_set.auto.numbers in
    let r1 = set_reached p O.cut (cut1_long q xs n) c.read_set.ensures in
    let z2 = c.read_set-2.new.numbers in
    let k2 = c.read_set-2.auto.numbers in
    let r2 = set_reached p O.cut (part2_long q xs n z1 k1) c.read_set-2.ensures in
    let z3 = c.read_set-3.new.numbers in
    let k3 = c.read_set-3.auto.numbers in
    let r3 = set_reached p O.cut (part3_long q xs n z1 k1 z2 k2) c.read_set-3.ensures in
    let m = part4_long q xs n z1 k1 z2 k2 z3 k3 in
    (behind_shorter O.cut _ m c.decreases, (room4 (suc p) q xs n c.requires.room z1 k1 z2 k2 z3 k3, (omega arith, rest_behind O m)))

pub returns : goal.returns
returns t c =
    let xs = c.args.numbers.now in
    let O = more_left c.requires.rest c.is_empty.ensures c.if-is_empty.false in
    onward_read _ xs c.read_test.ensures O c.if-not-read_test.false c.read_set.new.numbers c.read_set.auto.numbers c.read_set-2.new.numbers c.read_set-2.auto.numbers c.read_set-3.new.numbers c.read_set-3.auto.numbers c.read_rest.new.numbers
    c.read_set.ensures
    c.read_set-2.ensures
    c.read_set-3.ensures
    c.read_rest.ensures
