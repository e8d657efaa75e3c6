-- Each quarter is a set again, shorter, and read where the one before left off.
use native.Mathlib.Omega.{arith}
use Prim.Native.Nat.{suc, ◌/◌}
use lib.ListN.{length}
use Rattle.list_laws.specs.Parts.{cut1_long, part2_long, part3_long, part4_long}
use Rattle.shapes.proofs.Cuts.{quarters, quarter_shorter, last_quarter, part_set}
use Rattle.shapes.proofs.Walks.{set_closed, set_four}
use Rattle.set_decoder.proofs.Run.{decoder, inside}
use Rattle.set_decoder.proofs.Set.{room1, room2, room3, room4, set_reached, quarters_read}
use Rattle.set_decoder.proofs.+read_set.Goals as goal

pub returns-then-not-read_test : goal.returns-then-not-read_test
returns-then-not-read_test t c = set_closed decoder _ _ c.read_test.ensures c.if-not-read_test.true

pub read_numbers-requires-clause-fits : goal.read_numbers-requires-clause-fits
read_numbers-requires-clause-fits t c = omega (arith, inside c.args.plane c.args.numbers.now c.read_test.ensures c.if-not-read_test.false)

pub returns-then-numbers-eq4 : goal.returns-then-numbers-eq4
returns-then-numbers-eq4 t c = set_four decoder _ _ c.read_test.ensures c.if-not-read_test.false c.if-numbers-eq4.true c.read_numbers.ensures

pub read_set-requires : goal.read_set-requires
read_set-requires t c =
    let p = c.args.plane in
    let xs = c.args.numbers.now in
    let q = length xs / 4 in
    let Q = quarters xs c.requires.set c.if-numbers-eq4.false in
    let n = Q.cut.three in
    let r = inside p xs c.read_test.ensures c.if-not-read_test.false in
    let m = cut1_long q xs n in
    (quarter_shorter Q m c.decreases, (room1 (suc p) q xs n c.requires.room, (omega arith, part_set Q.cut m)))

pub read_set-requires-2 : goal.read_set-requires-2
read_set-requires-2 t c =
    let p = c.args.plane in
    let xs = c.args.numbers.now in
    let q = length xs / 4 in
    let Q = quarters xs c.requires.set c.if-numbers-eq4.false in
    let n = Q.cut.three in
    let r = inside p xs c.read_test.ensures c.if-not-read_test.false in
    let z1 = c.read_set.new.numbers in
    let k1 = c.read_set.auto.numbers in
    let r1 = set_reached p Q.cut (cut1_long q xs n) c.read_set.ensures in
    let m = part2_long q xs n z1 k1 in
    (quarter_shorter Q m c.decreases, (room2 (suc p) q xs n c.requires.room z1 k1, (omega arith, part_set Q.cut m)))

pub read_set-requires-3 : goal.read_set-requires-3
read_set-requires-3 t c =
    let p = c.args.plane in
    let xs = c.args.numbers.now in
    let q = length xs / 4 in
    let Q = quarters xs c.requires.set c.if-numbers-eq4.false in
    let n = Q.cut.three in
    let r = inside p xs c.read_test.ensures c.if-not-read_test.false in
    let z1 = c.read_set.new.numbers in
    let k1 = c.read_set.auto.numbers in
    let r1 = set_reached p Q.cut (cut1_long q xs n) c.read_set.ensures in
    let z2 = c.read_set-2.new.numbers in
    let k2 = c.read_set-2.auto.numbers in
    let r2 = set_reached p Q.cut (part2_long q xs n z1 k1) c.read_set-2.ensures in
    let m = part3_long q xs n z1 k1 z2 k2 in
    (quarter_shorter Q m c.decreases, (room3 (suc p) q xs n c.requires.room z1 k1 z2 k2, (omega arith, part_set Q.cut m)))

pub read_set-requires-4 : goal.read_set-requires-4
read_set-requires-4 t c =
    let p = c.args.plane in
    let xs = c.args.numbers.now in
    let q = length xs / 4 in
    let Q = quarters xs c.requires.set c.if-numbers-eq4.false in
    let n = Q.cut.three in
    let r = inside p xs c.read_test.ensures c.if-not-read_test.false in
    let z1 = c.read_set.new.numbers in
    let k1 = c.read_set.auto.numbers in
    let r1 = set_reached p Q.cut (cut1_long q xs n) c.read_set.ensures in
    let z2 = c.read_set-2.new.numbers in
    let k2 = c.read_set-2.auto.numbers in
    let r2 = set_reached p Q.cut (part2_long q xs n z1 k1) c.read_set-2.ensures in
    let z3 = c.read_set-3.new.numbers in
    let k3 = c.read_set-3.auto.numbers in
    let r3 = set_reached p Q.cut (part3_long q xs n z1 k1 z2 k2) c.read_set-3.ensures in
    let m = last_quarter Q _ (part4_long q xs n z1 k1 z2 k2 z3 k3) in
    (quarter_shorter Q m c.decreases, (room4 (suc p) q xs n c.requires.room z1 k1 z2 k2 z3 k3, (omega arith, part_set Q.cut m)))

pub returns : goal.returns
returns t c =
    let xs = c.args.numbers.now in
    let Q = quarters xs c.requires.set c.if-numbers-eq4.false in
    quarters_read _ xs c.read_test.ensures Q c.if-not-read_test.false c.read_set.new.numbers c.read_set.auto.numbers c.read_set-2.new.numbers c.read_set-2.auto.numbers c.read_set-3.new.numbers c.read_set-3.auto.numbers c.read_set-4.new.numbers
    c.read_set.ensures
    c.read_set-2.ensures
    c.read_set-3.ensures
    c.read_set-4.ensures
