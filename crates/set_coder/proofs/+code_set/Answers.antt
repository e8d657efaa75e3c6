-- A closed set, four numbers, or four quarters, each of them a set.
use Prim.Native.Nat.{◌/◌}
use lib.ListN.{length}
use Rattle.list_laws.specs.Parts.{cut2_long, cut3_long, cut4_long}
use Rattle.shapes.proofs.Cuts.{quarters, first_part, quarter_shorter, last_quarter, part_set}
use Rattle.shapes.proofs.Walks.{set_closed, set_four}
use Rattle.set_coder.proofs.Run.{coder}
use Rattle.set_coder.proofs.Set.{quarters_coded}
use Rattle.set_coder.proofs.+code_set.Goals as goal

pub returns-then-not-code_test : goal.returns-then-not-code_test
returns-then-not-code_test t c = set_closed coder _ _ c.code_test.ensures c.if-not-code_test.true

pub returns-then-numbers-eq4 : goal.returns-then-numbers-eq4
returns-then-numbers-eq4 t c = set_four coder _ _ c.code_test.ensures c.if-not-code_test.false c.if-numbers-eq4.true c.code_numbers.ensures

pub code_set-requires : goal.code_set-requires
code_set-requires t c =
    let xs = c.args.numbers.now in
    let q = length xs / 4 in
    let Q = quarters xs c.requires c.if-numbers-eq4.false in
    let n = first_part Q.cut in
    (quarter_shorter Q n c.decreases, part_set Q.cut n)

pub code_set-requires-2 : goal.code_set-requires-2
code_set-requires-2 t c =
    let xs = c.args.numbers.now in
    let q = length xs / 4 in
    let Q = quarters xs c.requires c.if-numbers-eq4.false in
    let n = cut2_long q xs Q.cut.three in
    (quarter_shorter Q n c.decreases, part_set Q.cut n)

pub code_set-requires-3 : goal.code_set-requires-3
code_set-requires-3 t c =
    let xs = c.args.numbers.now in
    let q = length xs / 4 in
    let Q = quarters xs c.requires c.if-numbers-eq4.false in
    let n = cut3_long q xs Q.cut.three in
    (quarter_shorter Q n c.decreases, part_set Q.cut n)

pub code_set-requires-4 : goal.code_set-requires-4
code_set-requires-4 t c =
    let xs = c.args.numbers.now in
    let q = length xs / 4 in
    let Q = quarters xs c.requires c.if-numbers-eq4.false in
    let n = last_quarter Q _ (cut4_long q xs Q.cut.three) in
    (quarter_shorter Q n c.decreases, part_set Q.cut n)

pub returns : goal.returns
returns t c =
    let xs = c.args.numbers.now in
    quarters_coded _ xs c.code_test.ensures (quarters xs c.requires c.if-numbers-eq4.false) c.if-not-code_test.false
    c.code_set.ensures
    c.code_set-2.ensures
    c.code_set-3.ensures
    c.code_set-4.ensures
