-- No number, a closed rest, or three sets and the rest behind them.
use mathlib.Core.Path.{sym, ◌∙◌}
use native.Mathlib.Omega.{arith}
use borrow.Author.Tests.{eqb-true}
use Rattle.list_laws.specs.Parts.{cut2_long, cut3_long, cut4_long}
use Rattle.set_coder.proofs.Run.{coder, done}
use Rattle.shapes.proofs.Cuts.{first_part, behind_shorter, part_set, rest_behind}
use Rattle.shapes.proofs.Walks.{rest_none, rest_closed}
use Rattle.plane_coder.proofs.Rest.{onward_some, onward_coded}
use Rattle.plane_coder.proofs.+code_rest.Goals as goal

pub returns-then-is_empty : goal.returns-then-is_empty
returns-then-is_empty t c = rest_none coder _ _ (done _ c.args.numbers.now) (eqb-true _ _ (sym c.is_empty.ensures ∙ c.if-is_empty.true))

pub returns-then-not-code_test : goal.returns-then-not-code_test
returns-then-not-code_test t c = rest_closed coder _ _ c.code_test.ensures (onward_some c.requires c.is_empty.ensures c.if-is_empty.false) c.if-not-code_test.true

pub overflow_add-q2 : goal.overflow_add-q2
overflow_add-q2 t c =
    let O = onward_some c.requires c.is_empty.ensures c.if-is_empty.false in
    record { fits = omega (arith, O.cut.three, c.well_formed.0.1, O.cut.some) }

pub overflow_add-q3 : goal.overflow_add-q3
overflow_add-q3 t c =
    let O = onward_some c.requires c.is_empty.ensures c.if-is_empty.false in
    record { fits = omega (arith, O.cut.three, c.well_formed.0.1, O.cut.some) }

pub overflow_add-q4 : goal.overflow_add-q4
overflow_add-q4 t c =
    let O = onward_some c.requires c.is_empty.ensures c.if-is_empty.false in
    record { fits = omega (arith, O.cut.three, c.well_formed.0.1, O.cut.some) }

pub slice_bounds-code_set-end : goal.slice_bounds-code_set-end
slice_bounds-code_set-end t c = sym (first_part (onward_some c.requires c.is_empty.ensures c.if-is_empty.false).cut)

pub code_set-requires : goal.code_set-requires
code_set-requires t c =
    let xs = c.args.numbers.now in
    let q = c.args.q in
    let O = onward_some c.requires c.is_empty.ensures c.if-is_empty.false in
    part_set O.cut (first_part O.cut)

pub offset_bounds-numbers-q : goal.offset_bounds-numbers-q
offset_bounds-numbers-q t c =
    let O = onward_some c.requires c.is_empty.ensures c.if-is_empty.false in
    record { fits = omega (arith, O.cut.three, c.well_formed.0.1) }

pub slice_bounds-code_set-end-2 : goal.slice_bounds-code_set-end-2
slice_bounds-code_set-end-2 t c =
    let O = onward_some c.requires c.is_empty.ensures c.if-is_empty.false in
    omega (arith, O.cut.three)

pub code_set-requires-2 : goal.code_set-requires-2
code_set-requires-2 t c =
    let xs = c.args.numbers.now in
    let q = c.args.q in
    let O = onward_some c.requires c.is_empty.ensures c.if-is_empty.false in
    part_set O.cut (cut2_long q xs O.cut.three)

pub slice_bounds-code_set-end-3 : goal.slice_bounds-code_set-end-3
slice_bounds-code_set-end-3 t c =
    let O = onward_some c.requires c.is_empty.ensures c.if-is_empty.false in
    omega (arith, O.cut.three)

pub code_set-requires-3 : goal.code_set-requires-3
code_set-requires-3 t c =
    let xs = c.args.numbers.now in
    let q = c.args.q in
    let O = onward_some c.requires c.is_empty.ensures c.if-is_empty.false in
    part_set O.cut (cut3_long q xs O.cut.three)

pub code_rest-requires : goal.code_rest-requires
code_rest-requires t c =
    let xs = c.args.numbers.now in
    let q = c.args.q in
    let O = onward_some c.requires c.is_empty.ensures c.if-is_empty.false in
    let n = cut4_long q xs O.cut.three in
    (behind_shorter O.cut _ n c.decreases, rest_behind O n)

pub returns : goal.returns
returns t c =
    let xs = c.args.numbers.now in
    let q = c.args.q in
    let O = onward_some c.requires c.is_empty.ensures c.if-is_empty.false in
    onward_coded _ xs c.code_test.ensures O c.if-not-code_test.false
    c.code_set.ensures
    c.code_set-2.ensures
    c.code_set-3.ensures
    c.code_rest.ensures
