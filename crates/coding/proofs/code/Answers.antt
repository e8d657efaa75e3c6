-- Refused with the number of its row, or done with what the planes wrote.
use mathlib.Core.Path.{◌≡◌, ◌∙◌}
use native.Mathlib.Omega.{arith}
use Rattle.std.proofs.Common.{rules}
use Rattle.set_coder.specs.Coded.{stands}
use Rattle.shapes.proofs.Cuts.{square_of}
use Rattle.coding.proofs.Job.{right, planes_few, job_done}
use Rattle.coding.proofs.code.Goals as goal

pub plane_count-n-requires : goal.plane_count-n-requires
plane_count-n-requires c = (right c.args.k c.args.levels c.args.numbers.now c.in_ok-judge_coding.ensures).range

pub new-requires : goal.new-requires
new-requires c = (right c.args.k c.args.levels c.args.numbers.now c.in_ok-judge_coding.ensures).high

pub first_set-first-requires : goal.first_set-first-requires
first_set-first-requires c = rw c.new.ensures (right c.args.k c.args.levels c.args.numbers.now c.in_ok-judge_coding.ensures).less

pub code_planes-requires : goal.code_planes-requires
code_planes-requires c =
    let xs = c.args.numbers.now in
    let R = right c.args.k c.args.levels xs c.in_ok-judge_coding.ensures in
    record { n_le_most_planes = omega (arith, c.plane_count-n.ensures, planes_few xs); square = square_of {k = c.args.k} {L = c.args.levels} R.less R.square (rw c.new.ensures at c.first_set-first.ensures) }

pub returns : goal.returns
returns c =
    let xs = c.args.numbers.now in
    let R = right c.args.k c.args.levels xs c.in_ok-judge_coding.ensures in
    let K = square_of {k = c.args.k} {L = c.args.levels} R.less R.square (rw c.new.ensures at c.first_set-first.ensures) in
    let starts : stands c.new-sink.result ≡ (c.args.bytes.now, 0) = λ i. (c.new-sink.ensures.bytes i, c.new-sink.ensures.place i) in
    let coded = c.code_planes.ensures K in
    let same = coded.same in
    let e = job_done c.args.k c.args.levels xs c.args.limit c.args.bytes.now c.plane_count-n.result c.room-most.result c.new-sink.result c.code_planes.new.sink c.in_ok-judge_coding.ensures c.plane_count-n.ensures c.room-most.ensures starts c.new-sink.ensures.limit coded in
    e ∙ search rules
