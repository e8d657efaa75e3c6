-- `sizes::grown` meets its contract.
use native.Mathlib.Omega.{arith}
use mathlib.Core.Path.{◌∙◌}
use mir.Facts.{to_z-of_z}
use Rattle.sizes.proofs.Growing.{weight, grown_below, grown_above}
use Rattle.sizes.proofs.grown.Goals as goal

pub overflow_sub-result : goal.overflow_sub-result
overflow_sub-result c =
    let e = to_z-of_z c.ranges.x in
    rw (e, weight c.args.more (omega (arith, c.requires))) (grown_below c.args.x c.args.more c.requires (rw e at c.if-x-lt0.true)).0

pub overflow_add-result : goal.overflow_add-result
overflow_add-result c =
    let e = to_z-of_z c.ranges.x in
    rw (e, weight c.args.more (omega (arith, c.requires))) (grown_above c.args.x c.args.more c.requires (rw e at c.if-x-lt0.false)).0

pub returns-then-x-lt0 : goal.returns-then-x-lt0
returns-then-x-lt0 c =
    let e = to_z-of_z c.ranges.x in
    let g = grown_below c.args.x c.args.more c.requires (rw e at c.if-x-lt0.true) in
    rw (e, weight c.args.more (omega (arith, c.requires))) (to_z-of_z g.0 ∙ g.1)

pub returns-else-x-lt0 : goal.returns-else-x-lt0
returns-else-x-lt0 c =
    let e = to_z-of_z c.ranges.x in
    let g = grown_above c.args.x c.args.more c.requires (rw e at c.if-x-lt0.false) in
    rw (e, weight c.args.more (omega (arith, c.requires))) (to_z-of_z g.0 ∙ g.1)
