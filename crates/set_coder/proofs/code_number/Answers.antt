-- One bit for a number that is 2T or more or below T, two for one that is new.
use mathlib.Core.Path.{◌∙◌, ap}
use native.Mathlib.Omega.{arith}
use lib.IntN.{nat_abs}
use mir.Facts.{to_z-of_z}
use Rattle.scan.proofs.Reached.{power_lt}
use Rattle.scan.proofs.Sign.{sign_is}
use Rattle.set_coder.proofs.Numbers.{number_known, number_small, number_new}
use Rattle.set_coder.proofs.code_number.Goals as goal

pub overflow_mul-t : goal.overflow_mul-t
overflow_mul-t c = record { fits = omega (arith, power_lt c.args.plane c.threshold-t.ensures.most, c.threshold-t.ensures.value) }

pub returns-then-m-t : goal.returns-then-m-t
returns-then-m-t c = number_known _ _ _ _ c.threshold-t.ensures.value (c.unsigned_abs-m.ensures.value ∙ ap nat_abs (to_z-of_z c.ranges.x)) _ _ _ c.if-m-t.true c.bit_of.ensures c.put.ensures.put c.put.ensures.limit c.put.ensures.same_bytes

pub returns-then-m-t-2 : goal.returns-then-m-t-2
returns-then-m-t-2 c =
    number_new _ _ _ _ c.threshold-t.ensures.value (c.unsigned_abs-m.ensures.value ∙ ap nat_abs (to_z-of_z c.ranges.x)) _ c.put-2.new.self c.if-m-t.false c.put-2.ensures.put c.put-2.ensures.limit c.put-2.ensures.same_bytes
    c.put-then-m-t-2.new.self _ c.if-m-t-2.true (sign_is c.args.x c.ranges.x) c.put-then-m-t-2.ensures.put c.put-then-m-t-2.ensures.limit c.put-then-m-t-2.ensures.same_bytes

pub returns-else-m-t-2 : goal.returns-else-m-t-2
returns-else-m-t-2 c = number_small _ _ _ _ c.threshold-t.ensures.value (c.unsigned_abs-m.ensures.value ∙ ap nat_abs (to_z-of_z c.ranges.x)) _ _ c.if-m-t.false c.put-2.ensures.put c.put-2.ensures.limit c.put-2.ensures.same_bytes c.if-m-t-2.false
