use native.Mathlib.Omega.{arith}
use Prim.Native.Nat.{◌+◌, ◌-◌, ◌<◌, ◌≤◌, ◌%◌}
use lib.ListN.{length, drop, set, length-drop, length-set}
use lib.Seq.{take_all}
use Rattle.words.proofs.Decimal.{some_place, tenth_fits, next_digit, first_digit}
use Rattle.words.proofs.Line.put_number.Goals as goal

pub loop-rest-preserved : goal.loop-rest-preserved
loop-rest-preserved c =
    let v = c.loop-rest.invariant in
    let there : c.loop-rest.first < length c.loop-rest.digits = omega arith in
    let some : 0 < c.loop-rest.first = some_place _ _ (omega arith) v.fits in
    record {
      room = omega (arith, length-set c.loop-rest.digits c.loop-rest.first (48 + c.loop-rest.rest % 10));
      within = omega arith;
      fits = tenth_fits _ _ some v.fits;
      stands = next_digit _ _ _ _ there v.stands some (omega arith);
    }

pub returns-clause-line_value : goal.returns-clause-line_value
returns-clause-line_value c =
    let v = c.loop-rest.invariant in
    let there : c.loop-rest.first < length c.loop-rest.digits = omega arith in
    let first = c.loop-rest.first in
    let digits = set c.loop-rest.digits first (48 + c.loop-rest.rest) in
    let behind : length (drop first digits) ≤ 20 - first = omega (arith, length-drop first digits, length-set c.loop-rest.digits first (48 + c.loop-rest.rest)) in
    rw (← first_digit _ _ _ _ there v.stands (omega arith)) (rw (take_all (20 - first) (drop first digits) behind) at c.put.ensures.line_value)
