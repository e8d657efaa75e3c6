-- Open with no bit, or one bit.
use Rattle.set_coder.proofs.Test.{test_known, test_new, test_closed}
use Rattle.set_coder.proofs.code_test.Goals as goal

pub returns-in-Known : goal.returns-in-Known
returns-in-Known c = test_known _ _ _ c.scan.ensures _ c.in-Known.is

pub returns-in-New : goal.returns-in-New
returns-in-New c = test_new _ _ _ c.scan.ensures _ _ c.in-New.is c.put.ensures.put c.put.ensures.limit c.put.ensures.same_bytes

pub returns-in-Closed : goal.returns-in-Closed
returns-in-Closed c = test_closed _ _ _ c.scan.ensures _ _ c.in-Closed.is c.put-in-Closed.ensures.put c.put-in-Closed.ensures.limit c.put-in-Closed.ensures.same_bytes
