-- Open with no bit, or by one bit; shut by one bit, or where it is missed.
use mathlib.Core.Path.{refl, sym}
use native.Mathlib.Omega.{arith}
use borrow.Author.Rules.{rules}
use denote.Enum.Bare.{same_true, same_false}
use Rattle.scan.specs.contracts.Seen.{the_type}
use Rattle.set_decoder.proofs.Tapes.{bit_read, settles, ended}
use Rattle.set_decoder.proofs.Test.{test_open, test_one, test_shut}
use Rattle.set_decoder.proofs.read_test.Goals as goal

pub returns-then-eq : goal.returns-then-eq
returns-then-eq c = test_open _ _ _ c.scan.ensures (same_true the_type (search rules) _ _ (sym c.if-eq.ensures))

pub returns-then-bit : goal.returns-then-bit
returns-then-bit c =
    let e = c.bit.ensures in
    ended (test_one _ _ c.scan.ensures (same_false the_type _ _ (sym c.if-eq.ensures)) (bit_read _ c.bit.new.self e.source e.place e.one) c.if-bit.true) refl (omega arith)

pub returns : goal.returns
returns c =
    let e = c.bit.ensures in
    test_shut _ _ c.scan.ensures (same_false the_type _ _ (sym c.if-eq.ensures)) (bit_read _ c.bit.new.self e.source e.place e.one) c.if-bit.false (settles c.settle.ensures.source c.settle.ensures.place)
