use mathlib.Core.Path.{◌≡◌, sym, ◌∙◌}
use native.Mathlib.Omega.{arith}
use Rattle.pgm.proofs.Steps.{number_stops, number_goes, number_ends, small}
use Rattle.pgm.specs.Header.{is_digit}
use Rattle.pgm.proofs.number_from.Goals as goal

pub returns-then-not-is_ascii_digit : goal.returns-then-not-is_ascii_digit
unfolding is_digit
returns-then-not-is_ascii_digit c =
    sym (number_stops c.args.bytes.now _ c.loop-i.i (omega arith) (sym c.is_ascii_digit.ensures.value ∙ c.if-not-is_ascii_digit.true)) ∙ c.loop-i.invariant.goes_on

pub with_digit-value-requires-clause-c_value : goal.with_digit-value-requires-clause-c_value
unfolding is_digit
with_digit-value-requires-clause-c_value c = sym c.is_ascii_digit.ensures.value ∙ c.if-not-is_ascii_digit.false

pub loop-i-preserved : goal.loop-i-preserved
unfolding is_digit
loop-i-preserved c =
    record {
      within = omega arith;
      low = rw c.with_digit-value.ensures (small _ _);
      goes_on = rw c.with_digit-value.ensures (number_goes c.args.bytes.now _ c.loop-i.i (omega arith) (sym c.is_ascii_digit.ensures.value ∙ c.if-not-is_ascii_digit.false) ∙ c.loop-i.invariant.goes_on);
    }

pub returns : goal.returns
returns c =
    let end : c.max.result ≡ c.loop-i.i = omega arith in
    rw end (sym (number_ends _ _ _ (omega arith)) ∙ c.loop-i.invariant.goes_on)
