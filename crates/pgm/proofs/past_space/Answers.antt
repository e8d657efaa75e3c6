use mathlib.Core.Path.{◌≡◌, sym, ◌∙◌}
use native.Mathlib.Omega.{arith}
use Rattle.pgm.proofs.Steps.{space_stops, space_goes, space_ends}
use Rattle.pgm.proofs.past_space.Goals as goal

pub returns-then-not-is_passed : goal.returns-then-not-is_passed
returns-then-not-is_passed c =
    sym (space_stops c.args.bytes.now _ c.loop-i.i (omega arith) (sym c.is_passed.ensures ∙ c.if-not-is_passed.true)) ∙ c.loop-i.invariant.goes_on

pub loop-i-preserved : goal.loop-i-preserved
loop-i-preserved c = record {
  within = omega arith;
  goes_on = rw c.is_inside-inside.ensures (space_goes c.args.bytes.now _ c.loop-i.i (omega arith) (sym c.is_passed.ensures ∙ c.if-not-is_passed.false) ∙ c.loop-i.invariant.goes_on);
}

pub returns : goal.returns
returns c =
    let end : c.max.result ≡ c.loop-i.i = omega arith in
    end ∙ sym (space_ends _ _ _ (omega arith)) ∙ c.loop-i.invariant.goes_on
