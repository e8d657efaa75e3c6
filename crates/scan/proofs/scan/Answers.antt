-- The loop's invariant: no number passed is 2T or more, and `any` says whether one is T or more.
use mathlib.Core.Bool.{true, false}
use mathlib.Core.Path.{◌≡◌, ◌∙◌, ap, refl}
use native.Mathlib.Omega.{arith}
use lib.IntN.{nat_abs}
use mir.Facts.{to_z-of_z}
use mir.Syntax.{w32}
use mir.Val.{SFits}
use Rattle.std.proofs.Common.{rules}
use Rattle.scan.proofs.Reached.{power_lt, none_passed, pass_yes, pass_no, all_passed, found_reaches, seen_is}
use Rattle.scan.proofs.scan.Goals.{After-unsigned_abs-m}
use Rattle.scan.proofs.scan.Goals as goal

magnitude : (c : After-unsigned_abs-m) → c.unsigned_abs-m.result ≡ nat_abs c.in-Some.x.now
magnitude c = let f : SFits w32 c.in-Some.x.now = search rules in c.unsigned_abs-m.ensures.value ∙ ap nat_abs (to_z-of_z f)

pub loop-x-init : goal.loop-x-init
loop-x-init c = rw c.iter-rest.ensures.rest (none_passed _ _, none_passed _ _)

pub overflow_mul-t : goal.overflow_mul-t
overflow_mul-t c = record { fits = omega (arith, power_lt c.args.plane c.threshold-t.ensures.most, c.threshold-t.ensures.value) }

pub loop-x-preserved-then-m-t-2 : goal.loop-x-preserved-then-m-t-2
loop-x-preserved-then-m-t-2 c =
    let m = magnitude (goal.at.loop-x-preserved-then-m-t-2 c).After-unsigned_abs-m in
    (pass_no _ _ _ false c.in-Some.ensures.steps m c.loop-x.invariant.0 c.if-m-t.false, pass_yes _ _ _ _ c.in-Some.ensures.steps m c.loop-x.invariant.1 c.if-m-t-2.true)

pub loop-x-preserved : goal.loop-x-preserved
loop-x-preserved c =
    let m = magnitude (goal.at.loop-x-preserved c).After-unsigned_abs-m in
    (pass_no _ _ _ false c.in-Some.ensures.steps m c.loop-x.invariant.0 c.if-m-t.false, pass_no _ _ _ _ c.in-Some.ensures.steps m c.loop-x.invariant.1 c.if-m-t-2.false)

pub returns-then-any : goal.returns-then-any
returns-then-any c =
    seen_is _ _ _ false true c.threshold-t.ensures.value (all_passed _ _ _ _ c.in_default.ensures.steps.0 c.loop-x.invariant.0) (all_passed _ _ _ _ c.in_default.ensures.steps.0 c.loop-x.invariant.1 ∙ c.if-any.true)

pub returns-else-any : goal.returns-else-any
returns-else-any c =
    seen_is _ _ _ false false c.threshold-t.ensures.value (all_passed _ _ _ _ c.in_default.ensures.steps.0 c.loop-x.invariant.0) (all_passed _ _ _ _ c.in_default.ensures.steps.0 c.loop-x.invariant.1 ∙ c.if-any.false)

pub returns-then-m-t : goal.returns-then-m-t
returns-then-m-t c =
    let m = magnitude (goal.at.returns-then-m-t c).After-unsigned_abs-m in
    seen_is _ _ _ true _ c.threshold-t.ensures.value (found_reaches _ _ _ false c.in-Some.ensures.steps m c.loop-x.invariant.0 c.if-m-t.true) refl
