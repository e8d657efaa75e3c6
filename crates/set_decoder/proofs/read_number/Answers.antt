-- No bit or a 0, one more bit of a number that is 2T or more, or a sign bit that is there or is not.
use mathlib.Core.Path.{refl, ◌∙◌, ap}
use Prim.Native.Nat.{◌+◌}
use native.Mathlib.Omega.{arith}
use lib.IntN.{nat_abs}
use lib.Pow.{pow-lt}
use Rattle.paper.specs.Walk.{negative, signed}
use Rattle.set_decoder.proofs.Tapes.{bit_read, settles, ended}
use Rattle.set_decoder.proofs.Numbers.{number_still, number_grown, number_unsigned, number_begun}
use Rattle.set_decoder.proofs.Sign.{held, takes, takes_kept, kept_signed}
use Rattle.set_decoder.proofs.read_number.Goals as goal

pub returns-then-not-bit : goal.returns-then-not-bit
returns-then-not-bit c =
    let e = c.bit.ensures in
    number_still c.args.plane c.args.x (bit_read _ c.bit.new.self e.source e.place e.one) _ (held c.args.x c.args.plane c.requires.plane_bound) c.if-not-bit.true (settles c.settle.ensures.source c.settle.ensures.place)

pub grown-requires : goal.grown-requires
grown-requires c = takes_kept c.args.x c.args.plane c.requires.plane_bound _ c.threshold-t.ensures.value

pub returns-then-unsigned_abs-t : goal.returns-then-unsigned_abs-t
returns-then-unsigned_abs-t c =
    let x = c.args.x in
    let p = c.args.plane in
    let h = c.requires.plane_bound in
    let held = held x p h in
    let e = c.bit.ensures in
    let s = c.settle-then-unsigned_abs-t.ensures in
    let t = c.threshold-t.result in
    number_grown p x (bit_read _ c.bit.new.self e.source e.place e.one) _ _ c.threshold-t.ensures.value (c.unsigned_abs.ensures.value ∙ ap nat_abs held) _ c.if-unsigned_abs-t.true c.if-not-bit.false
    (kept_signed _ (negative x) (nat_abs x + t) (c.grown.ensures ∙ ap (λ z. signed (negative z) (nat_abs z + t)) held) (takes x p h _ c.threshold-t.ensures.value)) (settles s.source s.place)

pub returns-then-missed : goal.returns-then-missed
returns-then-missed c =
    let x = c.args.x in
    let p = c.args.plane in
    let held = held x p c.requires.plane_bound in
    let e = c.bit.ensures in
    let b = c.bit-below.ensures in
    ended (number_unsigned p x (bit_read _ c.bit.new.self e.source e.place e.one) _ _ c.threshold-t.ensures.value (c.unsigned_abs.ensures.value ∙ ap nat_abs held) (bit_read _ c.bit-below.new.self b.source b.place b.one)
    c.if-unsigned_abs-t.false c.if-not-bit.false c.missed.ensures _ held c.if-missed.true) refl (omega arith)

pub returns : goal.returns
returns c =
    let x = c.args.x in
    let p = c.args.plane in
    let held = held x p c.requires.plane_bound in
    let e = c.bit.ensures in
    let b = c.bit-below.ensures in
    let s = c.settle-2.ensures in
    number_begun p x (bit_read _ c.bit.new.self e.source e.place e.one) _ _ c.threshold-t.ensures.value (c.unsigned_abs.ensures.value ∙ ap nat_abs held) (bit_read _ c.bit-below.new.self b.source b.place b.one)
    c.if-unsigned_abs-t.false c.if-not-bit.false c.missed.ensures _ c.if-missed.false
    (kept_signed _ c.bit-below.result c.threshold-t.result c.begun.ensures (omega (arith, c.threshold-t.ensures.value, pow-lt c.threshold-t.ensures.most))) (settles s.source s.place)
