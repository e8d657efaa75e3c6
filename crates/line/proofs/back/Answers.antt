-- `line::back` meets its contract. After i turns the first i pairs stand by turns, and `left` is the even sample of the
-- next, or of the last.
use mathlib.Core.Path.{◌≡◌, ap, ◌∙◌}
use Prim.Native.Nat.{◌-◌, ◌+◌, ◌*◌, ◌/◌, min}
use native.Mathlib.Omega.{arith}
use lib.ListN.{length}
use mir.Syntax.{w32}
use mir.Facts.{to_z-of_z}
use Rattle.integer_laws.specs.Machine.{read, pass}
use Rattle.paper.specs.Line.{even_at, odd_at}
use Rattle.line.proofs.Lines.{back_is, even_at_within}
use Rattle.line.proofs.Pairs.{paired_none, paired_more, free_turns}
use Rattle.line.proofs.back.Goals as goal

pub loop-i-init : goal.loop-i-init
loop-i-init c =
    let y = c.args.y.now in
    let h = length y / 2 in
    let q : min 0 (h - 1) ≡ 0 = omega arith in
    record { next = rw q (to_z-of_z {w = w32} (record { sfits = c.even_at-left.type_inv }) ∙ c.even_at-left.ensures); pairs = paired_none _ _ _ _ _ }

pub odd_of-requires : goal.odd_of-requires
odd_of-requires c =
    let y = c.args.y.now in
    let h = length y / 2 in
    let i = c.loop-i.i in
    record { within = pass (c.requires.each (h + i)) tt tt; within_2 = rw c.loop-i.invariant.next (even_at_within y h (min i (h - 1)) c.requires.each); within_3 = rw c.even_at-right.ensures (pass (even_at_within y h _ c.requires.each) tt tt) }

pub loop-i-preserved : goal.loop-i-preserved
unfolding odd_at
loop-i-preserved c =
    let r = c.even_at-right in
    let a = c.pair_after in
    let y = c.args.y.now in
    let h = length y / 2 in
    let i = c.loop-i.i in
    let q : min i (h - 1) ≡ i = omega arith in
    record {
      next = to_z-of_z {w = w32} (record { sfits = r.type_inv }) ∙ r.ensures ∙ ap (even_at y h) a.ensures;
      pairs = paired_more (λ i. 2 * i) (λ i. 2 * i + 1) (even_at y h) (odd_at y h) i c.loop-i.out _ _ (free_turns h i _ (omega arith) (omega arith)) c.loop-i.invariant.pairs
          (c.loop-i.invariant.next ∙ ap (even_at y h) q)
          (to_z-of_z {w = w32} (record { sfits = c.odd_of.type_inv }) ∙ c.odd_of.ensures ∙ simp (c.loop-i.invariant.next, q, r.ensures, a.ensures, read (c.requires.each (h + i)) tt, read (even_at_within y h (min (i + 1) (h - 1)) c.requires.each) tt));
    }

pub returns : goal.returns
returns c =
    let y = c.args.y.now in
    let q : c.loop-i.i ≡ length y / 2 = omega arith in
    back_is y (length y / 2) c.requires.y_len _ (omega arith) (rw q at c.loop-i.invariant.pairs)
