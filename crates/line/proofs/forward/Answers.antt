-- `line::forward` meets its contract. After i turns the first i pairs stand by halves, and `last` is the high number before
-- the next.
use mathlib.Core.Path.{◌≡◌, ◌∙◌}
use Prim.Native.Nat.{◌-◌, ◌+◌, ◌*◌, ◌/◌}
use native.Mathlib.Omega.{arith}
use lib.ListN.{length}
use mir.Syntax.{w32}
use mir.Facts.{to_z-of_z}
use Rattle.integer_laws.specs.Machine.{read, pass}
use Rattle.paper.specs.Line.{high_at, low_at}
use Rattle.line.proofs.Lines.{forward_is, high_at_within}
use Rattle.line.proofs.Pairs.{paired_none, paired_more, free_halves}
use Rattle.line.proofs.forward.Goals as goal

pub loop-i-init : goal.loop-i-init
loop-i-init c = record { before = to_z-of_z {w = w32} (record { sfits = c.high_at-last.type_inv }) ∙ c.high_at-last.ensures; pairs = paired_none _ _ _ _ _ }

pub low_of-requires : goal.low_of-requires
low_of-requires c =
    let x = c.args.x.now in
    let i = c.loop-i.i in
    record { within = pass (c.requires.each (2 * i)) tt tt; within_2 = rw c.loop-i.invariant.before (high_at_within x (i - 1) c.requires.each); within_3 = rw c.high_at-high.ensures (pass (high_at_within x i c.requires.each) tt tt) }

pub loop-i-preserved : goal.loop-i-preserved
unfolding low_at
loop-i-preserved c =
    let x = c.args.x.now in
    let i = c.loop-i.i in
    let h = length x / 2 in
    let a = c.high_at-high in
    let q : i + 1 - 1 ≡ i = omega arith in
    record {
      before = rw q (to_z-of_z {w = w32} (record { sfits = a.type_inv }) ∙ a.ensures);
      pairs = paired_more (λ i. i) (λ i. h + i) (low_at x) (high_at x) i c.loop-i.out _ _ (free_halves h i _ (omega arith) (omega arith)) c.loop-i.invariant.pairs
          (to_z-of_z {w = w32} (record { sfits = c.low_of.type_inv }) ∙ c.low_of.ensures ∙ simp (c.loop-i.invariant.before, a.ensures, read (c.requires.each (2 * i)) tt, read (high_at_within x i c.requires.each) tt))
          (to_z-of_z {w = w32} (record { sfits = a.type_inv }) ∙ a.ensures);
    }

pub returns : goal.returns
returns c =
    let x = c.args.x.now in
    let q : c.loop-i.i ≡ length x / 2 = omega arith in
    forward_is x (length x / 2) c.requires.x_len _ (omega arith) (rw q at c.loop-i.invariant.pairs)
