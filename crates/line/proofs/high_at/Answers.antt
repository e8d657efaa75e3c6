-- `line::high_at` meets its contract.
use mathlib.Core.Path.{◌≡◌, ◌∙◌}
use Prim.Native.Nat.{◌+◌, ◌*◌, ◌-◌, min}
use mir.Facts.{to_z-of_z}
use Rattle.integer_laws.specs.Machine.{read}
use Rattle.paper.specs.Line.{high_at}
use lib.ListN.{length}
use Rattle.line.proofs.Lines.{mirrored}
use mir.Syntax.{w32}
use Rattle.line.proofs.high_at.Goals as goal

pub returns : goal.returns
unfolding high_at
returns c =
    let i = c.args.i in
    let r : 2 * c.pair_after.result ≡ min (2 * i + 2) (length c.args.x.now - 2) = rw c.pair_after.ensures (mirrored c.args.x.now c.args.h i c.requires.x_len c.requires.i_lt_h) in
    to_z-of_z {w = w32} (record { sfits = c.high_of.type_inv }) ∙ c.high_of.ensures ∙ simp (read (c.requires.each (2 * i + 1)) tt, read (c.requires.each (2 * i)) tt, read (c.requires.each (2 * c.pair_after.result)) tt) (rw r)
