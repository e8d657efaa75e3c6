-- `line::even_at` meets its contract.
use mathlib.Core.Path.{◌∙◌}
use Prim.Native.Nat.{◌+◌}
use mir.Facts.{to_z-of_z}
use Rattle.integer_laws.specs.Machine.{read}
use Rattle.paper.specs.Line.{even_at}
use mir.Syntax.{w32}
use Rattle.line.proofs.even_at.Goals as goal

pub returns : goal.returns
unfolding even_at
returns c =
    let h = c.args.h in
    let i = c.args.i in
    to_z-of_z {w = w32} (record { sfits = c.even_of.type_inv }) ∙ c.even_of.ensures ∙ simp (read (c.requires.each i) tt, read (c.requires.each (h + c.saturating_sub.result)) tt, read (c.requires.each (h + i)) tt) (rw c.saturating_sub.ensures)
