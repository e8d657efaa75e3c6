use Prim.Native.Nat.{◌<◌}
use Rattle.pass.proofs.Passes.{Passed, Last}
use Rattle.pass.specs.Turns.{down}
use Rattle.pass.proofs.turn_lines.Given as goal

abbrev pub ghost-turn : goal.ghost-turn
ghost-turn g a = g.rule

abbrev pub invariant-loop-l : goal.invariant-loop-l
invariant-loop-l g l = record { passed : Passed g.rule l.fn.size (down l.fn.lines) l.l l.initial.xs l.xs; last : 0 < l.l → Last g.rule l.fn.size (down l.fn.lines) l.l l.initial.xs l.a l.b }
