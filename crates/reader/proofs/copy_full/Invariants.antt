use Rattle.paper.specs.Record.{block_at}
use Rattle.paper.specs.Block.{payload_bytes, payload_of}
use Rattle.paper.specs.Lists.{joined}
use lib.ListN.{drop}
use mathlib.Core.List.{◌++◌}
use mathlib.Core.Path.{◌≡◌}
use Prim.Native.Nat.{◌*◌}
use Rattle.reader.proofs.copy_full.Given as goal

abbrev pub invariant-loop-i : goal.invariant-loop-i
invariant-loop-i l = l.room ≡ joined l.i (λ j. payload_of l.fn.start (block_at l.fn.blocks j)) ++ drop (payload_bytes l.fn.start * l.i) l.initial.room
