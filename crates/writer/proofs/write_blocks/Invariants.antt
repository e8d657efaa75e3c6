use Rattle.paper.specs.Record.{block_of}
use Rattle.paper.specs.Bits.{bits}
use Rattle.paper.specs.Lists.{joined}
use lib.ListN.{take, drop}
use mathlib.Core.List.{◌++◌}
use Rattle.block.specs.Origins.{origin_of}
use Rattle.paper.specs.Block.{block_bytes}
use mathlib.Core.Path.{◌≡◌}
use Prim.Native.Nat.{◌*◌}
use Rattle.writer.proofs.write_blocks.Given as goal

abbrev pub invariant-loop-number : goal.invariant-loop-number
invariant-loop-number l = l.room ≡ joined l.number (block_of (origin_of l.fn.h.origin) l.fn.h.k l.fn.h.levels l.fn.h.n l.fn.label (take l.fn.b (bits l.fn.bytes))) ++ drop (block_bytes * l.number) l.initial.room
