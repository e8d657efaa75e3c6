use mathlib.Core.Path.{◌≡◌}
use Prim.Native.Nat.{◌-◌, ◌/◌}
use lib.ListN.{length}
use Rattle.paper.specs.Block.{block_bytes}
use Rattle.paper.specs.Record.{refusal_at, start_in, run_of, run_from}
use Rattle.reader.proofs.longest_run.Given as goal

abbrev pub invariant-loop-i : goal.invariant-loop-i
invariant-loop-i l = run_of l.fn.blocks l.fn.label ≡ run_from (start_in l.fn.blocks) (refusal_at l.fn.blocks l.fn.label) l.fn.blocks (length l.fn.blocks / block_bytes - l.i) l.i
