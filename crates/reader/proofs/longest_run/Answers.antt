-- `longest_run`. The invariant: the run from block i on is the whole run.
use Prim.Native.Nat.{◌/◌}
use mathlib.Core.Path.{sym, ap, ◌∙◌}
use native.Mathlib.Omega.{arith}
use lib.ListN.{length}
use Rattle.paper.specs.Block.{block_bytes}
use Rattle.paper.specs.Record.{refusal_at, start_in}
use Rattle.refusals.proofs.Numbers.{numbered}
use Rattle.reader.proofs.Turn.{block_there, judged_at, full_at, run_start, run_fails, run_short, run_more, run_ends}
use Rattle.reader.proofs.longest_run.Goals as goal

pub loop-i-init : goal.loop-i-init
loop-i-init c = run_start c.args.blocks.now c.args.label.now

pub returns-in-Err : goal.returns-in-Err
returns-in-Err c =
    let s = c.args.blocks.now in
    let at = c.loop-i in
    at.invariant ∙ run_fails (start_in s) (refusal_at s c.args.label.now) s (length s / block_bytes) at.i (omega arith) _ (judged_at s c.args.label.now at.i (block_there s 0 _ _ c.as_chunks.ensures.front (omega arith)) (block_there s at.i _ _ c.as_chunks.ensures.front (omega arith)) c.in-Err.ensures) (numbered c.in-Err.refusal)

pub returns-then-not-is_full : goal.returns-then-not-is_full
returns-then-not-is_full c =
    let s = c.args.blocks.now in
    let at = c.loop-i in
    at.invariant ∙ run_short (start_in s) (refusal_at s c.args.label.now) s (length s / block_bytes) at.i (omega arith) (judged_at s c.args.label.now at.i (block_there s 0 _ _ c.as_chunks.ensures.front (omega arith)) (block_there s at.i _ _ c.as_chunks.ensures.front (omega arith)) c.in_default.ensures) (full_at s at.i (block_there s 0 _ _ c.as_chunks.ensures.front (omega arith)) (block_there s at.i _ _ c.as_chunks.ensures.front (omega arith)) c.start_in.ensures c.is_full.ensures ∙ c.if-not-is_full.true)

pub loop-i-preserved : goal.loop-i-preserved
loop-i-preserved c =
    let s = c.args.blocks.now in
    let at = c.loop-i in
    at.invariant ∙ run_more (start_in s) (refusal_at s c.args.label.now) s (length s / block_bytes) at.i (omega arith) (judged_at s c.args.label.now at.i (block_there s 0 _ _ c.as_chunks.ensures.front (omega arith)) (block_there s at.i _ _ c.as_chunks.ensures.front (omega arith)) c.in_default.ensures) (full_at s at.i (block_there s 0 _ _ c.as_chunks.ensures.front (omega arith)) (block_there s at.i _ _ c.as_chunks.ensures.front (omega arith)) c.start_in.ensures c.is_full.ensures ∙ c.if-not-is_full.false)

pub returns : goal.returns
returns c =
    let s = c.args.blocks.now in
    let at = c.loop-i in
    at.invariant ∙ run_ends (start_in s) (refusal_at s c.args.label.now) s (length s / block_bytes) at.i (omega arith) ∙ ap (λ kept. record { kept = kept; ended = 0 }) (sym c.as_chunks.ensures.front_len)
