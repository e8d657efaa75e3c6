-- `kept_run`: the run, or why it ended before its first block.
use mathlib.Core.Path.{◌≡◌, sym, ap, ◌∙◌}
use native.Mathlib.Omega.{arith}
use Rattle.std.proofs.Common.{Some, None}
use Rattle.reader.specs.Answers.{ended_of}
use Rattle.record.proofs.Reading.{none_kept}
use Rattle.record.proofs.kept_run.Goals as goal

pub returns-in-0-clause-refused : goal.returns-in-0-clause-refused
returns-in-0-clause-refused c =
    let run = c.longest_run in
    let why : run.result.ended ≡ Some c.in-0.refusal = cc in
    sym (ap ended_of why) ∙ (none_kept c.args.blocks.now c.args.label.now run.result.kept (ended_of run.result.ended) run.ensures c.requires (omega arith)).0

pub returns-in_default-clause-kept : goal.returns-in_default-clause-kept
returns-in_default-clause-kept c =
    let run = c.longest_run in
    let unsaid : run.result.ended ≡ None = cc in
    let some = (none_kept c.args.blocks.now c.args.label.now run.result.kept (ended_of run.result.ended) run.ensures c.requires (omega arith)).1 in
    absurd (omega (arith, some, ap ended_of unsaid))
