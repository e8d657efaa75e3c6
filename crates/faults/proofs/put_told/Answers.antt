-- `put_told`: of a whole block out of its turn, the reasons too.
use Rattle.std.proofs.Common.{rules, ap, ◌∙◌, sym, []}
use native.Mathlib.Omega.{arith}
use Rattle.words.specs.Line.{stands, ◌puts◌}
use Rattle.faults.proofs.Laws.{told_turn}
use Rattle.reader.proofs.Turn.{block_there}
use Rattle.faults.proofs.put_told.Goals as goal

pub returns-then-i-whole-clause-line_value : goal.returns-then-i-whole-clause-line_value
returns-then-i-whole-clause-line_value c =
    let s = c.args.blocks.now in
    told_turn s c.args.label.now c.args.i (stands c.args.line.now) (search rules) (omega arith) (block_there s 0 _ [] c.as_chunks.ensures.front (omega arith)) (block_there s c.args.i _ [] c.as_chunks.ensures.front (omega arith)) (ap (λ t. stands c.args.line.now puts t) (sym c.fault.ensures) ∙ c.put.ensures.line_value) c.put_reasons.ensures.line_value
