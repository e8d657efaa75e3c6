use mathlib.Core.Path.{sym, ◌∙◌}
use borrow.Author.Tests.{ne_eqb}
use Rattle.worth.specs.Worth.{worth}
use Rattle.worth.proofs.Decoded.put_worth.Goals as goal

pub returns-clause-line_value : goal.returns-clause-line_value
unfolding worth
returns-clause-line_value c = rw ((sym c.is_whole.ensures ∙ c.if-is_whole.false), ← c.limit-limit.ensures, ne_eqb _ 255 c.if-limit-eq255.false, ← c.from.ensures, c.put_figure.ensures.line_value, c.put-2.ensures.line_value, ← c.one_shot-2.ensures) c.put-3.ensures.line_value
