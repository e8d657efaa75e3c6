use mathlib.Core.Path.{refl, subst}
use Rattle.words.specs.Line.{stands}
use Rattle.words.proofs.Laws.{Inside}
use Rattle.promise.specs.Promise.{of255, promise_of}
use Rattle.promise.proofs.Laws.{promise_inside}
use Rattle.promise.proofs.promise.Goals as goal

pub returns-clause-line_value : goal.returns-clause-line_value
unfolding promise_of of255
returns-clause-line_value c =
    rw (← c.put_either.ensures.line_value, ← c.put_figure-2.ensures.line_value, c.from-2.ensures, c.limit.ensures, ← c.put_of_side.ensures.line_value, ← c.put-4.ensures.line_value, c.softer_word.ensures, ← c.put_figure.ensures.line_value, c.from.ensures, ← c.put-3.ensures.line_value, c.word.ensures, ← c.put-2.ensures.line_value, ← c.put.ensures.line_value) refl

pub returns-clause-upper_bound : goal.returns-clause-upper_bound
returns-clause-upper_bound c = λ h.
    let d = c.args.decoded in
    subst Inside (returns-clause-line_value c) (promise_inside (stands c.args.line.now) c.args.label.now d.k d.levels d.halvings d.softer d.unfinished d.blocks h)
