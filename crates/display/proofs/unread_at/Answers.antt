-- `unread_at` meets its contract.
use mathlib.Core.Path.{◌∙◌}
use borrow.Author.Tests.{lt-ltb, le-ltb}
use Rattle.paper.specs.Walk.{unread_at}
use Rattle.display.proofs.unread_at.Goals as goal

pub returns-then-i-place : goal.returns-then-i-place
unfolding unread_at
returns-then-i-place c = let a = c.args in c.saturating_sub.ensures ∙ rw (lt-ltb a.i a.place c.if-i-place.true)

pub returns : goal.returns
unfolding unread_at
returns c = let a = c.args in rw (le-ltb a.i a.place c.if-i-place.false)
