-- `is_label` is the definition's test. Assumes nothing.
use Rattle.std.proofs.Common.{rules, tests, sym, ◌∙◌}
use Rattle.std.proofs.lemmas.Iterator.{YieldsList-from_slice}
use Rattle.std.proofs.lemmas.Iterator.Search.{all_from_yields_List}
use borrow.Author.Tests.{eq-eqb, ne_eqb}
use Rattle.paper.specs.Block.{is_label, label_character}
use Rattle.fields.proofs.Bytewise.{characters_all}
use Rattle.fields.proofs.is_label.Goals as goal

pub returns-then-s-eq8 : goal.returns-then-s-eq8
unfolding is_label
returns-then-s-eq8 c =
    rw (eq-eqb _ _ c.if-s-eq8.true)
    (all_from_yields_List label_character _ _ _ c.all.ensures.ran (YieldsList-from_slice c.args.s.now cc) (λ x b q k. search (rules, tests)) ∙ sym (characters_all c.args.s.now))

pub returns-else-s-eq8 : goal.returns-else-s-eq8
unfolding is_label
returns-else-s-eq8 c = rw (ne_eqb _ _ c.if-s-eq8.false)
