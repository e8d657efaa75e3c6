-- The 5/3 rule is a rule of lines, and is undone.
use Rattle.paper.specs.Line.{line_forward, line_back}
use Rattle.line.specs.Rule.{Rule, Undoes}
use Rattle.line.proofs.Lines.{length_forward, line_undone, forward_each, back_each}
use Rattle.line.proofs.Near.{line_near}

abbrev pub five_three : Rule
five_three = record {
  forward = line_forward;
  back = line_back;
  grows = λ M h x e. forward_each x;
  zeros = λ h y. back_each {M = 0} y h;
  near = λ h a e xs ys p q N. line_near h a e xs ys N p q;
}

pub five_three_undoes : Undoes five_three
five_three_undoes = record { keeps = λ h x. length_forward x h; undone = λ h x. line_undone x h }
