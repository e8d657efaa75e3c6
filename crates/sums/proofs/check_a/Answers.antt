-- `check_a` is the definition's sum. Assumes nothing.
use Rattle.std.proofs.Common.{rules, ap, ◌∙◌, sym, ℕ, ◌%◌, ◌≡◌}
use Rattle.std.specs.List.{sum_by}
use Rattle.sums.proofs.Laws.{plain_is_sum}
use Rattle.sums.proofs.check_a.Goals as goal

pub returns : goal.returns
returns c = let e : c.sum.result ≡ sum_by (λ v. v) c.args.s.now = search rules in ap (λ (n : ℕ). n % 65521) (e ∙ sym (plain_is_sum c.args.s.now))
