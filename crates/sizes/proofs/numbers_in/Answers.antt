use mathlib.Core.Path.{◌∙◌}
use lib.Dec.{leb}
use lib.IntN.{nat_abs}
use Rattle.std.proofs.Common.{rules, tests}
use Rattle.std.proofs.lemmas.Iterator.{YieldsList-from_slice}
use Rattle.std.proofs.lemmas.Iterator.Search.{all_from_yields_List}
use Rattle.paper.specs.Sizes.{number_limit}
use Rattle.sizes.proofs.Numbers.{in_each}
use Rattle.sizes.proofs.numbers_in.Goals as goal

pub returns : goal.returns
returns c =
    let xs = c.args.xs.now in
    all_from_yields_List (λ x. leb (nat_abs x) number_limit) _ _ c.all.result c.all.ensures.ran (YieldsList-from_slice xs cc) (λ x b q k. search (rules, tests)) ∙ in_each xs
