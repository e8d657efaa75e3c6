-- `unused_zero` is the definition's test: each bit from the count-th on. Assumes nothing.
use Rattle.std.proofs.Common.{rules, tests, refl, ◌∙◌, ◌*◌, ◌-◌, false, length, get_or}
use mathlib.Core.Bool.{not}
use Rattle.std.proofs.lemmas.Iterator.{YieldsList-from_range}
use Rattle.std.proofs.lemmas.Iterator.Search.{all_from_yields_List}
use Rattle.paper.specs.Bits.{bits}
use Rattle.bits.proofs.OneBit.{bits_length}
use Rattle.fields.proofs.Bytewise.{unused_all}
use Rattle.fields.proofs.unused_zero.Goals as goal

pub returns : goal.returns
returns c =
    let l = bits c.args.payload.now in
    let end = 8 * length c.args.payload.now in
    all_from_yields_List (λ at. not (get_or l at false)) _ _ _ c.all.ensures.ran (YieldsList-from_range c.args.count end (end - c.args.count) (cc) refl) (λ x b q k. search (rules, tests))
    ∙ unused_all (end - c.args.count) l c.args.count (rw bits_length)
