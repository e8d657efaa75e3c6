-- `transform::to_numbers` meets its contract.
use mathlib.Core.Path.{ap, ◌∙◌}
use native.Mathlib.Omega.{arith}
use lib.ListN.{length}
use Rattle.paper.specs.Line.{line_forward}
use Rattle.paper.specs.Square.{levels_forward, numbers_of}
use Rattle.sizes.proofs.Ranges.{levels_few, levels_less}
use Rattle.square_laws.specs.Numbers.{length_lowered, numbers_in_lem}
use Rattle.transform.proofs.Fits.{picture_fits}
use Rattle.transform.proofs.to_numbers.Goals as goal

pub lower-requires : goal.lower-requires
lower-requires c = record { picture_len = c.requires.picture_len; xs_len = c.requires.numbers_len }

pub forward-requires : goal.forward-requires
forward-requires c =
    let a = c.args in
    let e = c.lower.ensures in
    let b = c.type_inv.picture in
    record { levels_le_size = omega (arith, levels_less a.size a.levels c.requires.levels_value); xs_len = ap length e ∙ length_lowered a.size a.picture.now; fitting = rw e (picture_fits a.size a.levels a.picture.now c.requires.levels_value (λ i. omega (arith, b i))) }

pub returns : goal.returns
unfolding numbers_of
returns c =
    let a = c.args in
    let b = c.type_inv.picture in
    let e = c.forward.ensures ∙ ap (levels_forward line_forward a.levels a.size) c.lower.ensures in
    record { numbers_after = e; numbers_after_2 = rw e (numbers_in_lem a.levels a.size a.picture.now (levels_few a.size a.levels c.requires.levels_value) (omega (arith, levels_less a.size a.levels c.requires.levels_value)) (λ i. omega (arith, b i))) }
