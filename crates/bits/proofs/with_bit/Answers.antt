-- The parts of the byte fit, whichever of its eight bits is put.
use native.Mathlib.Omega.{arith}
use Rattle.bits.proofs.OneBit.{fit, bit_one, bit_zero}
use Rattle.bits.proofs.with_bit.Goals as goal

pub nonzero_div-high : goal.nonzero_div-high
nonzero_div-high c = (fit c.args.k c.args.v c.requires c.ranges.v.fits).some_w

pub overflow_mul-high : goal.overflow_mul-high
overflow_mul-high c = let F = (fit c.args.k c.args.v c.requires c.ranges.v.fits) in record { fits = omega (arith, F.part) }

pub overflow_mul-high-2 : goal.overflow_mul-high-2
overflow_mul-high-2 c = let F = (fit c.args.k c.args.v c.requires c.ranges.v.fits) in record { fits = omega (arith, F.all) }

pub overflow_add-result : goal.overflow_add-result
overflow_add-result c = let F = (fit c.args.k c.args.v c.requires c.ranges.v.fits) in record { fits = omega (arith, F.all) }

pub returns-then-b : goal.returns-then-b
returns-then-b c = bit_one _ _ _ _ (fit c.args.k c.args.v c.requires c.ranges.v.fits) c.if-b.true

pub returns-else-b : goal.returns-else-b
returns-else-b c = bit_zero _ _ _ _ (fit c.args.k c.args.v c.requires c.ranges.v.fits) c.if-b.false
