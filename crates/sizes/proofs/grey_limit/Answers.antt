use native.Mathlib.Omega.{arith}
use Rattle.sizes.proofs.GreyLimit.{grey_exact, grey_many_planes, grey_many_levels, grey_few, grey_capped}
use Rattle.sizes.proofs.grey_limit.Goals as goal

pub returns-then-unfinished-eq0 : goal.returns-then-unfinished-eq0
returns-then-unfinished-eq0 c = grey_exact _ _ c.if-unfinished-eq0.true

pub returns-then-unfinished-ge8 : goal.returns-then-unfinished-ge8
returns-then-unfinished-ge8 c = grey_many_planes _ _ c.if-unfinished-ge8.true

pub returns-then-levels-ge37 : goal.returns-then-levels-ge37
returns-then-levels-ge37 c = grey_many_levels _ _ c.if-unfinished-eq0.false c.if-levels-ge37.true

pub overflow_sub-limit : goal.overflow_sub-limit
overflow_sub-limit c = let h = grey_few _ _ c.if-unfinished-ge8.false c.if-levels-ge37.false in rw h.power (omega arith)

pub overflow_mul-limit-2 : goal.overflow_mul-limit-2
overflow_mul-limit-2 c = let h = grey_few _ _ c.if-unfinished-ge8.false c.if-levels-ge37.false in rw h.power (omega (arith, h.fits))

pub returns : goal.returns
returns c = grey_capped _ _ (grey_few _ _ c.if-unfinished-ge8.false c.if-levels-ge37.false) _ c.min.ensures
