-- `levels::back_in` meets its contract. The measure is the count of levels.
use mathlib.Core.Path.{◌≡◌, refl}
use Prim.Native.Nat.{◌-◌, ◌/◌, ◌^◌}
use native.Mathlib.Omega.{arith}
use lib.ListN.{length}
use Rattle.paper.specs.Line.{line_back}
use Rattle.paper.specs.Square.{levels_back}
use Rattle.line.proofs.FiveThree.{five_three}
use Rattle.levels.proofs.Quarters.{quarter, part, back_left, back_fits, back_is}
use borrow.Author.Rules.{rules}
use Rattle.levels.proofs.+back_in.Goals as goal

pub returns-then-levels-eq0 : goal.returns-then-levels-eq0
unfolding levels_back
returns-then-levels-eq0 t c = rw c.if-levels-eq0.true

pub back_in-requires : goal.back_in-requires
back_in-requires t c =
    let k = c.args.size in
    let q : length c.args.xs.now / 4 ≡ 4 ^ c.half.result = rw c.half.ensures (quarter k (length c.args.xs.now) (omega arith) c.requires.xs_len) in
    (omega (arith, c.half.ensures), (omega arith, (part _ _ _ q (omega arith), back_left k c.args.levels c.args.xs.now (omega arith) c.requires.fitting (length c.args.xs.now / 4))))

pub level_back-requires : goal.level_back-requires
level_back-requires t c =
    let k = c.args.size in
    let q : length c.args.xs.now / 4 ≡ 4 ^ (k - 1) = quarter k (length c.args.xs.now) (omega arith) c.requires.xs_len in
    let f = back_fits five_three k c.args.levels c.args.xs.now _ _ (length c.args.xs.now / 4) (omega arith) (omega arith) c.requires.xs_len q c.requires.fitting (rw c.half.ensures at c.back_in.ensures) refl in
    record { size_nonzero = omega arith; xs_len = search rules; each = f.0; each_2 = f.1 }

pub returns : goal.returns
returns t c =
    let k = c.args.size in
    let q : length c.args.xs.now / 4 ≡ 4 ^ (k - 1) = quarter k (length c.args.xs.now) (omega arith) c.requires.xs_len in
    back_is line_back k c.args.levels c.args.xs.now _ _ _ (length c.args.xs.now / 4) (omega arith) q (rw c.half.ensures at c.back_in.ensures) refl c.level_back.ensures
