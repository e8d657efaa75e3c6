use mathlib.Core.Path.{◌≡◌}
use mathlib.Core.List.{◌++◌}
use Prim.Native.Nat.{suc, ◌^◌, ◌<◌}
use lib.ListN.{length, drop}
use Rattle.pgm.specs.Ascii.{decimal}
use Rattle.words.proofs.Line.put_number.Given as goal

-- the digits from place first on are yet to be written, of the rest, and behind it they stand
abbrev pub invariant-loop-rest : goal.invariant-loop-rest
invariant-loop-rest l = record {
  room : length l.digits ≡ 20;
  within : l.first < 20;
  fits : l.rest < 10 ^ suc l.first;
  stands : decimal 20 l.number ≡ decimal (suc l.first) l.rest ++ drop (suc l.first) l.digits;
}

abbrev pub decreases-loop-rest : goal.decreases-loop-rest
decreases-loop-rest l = l.rest
