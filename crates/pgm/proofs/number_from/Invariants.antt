use Rattle.std.proofs.Common.{◌≡◌, ◌≤◌, length, drop}
use Prim.Native.Nat.{max}
use Rattle.pgm.specs.Header.{most_number, number_from}
use Rattle.pgm.proofs.number_from.Given as goal

abbrev pub invariant-loop-i : goal.invariant-loop-i
invariant-loop-i l = record {
  within : l.i ≤ max (length l.bytes) l.at;
  low : l.value ≤ most_number;
  goes_on : number_from l.value l.i (drop l.i l.bytes) ≡ number_from 0 l.at (drop l.at l.bytes);
}
