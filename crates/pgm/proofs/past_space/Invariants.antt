use Rattle.std.proofs.Common.{◌≡◌, ◌≤◌, false, length, drop}
use Prim.Native.Nat.{max}
use Rattle.pgm.specs.Header.{past_space}
use Rattle.pgm.proofs.past_space.Given as goal

abbrev pub invariant-loop-i : goal.invariant-loop-i
invariant-loop-i l = record {
  within : l.i ≤ max (length l.bytes) l.at;
  goes_on : past_space l.inside l.i (drop l.i l.bytes) ≡ past_space false l.at (drop l.at l.bytes);
}
