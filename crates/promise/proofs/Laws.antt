-- The promise ends within its room, so that it can be lent on.
use mathlib.Core.Bool.{Bool}
use mathlib.Core.List.{List}
use Prim.Native.Nat.{ℕ}
use Rattle.words.specs.Line.{Line}
use Rattle.words.proofs.Laws.{Inside, puts_inside}
use Rattle.promise.specs.Promise.{promise_of}

pub promise_inside : (line : Line) (label : List ℕ) (k L r : ℕ) (softer : Bool) (p blocks : ℕ) → Inside line → Inside (promise_of label k L r softer p blocks line)
unfolding promise_of
promise_inside line label k L r softer p blocks h =
    puts_inside _ _ (puts_inside _ _ (puts_inside _ _ (puts_inside _ _ (puts_inside _ _ (puts_inside _ _ (puts_inside _ _ (puts_inside _ _ (puts_inside _ _ (puts_inside _ _ (puts_inside line _ h))))))))))
