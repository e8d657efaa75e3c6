-- What travels with a picture is settled by the contract itself, as the checker reads it from src/lib.rt (`Post` of its `Reads`): the line at
-- exit is the definition's, whatever the room that it has, and has the room that it had.
use mathlib.Core.Path.{◌≡◌}
use Prim.Native.Nat.{ℕ}
use denote.Triple.Clauses.{AtExit}
use contract.Lifetimes.{Lfts}
use borrow.Fn.World.{ArgsD, ResD}
use borrow.Fn.Kinds.{ended_of as endedAt}
use Rattle.words.specs.Line.{stands}
use Rattle.promise.specs.Promise.{promise_of}
use Rattle.promise.specs.contracts.promise as promise-fn
use Rattle.promise.proofs.promise.Kinds as promise-kinds
use Rattle.promise.proofs.promise.Reads as promise-contract

pub promise_says : (κs : Lfts 3) (a : ArgsD promise-fn.signature κs) (r : ResD promise-fn.signature κs) (s : AtExit (endedAt 3 promise-kinds.ps promise-kinds.r) κs)
    → promise-contract.Post κs a r s
    → (s.1.1.0.now.bytes.ghost_name ≡ a.1.1.0.now.bytes.ghost_name)
    × (promise_of a.0.now a.1.0.k a.1.0.levels a.1.0.halvings a.1.0.softer a.1.0.unfinished a.1.0.blocks (stands a.1.1.0.now) ≡ stands s.1.1.0.now)
promise_says κs a r s x = (x.0, x.1.0)
