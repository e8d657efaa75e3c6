-- What is said of a block is settled by the contracts themselves, as the checker reads them from src/lib.rt (`Post` of their `Reads`): the line at
-- exit is the definition's, whatever the room that it has, and has the room that it had.
use mathlib.Core.Path.{◌≡◌}
use denote.Triple.Clauses.{AtExit}
use contract.Lifetimes.{Lfts}
use borrow.Fn.World.{ArgsD, ResD}
use borrow.Fn.Kinds.{ended_of as endedAt}
use Rattle.words.specs.Line.{stands}
use Rattle.faults.specs.Faults.{ended_of, refused_of}
use Rattle.faults.specs.contracts.ended as ended-fn
use Rattle.faults.proofs.ended.Kinds as ended-kinds
use Rattle.faults.proofs.ended.Reads as ended-contract
use Rattle.faults.specs.contracts.refused as refused-fn
use Rattle.faults.proofs.refused.Kinds as refused-kinds
use Rattle.faults.proofs.refused.Reads as refused-contract

pub ended_says : (κs : Lfts 4) (a : ArgsD ended-fn.signature κs) (r : ResD ended-fn.signature κs) (s : AtExit (endedAt 4 ended-kinds.ps ended-kinds.r) κs)
    → ended-contract.Post κs a r s
    → (s.1.1.1.1.0.now.bytes.ghost_name ≡ a.1.1.1.1.0.now.bytes.ghost_name)
    × (ended_of a.0 a.1.0.now a.1.1.0.now a.1.1.1.0 (stands a.1.1.1.1.0.now) ≡ stands s.1.1.1.1.0.now)
ended_says κs a r s x = (x.0, x.1.0)

pub refused_says : (κs : Lfts 4) (a : ArgsD refused-fn.signature κs) (r : ResD refused-fn.signature κs) (s : AtExit (endedAt 4 refused-kinds.ps refused-kinds.r) κs)
    → refused-contract.Post κs a r s
    → (s.1.1.1.0.now.bytes.ghost_name ≡ a.1.1.1.0.now.bytes.ghost_name)
    × (refused_of a.0 a.1.0.now a.1.1.0.now (stands a.1.1.1.0.now) ≡ stands s.1.1.1.0.now)
refused_says κs a r s x = x
