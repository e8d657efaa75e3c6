-- What decode says of a picture is settled by the contract itself, as the checker reads it from src/lib.rt (`Post` of its `Reads`): the line at
-- exit is the definition's, whatever the room that it has, and has the room that it had.
use mathlib.Core.Path.{◌≡◌}
use Prim.Native.Nat.{ℕ}
use denote.Triple.Clauses.{AtExit}
use contract.Lifetimes.{Lfts}
use borrow.Fn.World.{ArgsD, ResD}
use borrow.Fn.Kinds.{ended_of as endedAt}
use Rattle.words.specs.Line.{stands}
use Rattle.verdict.specs.Verdict.{report_of}
use Rattle.verdict.specs.contracts.report as report-fn
use Rattle.verdict.proofs.report.Kinds as report-kinds
use Rattle.verdict.proofs.report.Reads as report-contract

pub report_says : (κs : Lfts 4) (a : ArgsD report-fn.signature κs) (r : ResD report-fn.signature κs) (s : AtExit (endedAt 4 report-kinds.ps report-kinds.r) κs)
    → report-contract.Post κs a r s
    → (s.1.1.1.1.1.0.now.bytes.ghost_name ≡ a.1.1.1.1.1.0.now.bytes.ghost_name)
    × (report_of a.0.now a.1.0.k a.1.0.levels a.1.0.halvings a.1.0.softer (record { edition = a.1.1.0.edition; arm = a.1.1.0.arm; mount = a.1.1.0.mount }) a.1.1.1.0.planes a.1.0.blocks a.1.1.1.0.bits a.1.0.unfinished a.1.1.1.0.place a.1.1.1.1.0.now (stands a.1.1.1.1.1.0.now)
    ≡ stands s.1.1.1.1.1.0.now)
report_says κs a r s x = x
