-- `read` is the reading job: refused by rows 6 and 7 or by block 0, or done by what the run keeps.
use Prim.Native.Nat.{ℕ}
use mathlib.Core.Path.{◌≡◌, sym, ◌∙◌}
use mathlib.Core.List.{List}
use native.Mathlib.Omega.{arith}
use lib.ListN.{length}
use Rattle.std.proofs.lemmas.Result.{err_from_is_err_and}
use Rattle.refusals.proofs.Numbers.{numbered}
use Rattle.reader.specs.Answers.{ended_of}
use Rattle.record.proofs.Reading.{lent_judged, lent_rows, lent_passed, lent_holds, read_refused_lem, kept_usable, read_done}
use Rattle.record.proofs.read.Goals as goal

-- rows 6 and 7 do not apply
abbrev Passed : List ℕ → List ℕ → List ℕ → Type 0
Passed blocks label room = lent_rows (length blocks) label (length room) ≡ 0

pub returns-in_err-run : goal.returns-in_err-run
returns-in_err-run c =
    let a = c.args in
    let passed : Passed a.blocks.now a.label.now a.room.now = sym (lent_judged a.blocks.now a.label.now a.room.now c.holds-fitting.ensures c.in_ok-judge_lent.ensures) in
    let p = err_from_is_err_and c.from_residual-in_err-run.result c.from_residual-in_err-run.ensures.1 in
    rw (p.1, p.2) (read_refused_lem a.blocks.now a.label.now a.room.now _ (lent_passed a.blocks.now a.label.now a.room.now passed ∙ sym c.in_err-run.ensures.refused) (numbered c.in_err-run.field-0.0))

pub bits_kept-bits-requires : goal.bits_kept-bits-requires
bits_kept-bits-requires c =
    let a = c.args in
    let run = c.in_ok-run.ensures.kept in
    let ok = kept_usable a.blocks.now a.label.now c.in_ok-run.run'.kept (ended_of c.in_ok-run.run'.ended) run.1 (λ i. (c.type_inv.blocks i).fits) in
    record { kept_nonzero = run.0; kept_le_numbered_blocks = ok.few; kept_bound = ok.whole }

pub copy_kept-requires : goal.copy_kept-requires
copy_kept-requires c =
    let a = c.args in
    let passed : Passed a.blocks.now a.label.now a.room.now = sym (lent_judged a.blocks.now a.label.now a.room.now c.holds-fitting.ensures c.in_ok-judge_lent.ensures) in
    let run = c.in_ok-run.ensures.kept in
    let ok = kept_usable a.blocks.now a.label.now c.in_ok-run.run'.kept (ended_of c.in_ok-run.run'.ended) run.1 (λ i. (c.type_inv.blocks i).fits) in
    let bits = c.bits_kept-bits.ensures in
    record { kept_nonzero = run.0; kept_bound = ok.whole; blocks_in_bounds = (lent_holds a.blocks.now a.label.now a.room.now passed).1; bits_value = bits; bits_bound = omega (arith, ok.most, bits); kept_le_numbered_blocks = ok.few }

pub returns : goal.returns
returns c =
    let a = c.args in
    let passed : Passed a.blocks.now a.label.now a.room.now = sym (lent_judged a.blocks.now a.label.now a.room.now c.holds-fitting.ensures c.in_ok-judge_lent.ensures) in
    let run = c.in_ok-run.ensures.kept in
    read_done a.blocks.now a.label.now c.in_ok-run.run'.kept (ended_of c.in_ok-run.run'.ended) run.1 a.room.now passed c.bits_kept-bits.result c.copy_kept.new.room run.0 c.bits_kept-bits.ensures c.copy_kept.ensures
    ∙ c.told.ensures c.copy_kept.new.room
