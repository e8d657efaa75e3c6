-- Which numbers a run and the reading job end with: 0, 8, 9 or 10.
use Rattle.std.specs.Prelude.{List}
use Rattle.std.proofs.Math.Path.{refl}
use Rattle.std.proofs.Common.{arith}
use Rattle.std.proofs.Math.Logic.{inl}
use Prim.Native.Nat.{ℕ, zero, suc}
use Rattle.paper.specs.Sizes.{judged}
use Rattle.paper.specs.Record.{whole_blocks, run_of}
use Rattle.paper.specs.Jobs.{Read, read_refused, reading_refusal, reading_job}
use Rattle.record_laws.specs.Ended.{Ended, ended_from}

module _ (s label : List ℕ) where
  pub run_ended_0_8_9_10 : Ended (run_of s label).ended
  run_ended_0_8_9_10 = ended_from s label (whole_blocks s) 0 (omega arith)

module _ (s label room : List ℕ) where
  ended_is : (r : ℕ) (done : Read) → Ended done.ended → Ended (judged r (read_refused room) done).ended
  ended_is zero done e = e
  ended_is (suc r) done e = inl refl

  pub read_ended_0_8_9_10 : Ended (reading_job s label room).ended
  unfolding reading_job
  read_ended_0_8_9_10 = ended_is (reading_refusal s label room) _ (run_ended_0_8_9_10 s label)
