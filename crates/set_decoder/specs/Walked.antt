-- What the decoder's contracts cite: what the walk makes of a tape; and the same over plain lists and numbers.
use Rattle.std.specs.Prelude.{◌≡◌, List, ℕ, ◌+◌, ◌≤◌}
use Rattle.paper.specs.Walk.{Tape}
use Rattle.walk_laws.specs.Together.{Decodes}
use Rattle.bits.specs.Bits.{tape_of}
use Rattle.set_decoder.specs.declared.tape.BitTape.{BitTape}

-- the tape on the paper
abbrev pub tape_at : BitTape → Tape
tape_at t = tape_of t.source.bytes.now t.source.count t.source.place t.place

-- from `entry` on, the walk f answers a and leaves off at `exit`, on the same bits
pub record Walked {A : Type 0} (f : Decodes A) (entry : BitTape) (a : A) (exit : BitTape) : Type 0 where
  pub is : f (tape_at entry) ≡ (a, tape_at exit)
  pub bytes : exit.source.bytes.now ≡ entry.source.bytes.now
  pub count : exit.source.count ≡ entry.source.count

-- ---- over plain lists and numbers
-- where a walk is: the next of the first b bits, b + 1 once one was missed, and the lowest place of the plane that is not settled
pub record Here : Type 0 where
  pub at : ℕ
  pub place : ℕ

abbrev pub here_of : BitTape → Here
here_of t = record { at = t.source.place; place = t.place }

-- from `here` on in the first b bits of bytes, the walk f answers a and leaves off `there`
pub record WalkedAt {A : Type 0} (f : Decodes A) (bytes : List ℕ) (b : ℕ) (here : Here) (a : A) (there : Here) : Type 0 where
  pub is : f (tape_of bytes b here.at here.place) ≡ (a, tape_of bytes b there.at there.place)
  pub near : there.at ≤ b + 1
