-- What the two jobs on records answer, in the numbers of the refusal table.
use Rattle.std.specs.Prelude.{List, ℕ, Result, Ok, Err}
use Rattle.paper.specs.Jobs.{Writing, Read, read_refused}
use Rattle.refusals.specs.declared.Refusal.{Refusal}
use Rattle.refusals.specs.Numbers.{number_of}
use Rattle.reader.specs.Answers.{ended_of}
use Rattle.record.specs.declared.Kept.{Kept}

-- how many blocks were written, or why none was; and the room afterwards
abbrev pub writing_answer : Result ℕ Refusal → List ℕ → Writing
writing_answer (Ok blocks) room = record { refusal = 0; blocks = blocks; room = room }
writing_answer (Err r) room = record { refusal = number_of r; blocks = 0; room = room }

-- what was read, or why nothing was, with 0 for all else; and the room afterwards
abbrev pub reading_answer : Result Kept Refusal → List ℕ → Read
reading_answer (Ok kept) room = record {
  refusal = 0;
  k = kept.k;
  L = kept.levels;
  n = kept.n;
  blocks = kept.blocks;
  bits = kept.bits;
  ended = ended_of kept.ended;
  edition = kept.edition;
  arm = kept.arm;
  mount = kept.mount;
  room = room;
}
reading_answer (Err r) room = read_refused room (number_of r)
