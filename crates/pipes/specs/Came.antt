-- How many bytes came, also where a read failed after them.
use Rattle.std.specs.Prelude.{ℕ, Result, Ok, Err}
use Rattle.pipes.specs.declared.ReadFailed.{ReadFailed}

abbrev pub came : Result ℕ ReadFailed → ℕ
came (Ok count) = count
came (Err failed) = failed.count
