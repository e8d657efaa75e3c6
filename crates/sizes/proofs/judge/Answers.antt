use Rattle.sizes.proofs.Refusals.{sizes_passed, size_refused, levels_refused}
use mathlib.Core.Path.{sym}
use Rattle.std.proofs.Common.{rules}
use Rattle.sizes.proofs.judge.Goals as goal

pub returns-then-not-size_in : goal.returns-then-not-size_in
returns-then-not-size_in c = sym (size_refused _ _ 0 (search rules))

pub returns-then-not-levels_in : goal.returns-then-not-levels_in
returns-then-not-levels_in c = sym (levels_refused _ _ 0 (search rules) (search rules))

pub returns : goal.returns
returns c = sym (sizes_passed _ _ 0 (search rules) (search rules))
