-- How large numbers may be so that a step of the 5/3 rule fits 32 bits, with a sign: a step adds up at most four of them.
use Rattle.std.specs.Prelude.{ℕ, ◌^◌}

abbrev pub step_limit : ℕ
step_limit = 2 ^ 29
