-- What a test of a set sees on plane p, with T = 2 ^ p.
use Rattle.std.specs.Prelude.{List, ℕ, suc, ◌^◌, ℤ}
use Rattle.paper.specs.Lists.{pick}
use Rattle.paper.specs.Walk.{reaches}
use Rattle.scan.specs.declared.Seen.{Seen}
use Rattle.scan.specs.declared.Seen.TheVariants.{Known, New, Closed}

-- Known: some magnitude is 2T or more; New: some is T or more, none 2T; Closed: all are below T
unfoldable pub seen_of : ℕ → List ℤ → Seen
seen_of p xs = pick (reaches (2 ^ suc p) xs) Known (pick (reaches (2 ^ p) xs) New Closed)
