-- Text as bytes, so that a definition can quote what it says: characters, and numbers in decimal.
use Rattle.std.specs.Prelude.{List, [], ◌∷◌, ◌++◌, ℕ, zero, suc, ◌+◌, ◌/◌, ◌%◌, ltb}
use Prim.Native.Char.{code}
use Prim.Native.String.{String, [] as empty, ◌∷◌ as ◌then◌}
use Rattle.paper.specs.Lists.{pick}

abbrev pub ascii : String → List ℕ
ascii empty = []
ascii (c then s) = code c ∷ ascii s

-- n in decimal, in at most `most` digits
unfoldable pub decimal : ℕ → ℕ → List ℕ
decimal zero n = []
decimal (suc most) n = pick (ltb n 10) ((48 + n) ∷ []) (decimal most (n / 10) ++ (48 + n % 10) ∷ [])
