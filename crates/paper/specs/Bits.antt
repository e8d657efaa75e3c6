-- Bits fill bytes from the high end.
use Rattle.std.specs.Prelude.{Bool, true, false, List, [], ◌∷◌, ◌++◌, ℕ, zero, suc, ◌+◌, drop}
use Rattle.paper.specs.Walk.{bit_of, worth}

-- the eight bits of a byte, highest first
abbrev pub byte_bits : ℕ → List Bool
byte_bits v = bit_of 7 v ∷ bit_of 6 v ∷ bit_of 5 v ∷ bit_of 4 v ∷ bit_of 3 v ∷ bit_of 2 v ∷ bit_of 1 v ∷ bit_of 0 v ∷ []

-- the bits of bytes
unfoldable pub bits : List ℕ → List Bool
bits [] = []
bits (v ∷ s) = byte_bits v ++ bits s

-- the first k bits of l, and zeros for those that are not there, as a number whose first bit is worth 2 ^ (k - 1)
unfoldable pub byte_of : ℕ → List Bool → ℕ
byte_of zero l = 0
byte_of (suc k) [] = 0
byte_of (suc k) (b ∷ l) = worth b k + byte_of k l

-- bits as n bytes; bits that are not there count as 0
unfoldable pub packed : ℕ → List Bool → List ℕ
packed zero l = []
packed (suc n) l = byte_of 8 l ∷ packed n (drop 8 l)

-- bits over the front of bytes: spare bits of the last byte written are 0, later bytes are untouched
unfoldable pub laid : List Bool → List ℕ → List ℕ
laid l [] = []
laid [] (v ∷ s) = v ∷ s
laid (b ∷ l) (v ∷ s) = byte_of 8 (b ∷ l) ∷ laid (drop 7 l) s

-- no bit is set
unfoldable pub all_zero : List Bool → Bool
all_zero [] = true
all_zero (true ∷ l) = false
all_zero (false ∷ l) = all_zero l
