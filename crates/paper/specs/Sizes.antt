-- Sizes and limits, each behind one name, and how a refusal is judged: the first row that applies, 0 if none.
use Rattle.std.specs.Prelude.{Bool, true, false, ◌&&◌, ℕ, zero, suc, ◌+◌, ◌*◌, ◌-◌, ◌/◌, ◌^◌, min, leb, ℤ, nat_abs, List, [], ◌∷◌}

-- the least and the largest k of a side 2 ^ k
abbrev pub least_size : ℕ
least_size = 3

abbrev pub most_size : ℕ
most_size = 8

-- the most levels, whatever the side
abbrev pub most_levels : ℕ
most_levels = 5

-- the largest magnitude of a wavelet number: below 2 ^ mostPlanes
abbrev pub number_limit : ℕ
number_limit = 262143

-- the most planes
abbrev pub most_planes : ℕ
most_planes = 18

-- k from 3 to 8
unfoldable pub size_in : ℕ → Bool
size_in k = leb least_size k && leb k most_size

-- L from 1 to the smaller of 5 and k - 1
unfoldable pub levels_in : ℕ → ℕ → Bool
levels_in k L = leb 1 L && leb L (min most_levels (k - 1))

-- r, how often a thumbnail halves the side: from 1 to L
unfoldable pub halvings_in : ℕ → ℕ → Bool
halvings_in L r = leb 1 r && leb r L

-- n at most 18
unfoldable pub planes_in : ℕ → Bool
planes_in n = leb n most_planes

-- no number beyond ±262,143
unfoldable pub numbers_in : List ℤ → Bool
numbers_in [] = true
numbers_in (x ∷ xs) = leb (nat_abs x) number_limit && numbers_in xs

-- the most bits of a coding: n (4 S² - 1) / 3 + S²
unfoldable pub most_bits : ℕ → ℕ → ℕ
most_bits k n = n * (4 * 4 ^ k - 1) / 3 + 4 ^ k

-- the most that a grey can be off with L levels and p planes unfinished, (7 L + 1) (2 ^ p - 1); two greys are never more than
-- 255 apart
unfoldable pub grey_limit : ℕ → ℕ → ℕ
grey_limit L p = min 255 ((7 * L + 1) * (2 ^ p - 1))

-- a row of the refusal table: its number unless the condition holds, else what the later rows say
abbrev pub unless : ℕ → Bool → ℕ → ℕ
unless r true later = later
unless r false later = r

-- what a job leaves and answers: `done` where no row applies (0), else what its refusal leaves and answers
abbrev pub judged : {A : Type 0} → ℕ → (ℕ → A) → A → A
judged zero refused done = done
judged (suc r) refused done = refused (suc r)
