-- Lists of which every place is said: the few words that the other sections share.
use Rattle.std.specs.Prelude.{Bool, true, false, List, [], ◌∷◌, ◌++◌, ℕ, zero, suc, ◌+◌, ◌-◌, ◌/◌, ◌<◌, length, get_or, drop, ℤ, pos}

-- f 0, f 1, .., f (n - 1)
unfoldable pub made : {A : Type 0} → ℕ → (ℕ → A) → List A
made zero f = []
made (suc n) f = f 0 ∷ made n (λ i. f (suc i))

-- the number at a place; past the end stands 0
abbrev pub at : List ℤ → ℕ → ℤ
at xs i = get_or xs i (pos 0)

-- bytes: each is below 256
abbrev pub Bytes : List ℕ → Type 0
Bytes s = (i : ℕ) → get_or s i 0 < 256

-- the lists f 0, f 1, .., f (n - 1), one behind the other
unfoldable pub joined : {A : Type 0} → ℕ → (ℕ → List A) → List A
joined zero f = []
joined (suc n) f = joined n f ++ f n

-- the list `front` laid over the front of `old`; what lies behind it is untouched
abbrev pub over : {A : Type 0} → List A → List A → List A
over front old = front ++ drop (length front) old

-- how many parts of m hold a
abbrev pub parts : ℕ → ℕ → ℕ
parts a m = (a + (m - 1)) / m

-- one of two
abbrev pub pick : {A : Type 0} → Bool → A → A → A
pick true a b = a
pick false a b = b
