-- The 5/3 rule on a line x of even length m. All divisions round towards minus infinity.
use Rattle.std.specs.Prelude.{ℕ, zero, suc, ◌+◌, ◌*◌, ◌-◌, ◌/◌, min, List, [], ◌∷◌, ◌++◌, length, ℤ, pos, ◌+ℤ◌, ◌-ℤ◌}
use Rattle.std.specs.Int.Signed.{shr_z}
use Rattle.paper.specs.Lists.{made, at}

-- floor (z / 2) and floor (z / 4)
abbrev pub floor_half : ℤ → ℤ
floor_half z = shr_z z 2

abbrev pub floor_quarter : ℤ → ℤ
floor_quarter z = shr_z z 4

-- a high number from its odd sample and the even ones left and right of it; and the odd sample back
unfoldable pub high_of : ℤ → ℤ → ℤ → ℤ
high_of odd left right = odd -ℤ floor_half (left +ℤ right)

unfoldable pub odd_of : ℤ → ℤ → ℤ → ℤ
odd_of high left right = high +ℤ floor_half (left +ℤ right)

-- a low number from its even sample and the high numbers before and after it; and the even sample back
unfoldable pub low_of : ℤ → ℤ → ℤ → ℤ
low_of even before after = even +ℤ floor_quarter (before +ℤ after +ℤ pos 2)

unfoldable pub even_of : ℤ → ℤ → ℤ → ℤ
even_of low before after = low -ℤ floor_quarter (before +ℤ after +ℤ pos 2)

-- high[i]; x[m] means x[m - 2]
unfoldable pub high_at : List ℤ → ℕ → ℤ
high_at x i = high_of (at x (2 * i + 1)) (at x (2 * i)) (at x (min (2 * i + 2) (length x - 2)))

-- low[i]; high[-1] means high[0], and 0 - 1 is 0 here
unfoldable pub low_at : List ℤ → ℕ → ℤ
low_at x i = low_of (at x (2 * i)) (high_at x (i - 1)) (high_at x i)

-- lows go to the first half of the line, highs to the second
unfoldable pub line_forward : List ℤ → List ℤ
line_forward x = made (length x / 2) (low_at x) ++ made (length x / 2) (high_at x)

-- x[2i] and x[2i + 1] from a line y of h lows and h highs
unfoldable pub even_at : List ℤ → ℕ → ℕ → ℤ
even_at y h i = even_of (at y i) (at y (h + (i - 1))) (at y (h + i))

unfoldable pub odd_at : List ℤ → ℕ → ℕ → ℤ
odd_at y h i = odd_of (at y (h + i)) (even_at y h i) (even_at y h (min (i + 1) (h - 1)))

-- f 0, g 0, f 1, g 1, .., f (n - 1), g (n - 1)
unfoldable pub woven : ℕ → (ℕ → ℤ) → (ℕ → ℤ) → List ℤ
woven zero f g = []
woven (suc n) f g = f 0 ∷ g 0 ∷ woven n (λ i. f (suc i)) (λ i. g (suc i))

-- the line back from its lows and highs
unfoldable pub line_back : List ℤ → List ℤ
line_back y = woven (length y / 2) (even_at y (length y / 2)) (odd_at y (length y / 2))
