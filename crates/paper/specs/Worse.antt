-- The sixth slip: claiming that greys, like numbers, only improve. It is false, by an example: a flat picture but for one
-- grey. Its first three bits settle a low number, and a grey that was right is off by one.
use Rattle.std.specs.Prelude.{List, ◌∷◌, ℕ, ◌+◌, ◌-◌, ◌≤◌, take, replicate, get_or, ℤ, pos, nat_abs, ◌-ℤ◌}
use Rattle.std.proofs.Common.{arith}
use Rattle.paper.specs.Lists.{made, at}
use Rattle.paper.specs.Line.{high_of, low_of, odd_of, even_of, high_at, low_at, even_at, odd_at, woven, line_forward, line_back}
use Rattle.paper.specs.Places.{interleaved, column_of, row_of, z_of, raster_of}
use Rattle.paper.specs.Square.{place_of, line_of, spot_of, line, along, level_forward, level_back, on_first, levels_forward, levels_back, lowered, raised, grey, pictured, numbers_of, greys_of}
use Rattle.paper.specs.Walk.{bit_of, reaches, largest, bits_needed, plane_count, test_set, refined, begun, walk_number, ◌next◌, walk_numbers, walk_set, walk_rest, walk_plane, walk_planes, code_of, decode_of, unread_at}
use Rattle.paper.specs.Softer.{half_of, moved_up, softened}

-- what the first b bits of a picture of side 8, two levels, show at a raster place
abbrev shown : List ℕ → ℕ → ℕ → ℕ
shown picture place b =
    let numbers = numbers_of 3 2 picture in
    get_or (pictured 3 (greys_of 3 2 (decode_of 3 2 (plane_count numbers) (take b (code_of 3 2 numbers))).numbers)) place 0

-- how far that is from the true grey
abbrev off : List ℕ → ℕ → ℕ → ℕ
off picture place b = (shown picture place b - get_or picture place 0) + (get_or picture place 0 - shown picture place b)

unfoldable pub OnlyImprove : Type 0
OnlyImprove = (picture : List ℕ) (place b c : ℕ) → b ≤ c → off picture place c ≤ off picture place b

-- 128 everywhere but beside the first grey
abbrev flat : List ℕ
flat = 128 ∷ 129 ∷ replicate 62 128

pub greys_may_worsen : OnlyImprove → ⊥
unfolding OnlyImprove made high_of low_of odd_of even_of high_at low_at even_at odd_at woven line_forward line_back interleaved column_of row_of z_of raster_of place_of line_of spot_of line along level_forward level_back on_first levels_forward levels_back lowered raised grey pictured numbers_of greys_of bit_of reaches largest bits_needed plane_count test_set refined begun walk_number ◌next◌ walk_numbers walk_set walk_rest walk_plane walk_planes code_of decode_of
greys_may_worsen claim = let worse : 1 ≤ 0 = claim flat 0 0 3 (omega arith) in omega arith

-- ---- a slip of the same kind: claiming that numbers shown softer only improve. Of 6, the first three bits leave 4, which is shown as 6,
-- and the next five leave 6, which is shown as 7.
-- how far number i, as it is shown of the first b bits, is from the true one
abbrev shown_off : List ℤ → ℕ → ℕ → ℕ
shown_off numbers i b =
    let s = decode_of 3 2 (plane_count numbers) (take b (code_of 3 2 numbers)) in
    nat_abs (at numbers i -ℤ at (softened s.unfinished s.place s.numbers) i)

unfoldable pub ShownOnlyImprove : Type 0
ShownOnlyImprove = (numbers : List ℤ) (i b c : ℕ) → b ≤ c → shown_off numbers i c ≤ shown_off numbers i b

pub shown_may_worsen : ShownOnlyImprove → ⊥
unfolding ShownOnlyImprove made bit_of reaches largest bits_needed plane_count test_set refined begun walk_number ◌next◌ walk_numbers walk_set walk_rest walk_plane walk_planes code_of decode_of unread_at half_of moved_up softened
shown_may_worsen claim = let worse : 1 ≤ 0 = claim (pos 6 ∷ replicate 63 (pos 0)) 0 3 8 (omega arith) in omega arith
