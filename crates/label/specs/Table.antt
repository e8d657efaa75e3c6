-- The refusal table, as rows of which some apply: what it means to refuse by the lowest, or by the first that is judged.
use Rattle.std.specs.Prelude.{◌≡◌, Bool, true, false, ◌&&◌, ℕ, ◌*◌, ◌-◌, ◌^◌, ◌<◌, ◌≤◌, leb, ltb, eqb, ℤ, length, take}
use mathlib.Core.List.{List, [], ◌∷◌, ◌++◌, Memᴰ}
use Rattle.paper.specs.Sizes.{size_in, levels_in, halvings_in, planes_in, numbers_in, most_bits}
use Rattle.paper.specs.Block.{block_bytes, is_label, Origin, edition_in, origin_in, checks_right, contents_right}
use Rattle.paper.specs.Record.{blocks_for, whole_blocks, block_at, said, in_turn}
use Rattle.paper.specs.Jobs.{is_square, room_bytes}

-- a row: its number, and whether what it asks holds; it applies where that does not hold
pub record Row : Type 0 where
  pub number : ℕ
  pub holds : Bool

abbrev pub row : ℕ → Bool → Row
row r asked = record { number = r; holds = asked }

-- r is the lowest number of the rows that apply, and 0 exactly where none does
pub record Lowest (rows : List Row) (r : ℕ) : Type 0 where
  pub none : r ≡ 0 → {w : Row} → Memᴰ w rows → w.holds ≡ true
  pub least : {w : Row} → Memᴰ w rows → w.holds ≡ false → (0 < r) × (r ≤ w.number)
  pub applies : 0 < r → (w : Row) × Memᴰ w rows × (w.holds ≡ false) × (w.number ≡ r)

-- r is the number of the first row that applies, in the order in which the rows stand, and 0 exactly where none does; a job whose
-- rows do not stand by number is judged so
pub record First (rows : List Row) (r : ℕ) : Type 0 where
  pub none : r ≡ 0 → {w : Row} → Memᴰ w rows → w.holds ≡ true
  pub applies : 0 < r → (before : List Row) × (w : Row) × (after : List Row) × (rows ≡ before ++ (w ∷ after)) × ((v : Row) → Memᴰ v before → v.holds ≡ true) × (w.holds ≡ false) × (w.number ≡ r)

-- the numbers whose refusal, whatever the job, leaves something behind in what was lent; today there is none
abbrev pub leaves_something : ℕ → Bool
leaves_something r = false

-- a job refuses by its rows, by the `Lowest` or by the `First` that applies, and then it is as `refused` says, which answers 0 for all
-- else and holds every lent place as it was
pub record Refuses {A : Type 0} (Judged : List Row → ℕ → Type 0) (refusalOf : A → ℕ) (rows : List Row) (job : A) (refused : ℕ → A) : Type 0 where
  pub number : Judged rows (refusalOf job)
  pub unchanged : 0 < refusalOf job → leaves_something (refusalOf job) ≡ false → job ≡ refused (refusalOf job)

-- ---- the rows that each job judges
abbrev pub forward_rows : ℕ → ℕ → List ℕ → List ℤ → List Row
forward_rows k L picture numbers =
    row 1 (size_in k) ∷ row 2 (levels_in k L) ∷ row 3 (is_square k (length picture) && is_square k (length numbers)) ∷ []

abbrev pub coding_rows : ℕ → ℕ → List ℤ → List Row
coding_rows k L numbers = row 1 (size_in k) ∷ row 2 (levels_in k L) ∷ row 3 (is_square k (length numbers)) ∷ row 4 (numbers_in numbers) ∷ []

abbrev pub decoding_rows : ℕ → ℕ → ℕ → List ℤ → List ℕ → ℕ → List Row
decoding_rows k L n numbers bytes b =
    row 1 (size_in k) ∷ row 2 (levels_in k L) ∷ row 3 (is_square k (length numbers)) ∷ row 5 (planes_in n) ∷ row 6 (leb b (8 * length bytes)) ∷ []

abbrev pub inverse_rows : ℕ → ℕ → List ℤ → List ℕ → List ℤ → List Row
inverse_rows k L numbers picture room =
    row 1 (size_in k) ∷ row 2 (levels_in k L)
    ∷ row 3 (is_square k (length numbers) && is_square k (length picture) && is_square k (length room)) ∷ row 4 (numbers_in numbers) ∷ []

abbrev pub display_rows : ℕ → ℕ → ℕ → ℕ → List ℤ → List ℕ → List ℤ → List Row
display_rows k L p place numbers picture room =
    row 1 (size_in k) ∷ row 2 (levels_in k L)
    ∷ row 3 (is_square k (length numbers) && is_square k (length picture) && is_square k (length room)) ∷ row 4 (numbers_in numbers)
    ∷ row 5 (planes_in p) ∷ row 11 (ltb place (4 ^ k)) ∷ []

-- 13 is judged after 2 and before 3
abbrev pub thumbnail_rows : ℕ → ℕ → ℕ → List ℤ → List ℕ → List ℤ → List Row
thumbnail_rows k L r numbers picture room =
    row 1 (size_in k) ∷ row 2 (levels_in k L) ∷ row 13 (halvings_in L r)
    ∷ row 3 (is_square k (length numbers) && is_square (k - r) (length picture) && is_square (k - r) (length room)) ∷ row 4 (numbers_in (take (4 ^ (k - r)) numbers)) ∷ []

-- 9 stands twice: the edition is judged before 6, arm and mount in their number's order
abbrev pub writing_rows : ℕ → ℕ → ℕ → Origin → List ℕ → List ℕ → ℕ → List ℕ → List Row
writing_rows k L n o label bytes b room =
    row 1 (size_in k) ∷ row 2 (levels_in k L) ∷ row 5 (planes_in n) ∷ row 9 (edition_in o.edition)
    ∷ row 6 (leb b (8 * length bytes) && leb b (most_bits k n) && leb (block_bytes * blocks_for o.edition b) (length room)) ∷ row 7 (is_label label) ∷ row 9 (origin_in o) ∷ []

abbrev pub reading_rows : List ℕ → List ℕ → List ℕ → List Row
reading_rows s label room =
    row 6 (leb block_bytes (length s) && leb (room_bytes * whole_blocks s) (length room)) ∷ row 7 (is_label label)
    ∷ row 8 (checks_right (block_at s 0)) ∷ row 9 (contents_right (block_at s 0)) ∷ row 10 (in_turn (said (block_at s 0)) label 0 (block_at s 0)) ∷ []

abbrev pub check_rows : List ℕ → List Row
check_rows block = row 6 (eqb (length block) block_bytes) ∷ row 8 (checks_right block) ∷ row 9 (contents_right block) ∷ []
