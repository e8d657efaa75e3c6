-- L levels are undone where a line is: levelsBack gives back what levelsForward was given.
use Rattle.std.specs.Prelude.{◌≡◌, refl, Bool, true, false, List, ℕ, zero, suc, ◌-◌, ◌^◌, ◌<◌, ◌≤◌, length, take, drop, ℤ, pos}
use Rattle.std.proofs.Common.{sym, ap, ◌∙◌, arith, take-append-drop, ext_get_or, take_at, drop_at, length-take-le}
use Rattle.paper.specs.Square.{line, along, level_forward, level_back, on_first, levels_forward, levels_back}
use Rattle.line.specs.Rule.{Rule, Undoes}
use Rattle.square_laws.specs.Grid.{length_line, at_line, length_along, at_along, same_square, length_first, halved, quarter_le}

-- ---- a pass along the lines
module _ (f g : List ℤ → List ℤ) (j : ℕ) (down : Bool) (keeps : (ys : List ℤ) → length ys ≡ 2 ^ j → length (f ys) ≡ 2 ^ j) (undo : (ys : List ℤ) → length ys ≡ 2 ^ j → g (f ys) ≡ ys) where
  line_along : (xs : List ℤ) (l : ℕ) → l < 2 ^ j → line j down (along f j down xs) l ≡ f (line j down xs l)
  line_along xs l h = ext_get_or (pos 0) _ _ (length_line j down _ l ∙ sym (keeps (line j down xs l) (length_line j down xs l)))
      (λ i k. let b : i < 2 ^ j = omega (arith, length_line j down (along f j down xs) l) in at_line j down (along f j down xs) l i b ∙ at_along f j down xs l i h b)

  along_undone : (xs : List ℤ) → length xs ≡ 4 ^ j → along g j down (along f j down xs) ≡ xs
  along_undone xs e = same_square j down _ xs (length_along g j down _) e
      (λ l i h k. at_along g j down (along f j down xs) l i h k ∙ rw (line_along xs l h, undo (line j down xs l) (length_line j down xs l)) (at_line j down xs l i k))

-- ---- a level
pub length_level : (f : List ℤ → List ℤ) (j : ℕ) (xs : List ℤ) → length (level_forward f j xs) ≡ 4 ^ j
unfolding level_forward
length_level f j xs = length_along f j true _

pub length_level_back : (g : List ℤ → List ℤ) (j : ℕ) (xs : List ℤ) → length (level_back g j xs) ≡ 4 ^ j
unfolding level_back
length_level_back g j xs = length_along g j false _

pub level_undone : {R : Rule} → Undoes R → (j : ℕ) → 0 < j → (xs : List ℤ) → length xs ≡ 4 ^ j → level_back R.back j (level_forward R.forward j xs) ≡ xs
unfolding level_back level_forward
level_undone {R} U j h xs e =
    ap (along R.back j false) (along_undone R.forward R.back j true keeps undo (along R.forward j false xs) (length_along R.forward j false xs))
    ∙ along_undone R.forward R.back j false keeps undo xs e
  where
    keeps : (ys : List ℤ) → length ys ≡ 2 ^ j → length (R.forward ys) ≡ 2 ^ j
    keeps ys q = U.keeps (2 ^ (j - 1)) ys (q ∙ halved j h) ∙ sym (halved j h)

    undo : (ys : List ℤ) → length ys ≡ 2 ^ j → R.back (R.forward ys) ≡ ys
    undo ys q = U.undone (2 ^ (j - 1)) ys (q ∙ halved j h)

-- ---- levels
pub length_levels : (f : List ℤ → List ℤ) (L k : ℕ) (xs : List ℤ) → length xs ≡ 4 ^ k → length (levels_forward f L k xs) ≡ 4 ^ k
unfolding levels_forward
length_levels f zero k xs e = e
length_levels f (suc L) k xs e =
    let q : 4 ^ (k - 1) ≤ length (level_forward f k xs) = omega (arith, quarter_le k, length_level f k xs) in
    length_first (4 ^ (k - 1)) (levels_forward f L (k - 1)) (level_forward f k xs) q (length_levels f L (k - 1) _ (length-take-le (4 ^ (k - 1)) (level_forward f k xs) q)) ∙ length_level f k xs

pub length_levels_back : (g : List ℤ → List ℤ) (L k : ℕ) (ys : List ℤ) → length ys ≡ 4 ^ k → length (levels_back g L k ys) ≡ 4 ^ k
unfolding levels_back
length_levels_back g zero k ys e = e
length_levels_back g (suc L) k ys e = length_level_back g k _

first_undone : (n : ℕ) (f g : List ℤ → List ℤ) (xs : List ℤ) → length (f (take n xs)) ≡ n → g (f (take n xs)) ≡ take n xs → on_first n g (on_first n f xs) ≡ xs
unfolding on_first
first_undone n f g xs e u = rw (take_at (f (take n xs)) (drop n xs) n e, drop_at (f (take n xs)) (drop n xs) n e, u) (take-append-drop n xs)

pub levels_undone : {R : Rule} → Undoes R → (L k : ℕ) → L ≤ k → (xs : List ℤ) → length xs ≡ 4 ^ k → levels_back R.back L k (levels_forward R.forward L k xs) ≡ xs
unfolding levels_forward levels_back
levels_undone U zero k h xs e = refl
levels_undone {R} U (suc L) k h xs e =
    let n = 4 ^ (k - 1) in
    let ys = level_forward R.forward k xs in
    let q : n ≤ length ys = omega (arith, quarter_le k, length_level R.forward k xs) in
    let t : length (take n ys) ≡ n = length-take-le n ys q in
    ap (level_back R.back k) (first_undone n (levels_forward R.forward L (k - 1)) (levels_back R.back L (k - 1)) ys (length_levels R.forward L (k - 1) _ t) (levels_undone U L (k - 1) (omega arith) _ t))
    ∙ level_undone U k (omega arith) xs e
