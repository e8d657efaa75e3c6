-- One line of the square: gathered, turned, scattered.
use mathlib.Core.Path.{◌≡◌, refl, sym, ap, ◌∙◌}
use mathlib.Core.Bool.{Bool}
use mathlib.Core.List.{List}
use mathlib.Core.Logic.{◌≢◌}
use Prim.Native.Nat.{ℕ, ◌+◌, ◌*◌, ◌/◌, ◌^◌, ◌<◌}
use native.Mathlib.Omega.{arith}
use borrow.Author.Count.{below_none, below_more}
use lib.Pow.{pow_pos}
use lib.ListN.{length, set, length-set}
use lib.Seq.{get_or-set_same, get_or-set_other}
use lib.IntN.{ℤ, pos}
use Rattle.paper.specs.Lists.{at}
use Rattle.paper.specs.Square.{place_of, line_of, spot_of, line}
use Rattle.line.specs.Each.{Each}
use Rattle.square_laws.specs.Grid.{place_below, line_of_place, spot_of_place, length_line, halved}
use Rattle.pass.specs.Turns.{Put}

-- what a gathered line x, with room y of its length, is handed on with
pub gathered : {B : ℕ} (j : ℕ) (down : Bool) (xs : List ℤ) (l : ℕ) (x y : List ℤ) → 0 < j → x ≡ line j down xs l → Each B (line j down xs l) → length y ≡ 2 ^ j
    → Each B x × ((length x ≡ 2 * (length x / 2)) × ((0 < length x) × (length y ≡ length x)))
gathered j down xs l x y h is E q =
    let side : length x ≡ 2 ^ j = ap length is ∙ length_line j down xs l in
    (rw is E, (omega (arith, halved j h), (omega (arith, pow_pos j), omega arith)))

-- ---- scattering
pub put_none : (j : ℕ) (down : Bool) (l : ℕ) (v old : List ℤ) → Put j down l 0 v old old
put_none j down l v old = record { size = refl; put = below_none (λ i. at old (place_of j down l i) ≡ at v i); kept = λ z h. refl }

pub put_more : (j : ℕ) (down : Bool) (l n : ℕ) (v old new : List ℤ) (w : ℤ) → l < 2 ^ j → n < 2 ^ j → length old ≡ 4 ^ j → Put j down l n v old new → w ≡ at v n → Put j down l (n + 1) v old (set new (place_of j down l n) w)
put_more j down l n v old new w h k e P q = record {
  size = length-set new (place_of j down l n) w ∙ P.size;
  put = below_more (λ i. at (set new (place_of j down l n) w) (place_of j down l i) ≡ at v i) n
      (λ i b. get_or-set_other new (place_of j down l n) (place_of j down l i) w (pos 0) (apart i b) ∙ P.put i b)
      (get_or-set_same new (place_of j down l n) w (pos 0) (omega (arith, place_below j down l n, P.size)) ∙ q);
  kept = λ z f. get_or-set_other new (place_of j down l n) z w (pos 0) (λ (r : z ≡ place_of j down l n). f (ap (line_of j down) r ∙ line_of_place j down l n h)) ∙ P.kept z f;
}
  where
    apart : (i : ℕ) → i < n → place_of j down l i ≢ place_of j down l n
    apart i b r =
        let s : i ≡ n = sym (spot_of_place j down l i (omega arith)) ∙ ap (spot_of j down) r ∙ spot_of_place j down l n k in
        omega arith

pub put_as : {j : ℕ} {down : Bool} {l n : ℕ} {v w old new : List ℤ} → v ≡ w → Put j down l n v old new → Put j down l n w old new
put_as e P = rw e at P
