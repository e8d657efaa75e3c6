-- One byte more of each of the header's loops, whose state goes on from place i, and the end of the bytes; the line end found.
use mathlib.Core.Path.{◌≡◌, refl, sym, ◌∙◌}
use mathlib.Core.Bool.{Bool, true, false}
use mathlib.Core.List.{List, [], ◌∷◌}
use Prim.Native.Nat.{ℕ, ◌+◌, ◌<◌, ◌≤◌}
use native.Mathlib.Numerals.{add-one}
use Rattle.std.proofs.Math.Nat.{add_assoc}
use native.Mathlib.Omega.{arith}
use lib.ListN.{length, drop, get_or}
use lib.Seq.{take-length}
use Rattle.std.proofs.lemmas.List.{length-drop, at_drop_more, at_drop_all}
use Rattle.std.specs.Prelude.{Option, option_map, slice_range}
use Rattle.std.specs.List.{position, position_from}
use Rattle.std.proofs.lemmas.Iterator.Adapters.{position_from-zero}
use Rattle.pgm.specs.Header.{is_line_end, is_digit, is_passed, is_inside, past_space, past_line, most_number, with_digit, number_from}

-- ---- white space and comments
module _ (s : List ℕ) (inside : Bool) (i : ℕ) where
  pub space_stops : i < length s → is_passed inside (get_or s i 0) ≡ false → past_space inside i (drop i s) ≡ i
  unfolding past_space
  space_stops h e = at_drop_more (past_space inside i) s i 0 h ∙ rw e

  pub space_goes : i < length s → is_passed inside (get_or s i 0) ≡ true → past_space (is_inside inside (get_or s i 0)) (i + 1) (drop (i + 1) s) ≡ past_space inside i (drop i s)
  unfolding past_space
  space_goes h e = sym (at_drop_more (past_space inside i) s i 0 h ∙ rw (e, ← add-one i))

  pub space_ends : length s ≤ i → past_space inside i (drop i s) ≡ i
  unfolding past_space
  space_ends h = at_drop_all (past_space inside i) s i h

-- ---- the line end
-- the first line end, where `before` of its line have been read
line_from : (s : List ℕ) (at before : ℕ) → past_line (at + before) s ≡ option_map (λ n. at + n + 1) (position_from is_line_end before s)
unfolding past_line
line_from [] at before = refl
line_from (c ∷ s) at before = go (is_line_end c) refl (line_from s at (before + 1))
  where
    go : (b : Bool) → is_line_end c ≡ b → past_line (at + (before + 1)) s ≡ option_map (λ n. at + n + 1) (position_from is_line_end (before + 1) s) → past_line (at + before) (c ∷ s) ≡ option_map (λ n. at + n + 1) (position_from is_line_end before (c ∷ s))
    go true e later = rw (e, add-one (at + before))
    go false e later = rw (e, ← add-one (at + before), add_assoc at before 1) later

-- in what the bytes hold from `at` on: it is as many bytes on as stand before the line end, and the line end
pub line_found : (s part : List ℕ) (at : ℕ) (before : Option ℕ) → part ≡ slice_range s at (length s) → before ≡ position is_line_end part → past_line at (drop at s) ≡ option_map (λ n. at + n + 1) before
line_found s part at before p b =
    let from : at + 0 ≡ at = omega arith in
    let rest : part ≡ drop at s = p ∙ rw (← length-drop at s) (take-length (drop at s)) in
    rw (b, rest, position_from-zero is_line_end (drop at s)) (rw from at (line_from (drop at s) at 0))

-- ---- digits
module _ (s : List ℕ) (value i : ℕ) where
  pub number_stops : i < length s → is_digit (get_or s i 0) ≡ false → number_from value i (drop i s) ≡ record { value = value; next = i }
  unfolding number_from
  number_stops h e = at_drop_more (number_from value i) s i 0 h ∙ rw e

  pub number_goes : i < length s → is_digit (get_or s i 0) ≡ true → number_from (with_digit value (get_or s i 0)) (i + 1) (drop (i + 1) s) ≡ number_from value i (drop i s)
  unfolding number_from
  number_goes h e = sym (at_drop_more (number_from value i) s i 0 h ∙ rw (e, ← add-one i))

  pub number_ends : length s ≤ i → number_from value i (drop i s) ≡ record { value = value; next = i }
  unfolding number_from
  number_ends h = at_drop_all (number_from value i) s i h

pub small : (value c : ℕ) → with_digit value c ≤ most_number
unfolding with_digit
small value c = omega arith
