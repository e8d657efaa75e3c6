-- More of any bits never move planes and place back, and change no number before the place while the plane runs.
use Rattle.std.specs.Prelude.{◌≡◌, Bool, ℤ, pos, length, take, drop, replicate}
use Rattle.std.proofs.Math.Path.{sym, ap}
use Rattle.std.proofs.Common.{◌∙◌, take-add}
use Rattle.std.proofs.Math.Bool.{false}
use mathlib.Core.List.{List, ◌++◌}
use Prim.Native.Nat.{ℕ, zero, suc, ◌+◌, ◌-◌, ◌^◌, ◌≤◌, ◌<◌}
use native.Mathlib.Omega.{arith}
use Rattle.std.proofs.lemmas.List.{length-replicate}
use Rattle.paper.specs.Walk.{Decoder, Tape, walk_planes, depth, decode_of, Settled}
use Rattle.walk_laws.specs.Together.{tape}
use Rattle.walk_laws.specs.Place.{NeverBack, Stay, plane_goes_on, size}

module _ (d L : ℕ) where
  abbrev N : ℕ
  N = 4 ^ (suc d + L)

  abbrev planes : ℕ → List ℤ → List Bool → (List ℤ × ℕ) × Tape
  planes n xs l = walk_planes Decoder d L n xs (tape l false 0)

  abbrev GoesOn : (r s : (List ℤ × ℕ) × Tape) → Type 0
  GoesOn r s = NeverBack r.0.1 r.1.place s.0.1 s.1.place × Stay r.0.1 s.0.1 r.1.place r.0.0 s.0.0

  planes_go_on : (n : ℕ) (xs : List ℤ) → length xs ≡ N → (l r : List Bool) → GoesOn (planes n xs l) (planes n xs (l ++ r))
  planes_go_on zero xs h l r = unfold walk_planes in (record { fewer = omega arith; higher = λ _. omega arith }, λ _ i h. absurd (omega arith))
  planes_go_on (suc p) xs h l r = plane_goes_on d L p xs h (planes_go_on p) l r

-- ---- decoding
module _ (k L n : ℕ) (levels : L < k) where
  abbrev start : List ℤ
  start = replicate (4 ^ k) (pos 0)

  goes_on : (l r : List Bool) → let s = decode_of k L n l in let t = decode_of k L n (l ++ r) in
      NeverBack s.unfinished s.place t.unfinished t.place × Stay s.unfinished t.unfinished s.place s.numbers t.numbers
  unfolding decode_of
  goes_on l r = planes_go_on (depth k L) L n start (length-replicate (4 ^ k) (pos 0) ∙ sym (size k L n levels)) l r

  module _ (l : List Bool) (b c : ℕ) (h : b ≤ c) where
    abbrev s : Settled
    s = decode_of k L n (take b l)

    abbrev t : Settled
    t = decode_of k L n (take c l)

    join : take c l ≡ take b l ++ take (c - b) (drop b l)
    join = ap (λ j. take j l) (let e : c ≡ b + (c - b) = omega arith in e) ∙ take-add b (c - b) l

    -- More of any bits never move planes and place back.
    pub first_never_back : NeverBack s.unfinished s.place t.unfinished t.place
    first_never_back = rw join (goes_on (take b l) (take (c - b) (drop b l))).0

    -- What is settled is settled: while the plane runs, no further bit changes a number before the place.
    pub first_stay : Stay s.unfinished t.unfinished s.place s.numbers t.numbers
    first_stay = rw join (goes_on (take b l) (take (c - b) (drop b l))).1
