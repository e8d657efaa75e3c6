-- In the coding of numbers a plane is finished with its last bit and not before.
use Rattle.std.specs.Prelude.{◌≡◌, refl, Bool, true, List, [], map, ℕ, zero, suc, ◌+◌, ◌-◌, ◌^◌, ◌≤◌, ◌<◌, leb, ℤ}
use Rattle.std.proofs.Common.{sym, ◌∙◌, append-nil, leb-true, leb-false}
use Rattle.std.proofs.Math.Path.{ap}
use Rattle.std.proofs.Math.Bool.{false}
use native.Mathlib.Omega.{arith}
use Rattle.std.proofs.Math.ListN.{length}
use Rattle.paper.specs.Sizes.{numbers_in}
use Rattle.paper.specs.Walk.{behind_plane, plane_count, depth, code_of, decode_of, Settled}
use Rattle.walk_laws.specs.Cleared.{cleared}
use Rattle.walk_laws.specs.Together.{tape}
use Rattle.walk_laws.specs.Plane.{together_plane}
use Rattle.walk_laws.specs.Planes.{planes_code, code_step}
use Rattle.walk_laws.specs.Decoded.{coding_decoded}
use Rattle.walk_laws.specs.Down.{walk_down, down_step, down_ends}
use Rattle.walk_laws.specs.Unfinished.{AllRead, finished_read}

-- how many bits the coding has up to the last bit of plane q: all but those of planes q - 1 to 0
unfoldable pub coded_through : ℕ → ℕ → List ℤ → ℕ → ℕ
coded_through k L xs q = length (code_of k L xs) - length (planes_code (depth k L) L xs q)

-- over the coding of planes n - 1 to 0, planes n - 1 to q leave the coding of the others
pub down_coding : (d L : ℕ) (xs : List ℤ) → length xs ≡ 4 ^ (suc d + L) → (q n : ℕ) → q ≤ n
    → walk_down d L q n (map (cleared n) xs) (tape (planes_code d L xs n) false 0) ≡ (map (cleared q) xs, tape (planes_code d L xs q) false 0)
down_coding d L xs h q zero g = unfold walk_down in (λ i. let e : 0 ≡ q = omega arith in (map (cleared (e i)) xs, tape (planes_code d L xs (e i)) false 0))
down_coding d L xs h q (suc p) g = go (leb q p) refl (down_coding d L xs h q p)
  where
    go : (b : Bool) → leb q p ≡ b → (q ≤ p → walk_down d L q p (map (cleared p) xs) (tape (planes_code d L xs p) false 0) ≡ (map (cleared q) xs, tape (planes_code d L xs q) false 0))
        → walk_down d L q (suc p) (map (cleared (suc p)) xs) (tape (planes_code d L xs (suc p)) false 0) ≡ (map (cleared q) xs, tape (planes_code d L xs q) false 0)
    go true e ih = rw (down_step d L q p (map (cleared (suc p)) xs) e, code_step d L xs h p) (ap (λ r. walk_down d L q p r.0 (behind_plane r.1)) ((together_plane p d L xs h).full (planes_code d L xs p) 0) ∙ ih (leb-true q p e))
    go false e ih = rw (down_ends d L q p (map (cleared (suc p)) xs) e) (λ i. let f : suc p ≡ q = omega (arith, leb-false q p e) in (map (cleared (f i)) xs, tape (planes_code d L xs (f i)) false 0))

module _ (k L : ℕ) (xs : List ℤ) (levels : L < k) (square : length xs ≡ 4 ^ k) (numbers_in_lem : numbers_in xs ≡ true) where
  abbrev d : ℕ
  d = depth k L

  abbrev n : ℕ
  n = plane_count xs

  abbrev code : List Bool
  code = code_of k L xs

  pub coding_read : (q : ℕ) → AllRead k L n q code
  coding_read q = finished_read k L n q code (omega (arith, ap (λ (s : Settled). s.unfinished) (ap (decode_of k L n) (sym (append-nil code)) ∙ coding_decoded k L xs levels square numbers_in_lem [])))
