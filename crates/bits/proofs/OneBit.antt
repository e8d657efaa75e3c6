-- One bit read, and one bit in a byte as the code makes it.
use mathlib.Core.Path.{◌≡◌, refl, sym, ap, ◌∙◌, subst}
use mathlib.Core.Bool.{Bool, true, false}
use mathlib.Core.Option.{Option, none, some}
use mathlib.Core.List.{List, [], ◌∷◌}
use Prim.Native.Nat.{ℕ, zero, suc, ◌+◌, ◌*◌, ◌-◌, ◌/◌, ◌%◌, ◌^◌, ◌<◌, ◌≤◌}
use native.Mathlib.Omega.{arith}
use native.Mathlib.Numerals.{add-one}
use lib.Dec.{ltb, eqb}
use lib.ListN.{length, take, drop, get_or, length-take, length-drop, drop_of_length-le}
use lib.Seq.{drop-cons, get_or-take}
use borrow.Author.Tests.{lt-ltb, le-ltb, ltb-true, ltb-false}
use Rattle.paper.specs.Lists.{pick}
use Rattle.paper.specs.Walk.{bit_of, worth, Due, place_after, Tape, next_bit, is_one, Decoder}
use Rattle.paper.specs.Bits.{bits}
use Rattle.bits.specs.Bits.{kept, with_bit, tape_of, next_at}
use Rattle.bits.specs.declared.Answer.{Answer}

pub bits_length : (s : List ℕ) → length (bits s) ≡ 8 * length s
unfolding bits
bits_length [] = refl
bits_length (v ∷ s) = omega (arith, bits_length s)

pub bits_at : (s : List ℕ) (at : ℕ) → at < 8 * length s → get_or (bits s) at false ≡ bit_of (7 - at % 8) (get_or s (at / 8) 0)
unfolding bits
bits_at [] at h = absurd (omega arith)
bits_at (v ∷ s) zero h = refl
bits_at (v ∷ s) (suc zero) h = refl
bits_at (v ∷ s) (suc (suc zero)) h = refl
bits_at (v ∷ s) (suc (suc (suc zero))) h = refl
bits_at (v ∷ s) (suc (suc (suc (suc zero)))) h = refl
bits_at (v ∷ s) (suc (suc (suc (suc (suc zero))))) h = refl
bits_at (v ∷ s) (suc (suc (suc (suc (suc (suc zero)))))) h = refl
bits_at (v ∷ s) (suc (suc (suc (suc (suc (suc (suc zero))))))) h = refl
bits_at (v ∷ s) (suc (suc (suc (suc (suc (suc (suc (suc k)))))))) h =
    let n = suc (suc (suc (suc (suc (suc (suc (suc k))))))) in
    let e : n / 8 ≡ suc (k / 8) = omega arith in
    let f : n % 8 ≡ k % 8 = omega arith in
    bits_at s k (omega arith) ∙ sym (λ i. bit_of (7 - f i) (get_or (v ∷ s) (e i) 0))

-- the bit as `bit_at` takes it
pub bit_is : (s : List ℕ) (at : ℕ) → at < 8 * length s → eqb (get_or s (at / 8) 0 / 2 ^ (7 - at % 8) % 2) 1 ≡ get_or (bits s) at false
unfolding bit_of
bit_is s at h = sym (bits_at s at h)

-- ---- the tape of the first b bits
pub tape_long : (src : List ℕ) (b : ℕ) → b ≤ 8 * length src → length (take b (bits src)) ≡ b
tape_long src b h = length-take b (bits src) ∙ omega (arith, bits_length src)

-- what was heard, if the bit `one` was answered and the place is now r: nothing if the bit was missed
abbrev pub heard : ℕ → Bool → ℕ → Option Bool
heard b one r = pick (ltb b r) none (some one)

-- the place then: a bit that was missed settles nothing
abbrev pub place_heard : Due → ℕ → Answer → ℕ → ℕ
place_heard due b r place = pick (ltb b r.at) place (place_after due r.one place)

-- r answers the tape's next bit at `at`, whatever it is due on
pub record ReadBit (src : List ℕ) (b at : ℕ) (r : Answer) : Type 0 where
  pub read : (due : Due) (z : ℕ) → ◌≡◌ {A = Option Bool × Tape} (next_bit due (tape_of src b at z).left (tape_of src b at z).missed z) (heard b r.one r.at, tape_of src b r.at (place_heard due b r z))
  pub quiet : b < r.at → r.one ≡ false
  pub near : r.at ≤ b + 1

read_yes : (src : List ℕ) (b at : ℕ) → at < b → b ≤ 8 * length src → ReadBit src b at (record { one = get_or (bits src) at false; at = at + 1 })
unfolding tape_of
read_yes src b at h k =
    let B = bits src in
    let one = get_or B at false in
    let d : drop at (take b B) ≡ one ∷ drop (at + 1) (take b B) = drop-cons (take b B) at false (omega (arith, tape_long src b k)) ∙ (λ i. get_or-take b B at false h i ∷ drop (sym (add-one at) i) (take b B)) in
    let m : ltb b at ≡ false = le-ltb b at (omega arith) in
    let m' : false ≡ ltb b (at + 1) = sym (le-ltb b (at + 1) (omega arith)) in
    record {
      read = λ due z. (λ i. next_bit due (d i) (m i) z) ∙ (λ i. (pick (m' i) none (some one), record { left = drop (at + 1) (take b B); missed = m' i; place = pick (m' i) z (place_after due one z) }));
      quiet = λ q. absurd (no at b h q);
      near = omega arith;
    }
  where
    no : (at b : ℕ) → at < b → b < at + 1 → ⊥
    no at b h q = omega arith

read_no : (src : List ℕ) (b at : ℕ) → b ≤ at → ReadBit src b at (record { one = false; at = b + 1 })
unfolding tape_of
read_no src b at h =
    let B = bits src in
    let n : length (take b B) ≤ at = omega (arith, length-take b B) in
    let n' : length (take b B) ≤ b + 1 = omega (arith, length-take b B) in
    let d : drop at (take b B) ≡ [] = drop_of_length-le (take b B) n in
    let d' : [] ≡ drop (b + 1) (take b B) = sym (drop_of_length-le (take b B) n') in
    let m' : true ≡ ltb b (b + 1) = sym (lt-ltb b (b + 1) (omega arith)) in
    record {
      read = λ due z. ap (λ l. next_bit due l (ltb b at) z) d ∙ (λ i. (pick (m' i) none (some false), record { left = d' i; missed = m' i; place = pick (m' i) z (place_after due false z) }));
      quiet = λ q. refl;
      near = omega arith;
    }

pub read_next : {src : List ℕ} {b at : ℕ} {r : Answer} → b ≤ 8 * length src → r ≡ next_at src b at → ReadBit src b at r
unfolding next_at
read_next {src} {b} {at} {r} k e = subst (ReadBit src b at) (sym e) (go (ltb at b) refl)
  where
    go : (o : Bool) → ltb at b ≡ o → ReadBit src b at (pick o (record { one = get_or (bits src) at false; at = at + 1 }) (record { one = false; at = b + 1 }))
    go true o = read_yes src b at (ltb-true at b o) k
    go false o = read_no src b at (ltb-false at b o)

-- a 1 was heard; a bit that was missed counts as 0
module _ {bytes : List ℕ} {b at : ℕ} {r : Answer} (R : ReadBit bytes b at r) where
  pub heard_is : is_one Decoder (heard b r.one r.at) ≡ r.one
  heard_is = go (ltb b r.at) refl
    where
      go : (m : Bool) → ltb b r.at ≡ m → is_one Decoder (pick m none (some r.one)) ≡ r.one
      go true e = sym (R.quiet (ltb-true b r.at e))
      go false e = refl

  -- an open test settles nothing
  pub open_still : (places z : ℕ) → r.one ≡ true → place_heard (Due.test places) b r z ≡ z
  open_still places z e = ap (λ o. pick (ltb b r.at) z (place_after (Due.test places) o z)) e ∙ go (ltb b r.at)
    where
      go : (m : Bool) → pick m z z ≡ z
      go true = refl
      go false = refl

  pub heard_one : r.one ≡ true → heard b r.one r.at ≡ some true
  heard_one e = go (ltb b r.at) refl
    where
      go : (m : Bool) → ltb b r.at ≡ m → pick m none (some r.one) ≡ some true
      go true k = absurd (let f : r.one ≡ false = R.quiet (ltb-true b r.at k) in let z : ◌≡◌ {A = ℕ} 0 1 = cc in omega arith)
      go false k = ap some e

-- two tapes that are the same are at the same bit, up to b + 1
pub tape_settled : (src : List ℕ) (b r s y z : ℕ) → b ≤ 8 * length src → r ≤ b + 1 → s ≤ b + 1 → tape_of src b r y ≡ tape_of src b s z → r ≡ s
unfolding tape_of
tape_settled src b r s y z k h g e = go (ltb b r) refl (ltb b s) refl
  where
    left : b - r ≡ b - s
    left = omega (arith, tape_long src b k, length-drop r (take b (bits src)), length-drop s (take b (bits src)), ap (λ (t : Tape). length t.left) e)

    missed : ltb b r ≡ ltb b s
    missed = ap (λ (t : Tape). t.missed) e

    go : (x : Bool) → ltb b r ≡ x → (y : Bool) → ltb b s ≡ y → r ≡ s
    go true p true q = omega (arith, ltb-true b r p, ltb-true b s q)
    go false p false q = omega (arith, ltb-false b r p, ltb-false b s q, left)
    go true p false q = absurd (let z : ◌≡◌ {A = ℕ} 0 1 = cc missed in omega arith)
    go false p true q = absurd (let z : ◌≡◌ {A = ℕ} 0 1 = cc missed in omega arith)

-- ---- one bit put into a byte v behind its first k bits; w is what the bit is worth
pub record Fit (w v k : ℕ) : Type 0 where
  pub some_w : 0 < w
  pub part : v / w / 2 * 2 ≤ 255
  pub all : v / w / 2 * 2 * w + w < 256
  pub same : v / w / 2 * 2 * w ≡ kept k v
  pub is : w ≡ 2 ^ (7 - k)

pub fit : (k v : ℕ) → k < 8 → v < 256 → Fit (1 * 2 ^ (7 - k) % 256) v k
fit zero v h g = record { some_w = omega arith; part = omega arith; all = omega arith; same = omega arith; is = refl }
fit (suc zero) v h g = record { some_w = omega arith; part = omega arith; all = omega arith; same = omega arith; is = refl }
fit (suc (suc zero)) v h g = record { some_w = omega arith; part = omega arith; all = omega arith; same = omega arith; is = refl }
fit (suc (suc (suc zero))) v h g = record { some_w = omega arith; part = omega arith; all = omega arith; same = omega arith; is = refl }
fit (suc (suc (suc (suc zero)))) v h g = record { some_w = omega arith; part = omega arith; all = omega arith; same = omega arith; is = refl }
fit (suc (suc (suc (suc (suc zero))))) v h g = record { some_w = omega arith; part = omega arith; all = omega arith; same = omega arith; is = refl }
fit (suc (suc (suc (suc (suc (suc zero)))))) v h g = record { some_w = omega arith; part = omega arith; all = omega arith; same = omega arith; is = refl }
fit (suc (suc (suc (suc (suc (suc (suc zero))))))) v h g = record { some_w = omega arith; part = omega arith; all = omega arith; same = omega arith; is = refl }
fit (suc (suc (suc (suc (suc (suc (suc (suc k)))))))) v h g = absurd (omega arith)

pub bit_one : (w v k : ℕ) (b : Bool) → Fit w v k → b ≡ true → v / w / 2 * 2 * w + w ≡ with_bit k b v
unfolding with_bit
bit_one w v k b F e = (λ i. F.same i + F.is i) ∙ ap (λ b. kept k v + worth b (7 - k)) (sym e)

pub bit_zero : (w v k : ℕ) (b : Bool) → Fit w v k → b ≡ false → v / w / 2 * 2 * w ≡ with_bit k b v
unfolding with_bit
bit_zero w v k b F e = F.same ∙ (let z : kept k v ≡ kept k v + 0 = omega arith in z) ∙ ap (λ b. kept k v + worth b (7 - k)) (sym e)
