-- A number, as the walk has it: by its bit and, after a first 1, by its sign bit.
use mathlib.Core.Path.{◌≡◌, refl, sym, ap, ◌∙◌}
use mathlib.Core.Bool.{Bool, true, false}
use mathlib.Core.Option.{none, some}
use mathlib.Core.List.{List, [], ◌∷◌}
use Prim.Native.Nat.{ℕ, suc, ◌+◌, ◌*◌, ◌^◌, ◌<◌, ◌≤◌}
use native.Mathlib.Nat.{pow-succ', add-zero}
use native.Mathlib.Omega.{arith}
use lib.Dec.{ltb, leb}
use lib.IntN.{ℤ, nat_abs}
use borrow.Author.Tests.{le-leb, lt-leb, leb-true, leb-false}
use Rattle.paper.specs.Lists.{pick}
use Rattle.paper.specs.Walk.{negative, signed, Due, place_after, is_one, Decoder, Tape, walk_number, refined, begun}
use Rattle.walk_laws.specs.Cleared.{signed_self}
use Rattle.walk_laws.specs.Asks.{number_known, number_asks, after_bit}
use Rattle.bits.specs.Bits.{tape_of}
use Rattle.bits.proofs.OneBit.{heard, ReadBit, heard_is, heard_one, open_still}
use Rattle.set_decoder.specs.declared.tape.BitTape.{BitTape}
use Rattle.set_decoder.specs.Walked.{tape_at, Walked}
use Rattle.set_decoder.proofs.Tapes.{Bit, Settles, settled, bytes_stay, count_stays, walked_settled}

module _ (p : ℕ) (x : ℤ) {tape read : BitTape} {one : Bool} (R : Bit tape one read) where
  abbrev bytes : List ℕ
  bytes = tape.source.bytes.now

  abbrev b : ℕ
  b = tape.source.count

  abbrev z : ℕ
  z = tape.place

  -- the tape behind the bit, which is due on a test of one place, or is one more bit
  abbrev behind : Due → Bool → Tape
  behind due o = tape_of bytes b read.source.place (pick (ltb b read.source.place) z (place_after due o z))

  asked_known : 2 ^ suc p ≤ nat_abs x → walk_number Decoder p x (tape_at tape) ≡ (refined Decoder p x (heard b one read.source.place) ∷ [], behind Due.more one)
  unfolding tape_of
  asked_known h = ap (λ f. f (tape_at tape)) (number_known Decoder p x (le-leb (2 ^ suc p) (nat_abs x) h)) ∙ ap (λ q. (refined Decoder p x q.0 ∷ [], q.1)) (R.read.read Due.more z)

  asked_new : nat_abs x < 2 ^ suc p → walk_number Decoder p x (tape_at tape) ≡ after_bit Decoder p x one (behind (Due.test 1) one)
  unfolding tape_of
  asked_new h =
      ap (λ f. f (tape_at tape)) (number_asks Decoder p x (lt-leb (2 ^ suc p) (nat_abs x) h))
      ∙ ap (λ q. after_bit Decoder p x (is_one Decoder q.0) q.1) (R.read.read (Due.test 1) z) ∙ ap (λ o. after_bit Decoder p x o (behind (Due.test 1) one)) (heard_is R.read)

  -- no bit, or a 0
  pub number_still : (y : ℤ) {t : BitTape} → y ≡ x → one ≡ false → Settles 1 read t → Walked (walk_number Decoder p x) tape (y ∷ []) t
  unfolding refined
  number_still y ey e S = walked_settled R S (go (leb (2 ^ suc p) (nat_abs x)) refl ∙ (λ i. (sym ey i ∷ [], settled R S i)))
    where
      still : (m : Bool) → refined Decoder p x (pick m none (some false)) ≡ x
      still true = refl
      still false = ap (signed (negative x)) (add-zero (nat_abs x)) ∙ signed_self x

      go : (k : Bool) → leb (2 ^ suc p) (nat_abs x) ≡ k → walk_number Decoder p x (tape_at tape) ≡ (x ∷ [], behind Due.more false)
      go true k = asked_known (leb-true (2 ^ suc p) (nat_abs x) k) ∙ ap (λ o. (refined Decoder p x (heard b o read.source.place) ∷ [], behind Due.more o)) e ∙ ap (λ y. (y ∷ [], behind Due.more false)) (still (ltb b read.source.place))
      go false k = asked_new (leb-false (2 ^ suc p) (nat_abs x) k) ∙ ap (λ o. after_bit Decoder p x o (behind (Due.test 1) o)) e

  -- T as the code has it, and the magnitude against 2T
  module _ (t m : ℕ) (et : t ≡ 2 ^ p) (em : m ≡ nat_abs x) where
    twice : 2 * t ≡ 2 ^ suc p
    twice = ap (λ k. 2 * k) et ∙ sym (pow-succ' 2 p)

    pub number_grown : (y : ℤ) {u : BitTape} → 2 * t ≤ m → one ≡ true → y ≡ signed (negative x) (nat_abs x + t) → Settles 1 read u → Walked (walk_number Decoder p x) tape (y ∷ []) u
    unfolding refined
    number_grown y h e ey S = walked_settled R S (
        asked_known (omega (arith, twice)) ∙ ap (λ a. (refined Decoder p x a ∷ [], behind Due.more one)) (heard_one R.read e)
        ∙ (λ i. ((ap (λ k. signed (negative x) (nat_abs x + k)) (sym et) ∙ sym ey) i ∷ [], settled R S i)))

    module _ {signed_tape : BitTape} {below : Bool} (S : Bit read below signed_tape) (h : m < 2 * t) (e : one ≡ true) where
      abbrev at : ℕ
      at = signed_tape.source.place

      sign : ReadBit bytes b read.source.place (record { one = below; at = at })
      sign = rw (R.bytes, R.count) at S.read

      asked_sign : walk_number Decoder p x (tape_at tape) ≡ (begun Decoder p x (heard b below at) ∷ [], tape_of bytes b at (pick (ltb b at) z (z + 1)))
      unfolding tape_of
      asked_sign =
          asked_new (omega (arith, twice)) ∙ (λ i. after_bit Decoder p x (e i) (tape_of bytes b read.source.place (open_still R.read 1 z e i)))
          ∙ ap (λ q. (begun Decoder p x q.0 ∷ [], q.1)) (sign.read Due.sign z)

      -- whether the sign bit was missed
      module _ {missed : Bool} (miss : missed ≡ ltb signed_tape.source.count at) where
        missed_is : ltb b at ≡ missed
        missed_is = ap (λ b. ltb b at) (sym (S.count ∙ R.count)) ∙ sym miss

        -- a 1 whose sign bit isn't there yet
        pub number_unsigned : (y : ℤ) → y ≡ x → missed ≡ true → Walked (walk_number Decoder p x) tape (y ∷ []) signed_tape
        unfolding begun
        number_unsigned y ey g = record {
          is = asked_sign ∙ ap (λ m. (begun Decoder p x (pick m none (some below)) ∷ [], tape_of bytes b at (pick m z (z + 1)))) (missed_is ∙ g)
              ∙ (λ i. (sym ey i ∷ [], tape_of (sym (S.bytes ∙ R.bytes) i) (sym (S.count ∙ R.count) i) at (sym (S.place ∙ R.place) i)));
          bytes = S.bytes ∙ R.bytes;
          count = S.count ∙ R.count;
        }

        pub number_begun : (y : ℤ) {u : BitTape} → missed ≡ false → y ≡ signed below t → Settles 1 signed_tape u → Walked (walk_number Decoder p x) tape (y ∷ []) u
        unfolding begun
        number_begun y g ey U =
            let W = (λ i. tape_of (sym R.bytes i) (sym R.count i) at (pick (ltb (sym R.count i) at) (sym R.place i) (sym R.place i + 1))) ∙ settled S U in record {
              is = asked_sign ∙ ap (λ m. (begun Decoder p x (pick m none (some below)) ∷ [], tape_of bytes b at (pick (ltb b at) z (z + 1)))) (missed_is ∙ g)
                  ∙ (λ i. ((ap (signed below) (sym et) ∙ sym ey) i ∷ [], W i));
              bytes = bytes_stay S U ∙ R.bytes;
              count = count_stays S U ∙ R.count;
            }
