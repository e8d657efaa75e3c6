-- A test, as the walk has it: open by what was scanned, or by one bit.
use mathlib.Core.Path.{◌≡◌, refl, sym, ap, ◌∙◌}
use mathlib.Core.Bool.{Bool, true, false}
use mathlib.Core.List.{List}
use Prim.Native.Nat.{ℕ, suc, ◌^◌}
use lib.Dec.{ltb}
use lib.IntN.{ℤ}
use lib.ListN.{length}
use Rattle.paper.specs.Lists.{pick}
use Rattle.paper.specs.Walk.{reaches, Due, place_after, is_one, Decoder, Tape, test_set}
use Rattle.walk_laws.specs.Asks.{test_known, test_asks}
use Rattle.bits.specs.Bits.{tape_of}
use Rattle.bits.proofs.OneBit.{heard_is, open_still}
use Rattle.scan.specs.declared.Seen.{Seen}
use Rattle.scan.specs.declared.Seen.TheVariants.{Known, New, Closed}
use Rattle.scan.specs.Seen.{seen_of}
use Rattle.set_decoder.specs.declared.tape.BitTape.{BitTape}
use Rattle.set_decoder.specs.Walked.{tape_at, Walked}
use Rattle.set_decoder.proofs.Tapes.{Bit, Settles, unsettled, walked_bit, settled, walked_settled}

seen_known : (p : ℕ) (xs : List ℤ) (s : Seen) → s ≡ seen_of p xs → s ≡ Known → reaches (2 ^ suc p) xs ≡ true
unfolding seen_of
seen_known p xs s e k = go (reaches (2 ^ suc p) xs) (reaches (2 ^ p) xs) (sym k ∙ e)
  where
    go : (x y : Bool) → Known ≡ pick x Known (pick y New Closed) → x ≡ true
    go true y e = refl
    go false true e = cc
    go false false e = cc

seen_not : (p : ℕ) (xs : List ℤ) (s : Seen) → s ≡ seen_of p xs → (s ≡ Known → ⊥) → reaches (2 ^ suc p) xs ≡ false
unfolding seen_of
seen_not p xs s e k = go (reaches (2 ^ suc p) xs) e
  where
    go : (x : Bool) → s ≡ pick x Known (pick (reaches (2 ^ p) xs) New Closed) → x ≡ false
    go true e = absurd (k e)
    go false e = refl

pub test_open : (p : ℕ) (xs : List ℤ) (tape : BitTape) {s : Seen} → s ≡ seen_of p xs → s ≡ Known → Walked (test_set Decoder p xs) tape true tape
test_open p xs tape {s} e k = record { is = ap (λ f. f (tape_at tape)) (test_known Decoder p xs (seen_known p xs s e k)); bytes = refl; count = refl }

module _ (p : ℕ) (xs : List ℤ) {s : Seen} (e : s ≡ seen_of p xs) (k : s ≡ Known → ⊥) {tape behind : BitTape} {one : Bool} (R : Bit tape one behind) where
  abbrev due : Due
  due = Due.test (length xs)

  abbrev b : ℕ
  b = tape.source.count

  -- the tape behind the bit
  abbrev heard_tape : Bool → Tape
  heard_tape o = tape_of tape.source.bytes.now b behind.source.place (pick (ltb b behind.source.place) tape.place (place_after due o tape.place))

  asked : test_set Decoder p xs (tape_at tape) ≡ (one, heard_tape one)
  unfolding tape_of
  asked =
      ap (λ f. f (tape_at tape)) (test_asks Decoder p xs (seen_not p xs s e k))
      ∙ ap (λ q. (is_one Decoder q.0, q.1)) (R.read.read due tape.place)
      ∙ ap (λ o. (o, heard_tape one)) (heard_is R.read)

  -- a 1 opens it, and settles nothing
  pub test_one : one ≡ true → Walked (test_set Decoder p xs) tape true behind
  test_one o =
      let at = ap (tape_of tape.source.bytes.now b behind.source.place) (open_still R.read (length xs) tape.place o) ∙ unsettled R in
      walked_bit R (asked ∙ (λ i. (o i, at i)))

  -- a 0 shuts it, and settles its places
  pub test_shut : {after : BitTape} → one ≡ false → Settles (length xs) behind after → Walked (test_set Decoder p xs) tape false after
  test_shut o S = walked_settled R S (asked ∙ (λ i. (o i, heard_tape (o i))) ∙ ap (λ t. (false, t)) (settled R S))
