-- A tape behind a bit, and behind what the bit settles.
use mathlib.Core.Path.{◌≡◌, sym, ap, ◌∙◌}
use mathlib.Core.Bool.{Bool}
use Prim.Native.Nat.{ℕ, ◌+◌}
use lib.Dec.{ltb}
use Rattle.paper.specs.Lists.{pick}
use Rattle.walk_laws.specs.Together.{Decodes}
use Rattle.bits.specs.Bits.{tape_of, next_at}
use Rattle.bits.proofs.OneBit.{ReadBit, read_next}
use Rattle.source.specs.declared.BitSource.{BitSource}
use Rattle.set_decoder.specs.declared.tape.BitTape.{BitTape}
use Rattle.set_decoder.specs.Walked.{tape_at, Walked}

-- the next bit of s is read, and t is behind it
pub record Bit (s : BitTape) (one : Bool) (t : BitTape) : Type 0 where
  pub read : ReadBit s.source.bytes.now s.source.count s.source.place (record { one = one; at = t.source.place })
  pub bytes : t.source.bytes.now ≡ s.source.bytes.now
  pub count : t.source.count ≡ s.source.count
  pub place : t.place ≡ s.place

pub bit_read : (s t : BitTape) {one : Bool} → t.source ≡ record { bytes = s.source.bytes; count = s.source.count; place = (next_at s.source.bytes.now s.source.count s.source.place).at } → t.place ≡ s.place
    → one ≡ (next_at s.source.bytes.now s.source.count s.source.place).one → Bit s one t
bit_read s t {one} e z o = record {
  read = read_next s.lent (λ i. record { one = o i; at = ap (λ (s : BitSource). s.place) e i });
  bytes = ap (λ (s : BitSource). s.bytes.now) e;
  count = ap (λ (s : BitSource). s.count) e;
  place = z;
}

-- so many places of s are settled, unless a bit was missed
pub record Settles (places : ℕ) (s t : BitTape) : Type 0 where
  pub source : t.source ≡ s.source
  pub place : t.place ≡ pick (ltb s.source.count s.source.place) s.place (s.place + places)

pub settles : {places : ℕ} {s t : BitTape} → t.source ≡ s.source → t.place ≡ pick (ltb s.source.count s.source.place) s.place (s.place + places) → Settles places s t
settles e z = record { source = e; place = z }

module _ {s t : BitTape} {one : Bool} (R : Bit s one t) where
  -- behind a bit alone
  pub unsettled : tape_of s.source.bytes.now s.source.count t.source.place s.place ≡ tape_at t
  unsettled = sym (λ i. tape_of (R.bytes i) (R.count i) t.source.place (R.place i))

  pub walked_bit : {A : Type 0} {f : Decodes A} {a : A} → f (tape_at s) ≡ (a, tape_at t) → Walked f s a t
  walked_bit e = record { is = e; bytes = R.bytes; count = R.count }

  module _ {places : ℕ} {u : BitTape} (S : Settles places t u) where
    pub bytes_stay : u.source.bytes.now ≡ s.source.bytes.now
    bytes_stay = ap (λ (s : BitSource). s.bytes.now) S.source ∙ R.bytes

    pub count_stays : u.source.count ≡ s.source.count
    count_stays = ap (λ (s : BitSource). s.count) S.source ∙ R.count

    -- and behind what it settles
    pub settled : tape_of s.source.bytes.now s.source.count t.source.place (pick (ltb s.source.count t.source.place) s.place (s.place + places)) ≡ tape_at u
    settled =
        let z : u.place ≡ pick (ltb s.source.count t.source.place) s.place (s.place + places) = S.place ∙ (λ i. pick (ltb (R.count i) t.source.place) (R.place i) (R.place i + places)) in
        sym (λ i. tape_of (bytes_stay i) (count_stays i) (ap (λ (s : BitSource). s.place) S.source i) (z i))

    pub walked_settled : {A : Type 0} {f : Decodes A} {a : A} → f (tape_at s) ≡ (a, tape_at u) → Walked f s a u
    walked_settled e = record { is = e; bytes = bytes_stay; count = count_stays }

-- a walk that leaves off at t leaves off at any tape of the same bits and place
pub ended : {A : Type 0} {f : Decodes A} {s t u : BitTape} {a : A} → Walked f s a t → u.source ≡ t.source → u.place ≡ t.place → Walked f s a u
ended {a = a} W e z = record {
  is = W.is ∙ (λ i. (a, tape_of (sym e i).bytes.now (sym e i).count (sym e i).place (sym z i)));
  bytes = ap (λ (s : BitSource). s.bytes.now) e ∙ W.bytes;
  count = ap (λ (s : BitSource). s.count) e ∙ W.count;
}
