-- The numbers cleared, the bits capped, and what the planes make of them: the decoding of the paper.
use mathlib.Core.Path.{◌≡◌, refl, sym, ap, ◌∙◌}
use mathlib.Core.Bool.{Bool, true, false}
use mathlib.Core.List.{List}
use Prim.Native.Nat.{ℕ, suc, ◌+◌, ◌*◌, ◌-◌, ◌^◌, ◌<◌, ◌≤◌, min}
use native.Mathlib.Nat.{pow-le-pow_right}
use native.Mathlib.Omega.{arith}
use lib.Dec.{leb}
use borrow.Author.Tests.{leb-true, leb-false, le-ltb}
use lib.IntN.{ℤ, pos}
use lib.ListN.{length, take, drop, replicate, length-take, length-drop, length-replicate}
use lib.Seq.{take_all, take-take}
use Rattle.paper.specs.Sizes.{most_size, most_planes}
use Rattle.paper.specs.Bits.{bits}
use Rattle.paper.specs.Walk.{Decoder, walk_planes, depth, decode_of, Settled}
use Rattle.walk_laws.specs.Together.{tape}
use Rattle.walk_laws.specs.Read.{read_limit, read_limit_lem, decoded_as}
use Rattle.walk_laws.specs.Room.{Room, room_zeros}
use Rattle.bits.specs.Bits.{tape_of}
use Rattle.bits.proofs.OneBit.{bits_length}
use Rattle.shapes.specs.Shapes.{IsSquare}
use Rattle.shapes.proofs.Cuts.{square_of}
use Rattle.source.specs.declared.BitSource.{BitSource}
use Rattle.set_decoder.specs.declared.tape.BitTape.{BitTape}
use Rattle.set_decoder.specs.Walked.{tape_at, Walked}

-- ---- the planes
-- a tape of the first c bits, of which none is read
pub record Begun (bytes : List ℕ) (c : ℕ) (tape : BitTape) : Type 0 where
  pub bytes_are : tape.source.bytes.now ≡ bytes
  pub count : tape.source.count ≡ c
  pub at : tape.source.place ≡ 0
  pub place : tape.place ≡ 0

pub begun : (tape : BitTape) (source : BitSource) → tape.source ≡ source → source.place ≡ 0 → tape.place ≡ 0 → Begun source.bytes.now source.count tape
begun tape source e p z = record { bytes_are = ap (λ (s : BitSource). s.bytes.now) e; count = ap (λ (s : BitSource). s.count) e; at = ap (λ (s : BitSource). s.place) e ∙ p; place = z }

-- sizes that are right, the numbers cleared, the first set, and the bits capped
pub record Started (k L n : ℕ) (xs : List ℤ) (bytes : List ℕ) (b : ℕ) (zs : List ℤ) (first c : ℕ) : Type 0 where
  pub less : L < k
  pub small : k ≤ most_size
  pub planes : n ≤ most_planes
  pub places : length xs ≡ 4 ^ k
  pub lent : b ≤ 8 * length bytes
  pub zeros : zs ≡ replicate (length xs) (pos 0)
  pub set : first ≡ 4 ^ suc (depth k L)
  pub cap : c ≡ min b read_limit

module _ {k L n : ℕ} {xs : List ℤ} {bytes : List ℕ} {b : ℕ} {zs : List ℤ} {first c : ℕ} (A : Started k L n xs bytes b zs first c) where
  -- ready for the planes
  pub zeros_room : Room n zs
  zeros_room = rw A.zeros (room_zeros n (length xs) A.planes)

  pub zeros_long : length zs ≡ 4 ^ k
  zeros_long = ap length A.zeros ∙ length-replicate (length xs) (pos 0) ∙ A.places

  pub zeros_fit : {tape : BitTape} → Begun bytes c tape → tape.place + length zs < 2 ^ 64
  zeros_fit T = omega (arith, T.place, zeros_long, pow-le-pow_right {n = 4} (omega arith) A.small)

  abbrev pub square : IsSquare zs first
  square = square_of {k = k} {L = L} A.less zeros_long A.set

  -- bits after the cap change nothing
  capped_bits : decode_of k L n (take b (bits bytes)) ≡ decode_of k L n (take c (bits bytes))
  capped_bits = read_limit_lem k L n A.less A.small A.planes (take b (bits bytes)) ∙ ap (decode_of k L n) (shorter (leb b read_limit) refl ∙ ap (λ j. take j (bits bytes)) (sym A.cap))
    where
      shorter : (o : Bool) → leb b read_limit ≡ o → take read_limit (take b (bits bytes)) ≡ take (min b read_limit) (bits bytes)
      shorter true o = let q = leb-true b read_limit o in take_all read_limit (take b (bits bytes)) (omega (arith, length-take b (bits bytes))) ∙ ap (λ j. take j (bits bytes)) (let y : b ≡ min b read_limit = omega arith in y)
      shorter false o = let q = leb-false b read_limit o in take-take read_limit b (bits bytes) (omega arith) ∙ ap (λ j. take j (bits bytes)) (let y : read_limit ≡ min b read_limit = omega arith in y)

  -- and what is read is the decoding
  pub decoded : {start end : BitTape} (ys : List ℤ) (unfinished read : ℕ) → Begun bytes c start → Walked (walk_planes Decoder (depth k L) L n zs) start (ys, unfinished) end → read ≡ min end.source.place end.source.count
      → decode_of k L n (take b (bits bytes)) ≡ record { numbers = ys; unfinished = unfinished; read = read; place = end.place }
  unfolding tape_of
  decoded {start} {end} ys unfinished read T R er =
      let zeros : zs ≡ replicate (4 ^ k) (pos 0) = A.zeros ∙ ap (λ j. replicate j (pos 0)) A.places in
      let fresh : tape (take c (bits bytes)) false 0 ≡ tape_at start =
      ap (λ q. tape (take c (bits bytes)) q 0) (sym (le-ltb c 0 (omega arith))) ∙ (λ i. tape_of (sym T.bytes_are i) (sym T.count i) (sym T.at i) (sym T.place i)) in
      let run : walk_planes Decoder (depth k L) L n (replicate (4 ^ k) (pos 0)) (tape (take c (bits bytes)) false 0) ≡ ((ys, unfinished), tape_at end) =
      (λ i. walk_planes Decoder (depth k L) L n (sym zeros i) (fresh i)) ∙ R.is in
      let same_bits : take end.source.count (bits end.source.bytes.now) ≡ take c (bits bytes) = (λ i. take ((R.count ∙ T.count) i) (bits ((R.bytes ∙ T.bytes_are) i))) in
      let left : length (drop end.source.place (take end.source.count (bits end.source.bytes.now))) ≡ length (take c (bits bytes)) - end.source.place = length-drop end.source.place _ ∙ ap (λ l. length l - end.source.place) same_bits in
      let count : length (take c (bits bytes)) - length (drop end.source.place (take end.source.count (bits end.source.bytes.now))) ≡ read = omega (arith, left, length-take c (bits bytes), bits_length bytes, er, R.count, T.count, A.cap, A.lent) in
      capped_bits ∙ decoded_as k L n (take c (bits bytes)) run ∙ ap {B = Settled} (λ j. record { numbers = ys; unfinished = unfinished; read = j; place = end.place }) count
