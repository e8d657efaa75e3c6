-- Shams kept out: each program that the paper names as a sham has an outcome that its contract refutes.
use mathlib.Core.Path.{◌≡◌, sym, ap, ◌∙◌}
use mathlib.Core.Bool.{true}
use mathlib.Core.List.{List, ◌++◌}
use Prim.Native.Nat.{ℕ, ◌+◌, ◌*◌, ◌<◌}
use native.Mathlib.Omega.{arith}
use lib.ListN.{replicate, get_or}
use lib.IntN.{ℤ, pos, nat_abs}
use Rattle.paper.specs.Sizes.{size_in, levels_in, planes_in, numbers_in}
use Rattle.paper.specs.Lists.{made, joined}
use Rattle.paper.specs.Line.{odd_of, even_of, even_at, odd_at, woven, line_back}
use Rattle.paper.specs.Places.{interleaved, column_of, row_of, z_of, raster_of}
use Rattle.paper.specs.Square.{place_of, line_of, spot_of, line, along, level_back, on_first, levels_back, raised, grey, pictured, greys_of}
use Rattle.paper.specs.Walk.{bit_of}
use Rattle.paper.specs.Bits.{bits, byte_of, packed, all_zero}
use Rattle.paper.specs.Block.{header_bytes, payload_bits, label_character, label_characters, is_label, same_bytes, plain_sum, weighed_sum, edition_in, start_of, header, named, sealed, named_of, payload_of, checks_right, origin_right, fields_right, block_refusal}
use Rattle.paper.specs.Record.{made_block, block_of, record_of, said, in_turn, turn_refusal, run_from, bits_kept, payload_kept}
use Rattle.paper.specs.Jobs.{sizes_refusal, Forward, forward_job, Decoding, Inverse, inverse_refusal, inverse_job, room_bytes, Read, lent_refusal, reading_refusal, reading_job}
use Rattle.paper.specs.Cases.{checked, last, zeros, cut, display, label417, edition1}

-- one that refuses everything: P9's call is not refused
pub refuses_everything : (r n : ℕ) (numbers : List ℤ) → 0 < r → forward_job 3 2 (replicate 64 128) last ≡ record { refusal = r; n = n; numbers = numbers } → ⊥
refuses_everything r n numbers h contract = let z : 0 ≡ r = ap (λ (a : Forward). a.refusal) (sym checked.p9 ∙ contract) in omega arith

-- a fixed grey picture: numbers of two flat pictures give two pictures
abbrev seen : List ℤ → ℕ
seen numbers = get_or (inverse_job 3 2 numbers (replicate 64 0) last).picture 0 0

pub fixed_picture : (g : ℕ) → seen (zeros 64) ≡ g → seen (replicate 4 (pos 127) ++ zeros 60) ≡ g → ⊥
unfolding size_in levels_in numbers_in made odd_of even_of even_at odd_at woven line_back interleaved column_of row_of z_of raster_of place_of line_of spot_of line along level_back on_first levels_back raised grey pictured greys_of sizes_refusal inverse_refusal inverse_job
fixed_picture g p q = let a : 128 ≡ g = p in let b : 255 ≡ g = q in omega arith

-- a decoder that writes nothing: P4's slice does not end as it began
pub writes_nothing : (cut 2).numbers ≡ last → ⊥
writes_nothing contract = let z : ◌≡◌ {A = ℕ} 0 9 = ap (λ (l : List ℤ). nat_abs (get_or l 0 (pos 0))) (sym (ap (λ (a : Decoding). a.numbers) checked.p4) ∙ contract) in omega arith

-- a made-up p: n always, or 0 always; P6's three planes have two unfinished
pub always_n : (cut 7).unfinished ≡ 3 → ⊥
always_n contract = let z : ◌≡◌ {A = ℕ} 2 3 = sym (ap (λ (a : Decoding). a.unfinished) checked.p6) ∙ contract in omega arith

pub always_0 : (cut 7).unfinished ≡ 0 → ⊥
always_0 contract = let z : ◌≡◌ {A = ℕ} 2 0 = sym (ap (λ (a : Decoding). a.unfinished) checked.p6) ∙ contract in omega arith

-- a made-up place: 0 always, or where the bits end; P5's three bits have settled one number
pub never_placed : (cut 3).place ≡ 0 → ⊥
never_placed contract = let z : ◌≡◌ {A = ℕ} 1 0 = sym (ap (λ (a : Decoding). a.place) checked.p5) ∙ contract in omega arith

pub place_of_bits : (cut 3).place ≡ 3 → ⊥
place_of_bits contract = let z : ◌≡◌ {A = ℕ} 1 3 = sym (ap (λ (a : Decoding). a.place) checked.p5) ∙ contract in omega arith

-- a softer picture that is the plain one: of P5's cut, whose 4 is shown as 6, the first grey is 134 and not 132
pub shown_plain : (let d = cut 3 in get_or (display d.unfinished d.place d.numbers).picture 0 0) ≡ 132 → ⊥
shown_plain contract = let z : ◌≡◌ {A = ℕ} 134 132 = sym (ap (λ (a : Inverse). get_or a.picture 0 0) checked.display_cut) ∙ contract in omega arith

-- a reader that uses block 0 and only nods at the others: a record of a full block and 8 bits more has a byte in its second block, so the count,
-- the bits and the payload of block 0 alone are each refuted
abbrev two : List ℕ
two = record_of edition1 5 2 3 label417 (replicate (payload_bits header_bytes + 8) true)

pub only_block_0 : (a : Read) → reading_job two label417 (replicate (2 * room_bytes) 0) ≡ a → (a.blocks ≡ 1 → ⊥) × (a.bits ≡ payload_bits header_bytes → ⊥) × (get_or a.room (room_bytes) 0 ≡ 0 → ⊥)
unfolding size_in levels_in planes_in joined bit_of bits byte_of packed all_zero label_character label_characters is_label same_bytes plain_sum weighed_sum edition_in start_of header named sealed named_of payload_of checks_right origin_right fields_right block_refusal made_block block_of record_of said in_turn turn_refusal run_from bits_kept payload_kept lent_refusal reading_refusal reading_job
only_block_0 a contract = (
  λ h. let z : ◌≡◌ {A = ℕ} 2 1 = ap (λ (a : Read). a.blocks) contract ∙ h in omega arith,
  λ h. let z : ◌≡◌ {A = ℕ} (payload_bits header_bytes + 8) (payload_bits header_bytes) = ap (λ (a : Read). a.bits) contract ∙ h in omega arith,
  λ h. let z : ◌≡◌ {A = ℕ} 255 0 = ap (λ (a : Read). get_or a.room (room_bytes) 0) contract ∙ h in omega arith,
)
