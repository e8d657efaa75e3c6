-- What was checked by hand: P1 to P11, one list under one claim, and with it softer pictures, thumbnails, whole blocks of both
-- editions, the checks of 508 bytes of 255, the label's leading zeros and the characters that it may have, and what edition 2 adds.
-- Each is proved by computing what the definitions say.
use Rattle.std.specs.Prelude.{◌≡◌, refl, Bool, true, false, List, [], ◌∷◌, ◌++◌, ℕ, suc, ◌+◌, ◌*◌, ◌-◌, ◌^◌, length, take, drop, get_or, replicate, ℤ, pos, negsuc}
use Rattle.paper.specs.Sizes.{size_in, levels_in, halvings_in, planes_in, numbers_in, most_bits}
use Rattle.paper.specs.Lists.{made, joined}
use Rattle.paper.specs.Line.{high_of, low_of, high_at, low_at, line_forward, odd_of, even_of, even_at, odd_at, woven, line_back}
use Rattle.paper.specs.Places.{interleaved, column_of, row_of, z_of, raster_of}
use Rattle.paper.specs.Square.{place_of, line_of, spot_of, line, along, level_forward, level_back, on_first, levels_forward, levels_back, lowered, raised, grey, pictured, numbers_of, greys_of, low_band, low_greys_of, thumbnail_of}
use Rattle.paper.specs.Walk.{bit_of, reaches, largest, bits_needed, plane_count, test_set, refined, begun, walk_number, ◌next◌, walk_numbers, walk_set, walk_rest, walk_plane, walk_planes, code_of, decode_of, unread_at}
use Rattle.paper.specs.Softer.{half_of, moved_up, softened, softer_of}
use Rattle.paper.specs.Bits.{bits, byte_of, packed, laid, all_zero}
use Rattle.paper.specs.Block.{label_character, label_characters, is_label, same_bytes, Origin, edition_in, arm_in, origin_in, plain_sum, weighed_sum, start_of, payload_bytes, header, named, sealed, named_of, payload_of, checks_right, origin_right, fields_right, block_refusal}
use Rattle.paper.specs.Record.{made_block, blocks_for, block_of, record_of, said, in_turn, turn_refusal, run_from, bits_kept, payload_kept}
use Rattle.paper.specs.Jobs.{sizes_refusal, forward_refusal, forward_job, Coding, coding_refusal, written_of, coding_job, Decoding, decoding_refusal, decoding_job, Inverse, display_refusal, display_job, thumbnail_refusal, thumbnail_job, writing_refusal, writing_job, lent_refusal, reading_refusal, reading_job}
use Rattle.paper.specs.First.{first_refusal, first_in_turn, first_reading}

-- ---- what is given
-- the numbers that a slice holds before it is filled: those of the last label
abbrev pub last : List ℤ
last = replicate 64 (negsuc 8)

abbrev pub zeros : ℕ → List ℤ
zeros count = replicate count (pos 0)

abbrev pub five : List ℤ
five = pos 5 ∷ zeros 63

abbrev pub four : List ℤ
four = pos 4 ∷ zeros 63

abbrev pub minus_three : List ℤ
minus_three = zeros 15 ++ negsuc 2 ∷ zeros 48

-- a limit that cuts nothing
abbrev pub whole : ℕ
whole = 1000

abbrev pub coded : List ℤ → List ℕ → Coding
coded numbers bytes = coding_job 3 2 numbers whole bytes

-- P3's bytes, of which the first b bits are decoded
abbrev pub cut : ℕ → Decoding
cut b = decoding_job 3 2 3 last (0xC0 ∷ 0x08 ∷ 0x00 ∷ []) b

-- the softer picture of side 8, of two levels, into slices that hold another
abbrev pub display : ℕ → ℕ → List ℤ → Inverse
display p place numbers = display_job 3 2 p place numbers (replicate 64 7) last

-- the thumbnail of side 8 / 2 ^ r, of two levels, into slices that hold another
abbrev pub thumbnail : ℕ → List ℤ → Inverse
thumbnail r numbers = thumbnail_job 3 2 r numbers (replicate (4 ^ (3 - r)) 7) (replicate (4 ^ (3 - r)) (negsuc 8))

abbrev pub label417 : List ℕ
label417 = 0x30 ∷ 0x30 ∷ 0x30 ∷ 0x30 ∷ 0x30 ∷ 0x34 ∷ 0x31 ∷ 0x37 ∷ []

-- the block of P9 with label 00000417, whole
abbrev pub block417 : List ℕ
block417 = 0x01 ∷ 0x03 ∷ 0x02 ∷ 0x00 ∷ (label417 ++ (replicate 496 0x00 ++ 0x01 ∷ 0x92 ∷ 0x0D ∷ 0x54 ∷ []))

-- 0417AAL6: the last two places are the media type
abbrev pub label_l6 : List ℕ
label_l6 = 0x30 ∷ 0x34 ∷ 0x31 ∷ 0x37 ∷ 0x41 ∷ 0x41 ∷ 0x4C ∷ 0x36 ∷ []

-- the block of P3 with label 0417AAL6, whole
abbrev pub block_l6 : List ℕ
block_l6 = 0x01 ∷ 0x03 ∷ 0x02 ∷ 0x03 ∷ (label_l6 ++ 0x00 ∷ 0x00 ∷ 0x00 ∷ 0x11 ∷ 0xC0 ∷ 0x08 ∷ 0x00 ∷ (replicate 489 0x00 ++ 0x02 ∷ 0xB2 ∷ 0x1E ∷ 0x4F ∷ []))

-- edition 1, which ignores arm and mount: in edition 2 both would be refused
abbrev pub edition1 : Origin
edition1 = record { edition = 1; arm = 3; mount = 16777216 }

abbrev pub edition2 : ℕ → ℕ → Origin
edition2 arm mount = record { edition = 2; arm = arm; mount = mount }

-- P3's 17 bits in a block with label 0417AAL6 that arm 2 made at its mount 70123, 0x0111EB, whole
abbrev pub block_arm2 : List ℕ
block_arm2 = 0x02 ∷ 0x03 ∷ 0x02 ∷ 0x03 ∷ (label_l6 ++ 0x00 ∷ 0x00 ∷ 0x00 ∷ 0x11 ∷ 0x02 ∷ 0x01 ∷ 0x11 ∷ 0xEB ∷ 0xC0 ∷ 0x08 ∷ 0x00 ∷ (replicate 485 0x00 ++ 0x03 ∷ 0xB2 ∷ 0x35 ∷ 0x43 ∷ []))

-- the refusal of the writer, asked for it with another origin, label or room
abbrev pub written : Origin → List ℕ → ℕ → ℕ
written o label room = (writing_job 3 2 3 o label (0xC0 ∷ 0x08 ∷ 0x00 ∷ []) 17 (replicate room 0x55)).refusal

-- a block with so many payload bits, all 0
abbrev pub zero_bits : Origin → ℕ → ℕ → List ℕ
zero_bits o number count = made_block o 3 2 3 label_l6 number count (replicate (payload_bytes (start_of o.edition)) 0x00)

-- a block of edition 1 with another k, L or n, and no bits
abbrev pub flat_block : ℕ → ℕ → ℕ → List ℕ
flat_block k L n = made_block edition1 k L n label_l6 0 0 (replicate 492 0x00)

-- the number that ends a run when a block of another origin stands behind the full block that arm 2 made at its mount 70123
abbrev pub behind_arm2 : Origin → ℕ
behind_arm2 o = (reading_job (zero_bits (edition2 2 70123) 0 3904 ++ zero_bits o 1 0) label_l6 (replicate 984 0x55)).ended

-- 0417AAL6 with each of these characters in each of its eight places: is it a label?
abbrev pub in_each_place : List ℕ → List Bool
in_each_place cs = joined 8 (λ place. made (length cs) (λ i. is_label (take place label_l6 ++ get_or cs i 0 ∷ drop (suc place) label_l6)))

-- ---- the claim
pub record Checked : Type 0 where
  pub p1 : line_forward (pos 1 ∷ pos 2 ∷ pos 3 ∷ pos 4 ∷ []) ≡ pos 1 ∷ pos 3 ∷ pos 0 ∷ pos 1 ∷ []
  pub p2 : line_forward (pos 0 ∷ negsuc 0 ∷ negsuc 0 ∷ pos 0 ∷ []) ≡ pos 0 ∷ negsuc 0 ∷ pos 0 ∷ pos 1 ∷ []
  pub p3 : coded five (0xFF ∷ 0xFF ∷ 0xFF ∷ 0xFF ∷ []) ≡ record { refusal = 0; written = 17; n = 3; bytes = 0xC0 ∷ 0x08 ∷ 0x00 ∷ 0xFF ∷ [] }
  pub p4 : cut 2 ≡ record { refusal = 0; unfinished = 3; read = 2; place = 0; numbers = zeros 64 }
  pub p5 : cut 3 ≡ record { refusal = 0; unfinished = 3; read = 3; place = 1; numbers = four }
  pub p6 : cut 7 ≡ record { refusal = 0; unfinished = 2; read = 7; place = 0; numbers = four }
  pub p7 : cut 13 ≡ record { refusal = 0; unfinished = 1; read = 13; place = 1; numbers = five }
  pub p8 : coded minus_three (0xFF ∷ 0xFF ∷ 0xFF ∷ []) ≡ record { refusal = 0; written = 19; n = 2; bytes = 0x48 ∷ 0xC0 ∷ 0x40 ∷ [] }
  pub p9 : forward_job 3 2 (replicate 64 128) last ≡ record { refusal = 0; n = 0; numbers = zeros 64 }
  pub p9_bits : coded (zeros 64) (0xFF ∷ []) ≡ record { refusal = 0; written = 0; n = 0; bytes = 0xFF ∷ [] }
  pub p9_planes : decoding_job 3 2 0 last [] 0 ≡ record { refusal = 0; unfinished = 0; read = 0; place = 0; numbers = zeros 64 }
  pub p10 : forward_job 3 2 (replicate 64 255) last ≡ record { refusal = 0; n = 7; numbers = replicate 4 (pos 127) ++ zeros 60 }
  -- where the cut fell, of P3 cut at 0 to 17 bits: the first number is found by bits 2 and 3, and each closed rest ends a plane
  pub places : made 18 (λ b. (cut b).place) ≡ 0 ∷ 0 ∷ 0 ∷ 1 ∷ 2 ∷ 3 ∷ 4 ∷ 0 ∷ 1 ∷ 2 ∷ 3 ∷ 4 ∷ 0 ∷ 1 ∷ 2 ∷ 3 ∷ 4 ∷ 0 ∷ []
  -- and of P8 cut at 0 to 19: a closed set of four settles them all, an open rest and an open set none
  pub places_closed : made 20 (λ b. (decoding_job 3 2 2 last (0x48 ∷ 0xC0 ∷ 0x40 ∷ []) b).place) ≡ 0 ∷ 4 ∷ 4 ∷ 8 ∷ 12 ∷ 12 ∷ 13 ∷ 14 ∷ 15 ∷ 15 ∷ 16 ∷ 0 ∷ 4 ∷ 8 ∷ 12 ∷ 13 ∷ 14 ∷ 15 ∷ 16 ∷ 0 ∷ []
  pub p11 : z_of 3 (6 * 8 + 7) ≡ 61
  -- with 3 planes unfinished 4 is half of what is unknown, and 2 before the place; zeros stay
  pub softer : softened 3 4 (pos 8 ∷ negsuc 7 ∷ pos 0 ∷ pos 12 ∷ pos 8 ∷ negsuc 7 ∷ pos 0 ∷ []) ≡ pos 10 ∷ negsuc 9 ∷ pos 0 ∷ pos 14 ∷ pos 12 ∷ negsuc 11 ∷ pos 0 ∷ []
  -- of one unread bit the half is 1; before the place then none is unread, nor anywhere where no plane is unfinished
  pub softer_last : softened 1 1 (pos 5 ∷ pos 4 ∷ negsuc 3 ∷ []) ≡ pos 5 ∷ pos 5 ∷ negsuc 4 ∷ []
  pub softer_none : softened 0 1 (pos 5 ∷ negsuc 3 ∷ []) ≡ pos 5 ∷ negsuc 3 ∷ []
  -- numbers shown may pass the limit
  pub softer_beyond : softened 18 0 (pos 262143 ∷ negsuc 262142 ∷ []) ≡ pos 393215 ∷ negsuc 393214 ∷ []
  -- P5's cut, whose 4 is shown as 6: 6 4 3 1 along the first row and down the first column
  pub display_cut : (let d = cut 3 in display d.unfinished d.place d.numbers) ≡ record {
    refusal = 0;
    picture = 134 ∷ 132 ∷ 131 ∷ 129 ∷ (replicate 4 128 ++ 132 ∷ 131 ∷ 130 ∷ 129 ∷ (replicate 4 128 ++ 131 ∷ 130 ∷ 129 ∷ (replicate 5 128 ++ 129 ∷ replicate 39 128)));
    room = pos 134 ∷ pos 132 ∷ pos 132 ∷ pos 131 ∷ pos 131 ∷ pos 129 ∷ pos 130 ∷ pos 129 ∷ pos 131 ∷ pos 130 ∷ pos 129 ∷ pos 128 ∷ pos 129 ∷ replicate 51 (pos 128);
  }
  -- 4 before 5 before 11, which a place of S² is, with no plane unfinished too; 4 judges the stored numbers alone
  pub display_order : (display 19 64 (pos 262144 ∷ zeros 63)).refusal ∷ (display 19 64 (zeros 64)).refusal ∷ (display 18 64 (zeros 64)).refusal ∷ (display 0 64 (zeros 64)).refusal ∷ (display 0 63 (zeros 64)).refusal ∷ [] ≡ 4 ∷ 5 ∷ 11 ∷ 11 ∷ 0 ∷ []
  pub display_stored : (display 18 0 (pos 262143 ∷ zeros 63)).refusal ≡ 0
  -- one level of a single grey that differs, in row 0, column 2: low -1 3 0 0 along the row, then 0 3 0 0 down the columns
  pub low_band_case : low_greys_of 3 1 (128 ∷ 128 ∷ 132 ∷ replicate 61 128) ≡ pos 128 ∷ pos 131 ∷ replicate 14 (pos 128)
  -- side 4: one level is left to undo; the last number, beyond the limit, is none of the first 16
  pub thumbnail_early : thumbnail 1 (pos 5 ∷ (zeros 62 ++ pos 262144 ∷ [])) ≡ record {
    refusal = 0;
    picture = 133 ∷ 130 ∷ 128 ∷ 128 ∷ 130 ∷ 129 ∷ replicate 10 128;
    room = pos 133 ∷ pos 130 ∷ pos 130 ∷ pos 129 ∷ replicate 12 (pos 128);
  }
  -- side 2: the smallest band and 128
  pub thumbnail_smallest : thumbnail 2 (pos 5 ∷ negsuc 199 ∷ pos 200 ∷ zeros 61) ≡ record { refusal = 0; picture = 133 ∷ 0 ∷ 255 ∷ 128 ∷ []; room = pos 133 ∷ negsuc 71 ∷ pos 328 ∷ pos 128 ∷ [] }
  -- 4 for the last of the first 16; 13 for r below 1 and above L, before 3 and after 2
  pub thumbnail_beyond : (thumbnail 1 (zeros 15 ++ pos 262144 ∷ zeros 48)).refusal ≡ 4
  pub thumbnail_unhalved : (thumbnail 0 (zeros 64)).refusal ≡ 13
  pub thumbnail_deep : (thumbnail 3 []).refusal ≡ 13
  pub thumbnail_levels : (thumbnail_job 3 3 0 [] [] []).refusal ≡ 2
  pub block : writing_job 3 2 0 edition1 label417 [] 0 (replicate 514 0x55) ≡ record { refusal = 0; blocks = 1; room = block417 ++ 0x55 ∷ 0x55 ∷ [] }
  pub label : reading_job block417 label417 (replicate 492 0x55) ≡ record { refusal = 0; k = 3; L = 2; n = 0; blocks = 1; bits = 0; ended = 0; edition = 1; arm = 0; mount = 0; room = replicate 492 0x55 }
  pub zeros_kept : (reading_job block417 (0x34 ∷ 0x31 ∷ 0x37 ∷ []) (replicate 492 0x55)).refusal ≡ 7
  pub block_l6_case : writing_job 3 2 3 edition1 label_l6 (0xC0 ∷ 0x08 ∷ 0x00 ∷ []) 17 (replicate 514 0x55) ≡ record { refusal = 0; blocks = 1; room = block_l6 ++ 0x55 ∷ 0x55 ∷ [] }
  pub label_l6_case : reading_job block_l6 label_l6 (replicate 492 0x55) ≡ record { refusal = 0; k = 3; L = 2; n = 3; blocks = 1; bits = 17; ended = 0; edition = 1; arm = 0; mount = 0; room = 0xC0 ∷ 0x08 ∷ 0x00 ∷ replicate 489 0x55 }
  pub block_arm_2 : writing_job 3 2 3 (edition2 2 70123) label_l6 (0xC0 ∷ 0x08 ∷ 0x00 ∷ []) 17 (replicate 514 0x55) ≡ record { refusal = 0; blocks = 1; room = block_arm2 ++ 0x55 ∷ 0x55 ∷ [] }
  pub label_arm_2 : reading_job block_arm2 label_l6 (replicate 492 0x55) ≡ record { refusal = 0; k = 3; L = 2; n = 3; blocks = 1; bits = 17; ended = 0; edition = 2; arm = 2; mount = 70123; room = 0xC0 ∷ 0x08 ∷ 0x00 ∷ replicate 489 0x55 }
  -- a program of the first edition refuses it, and a block of edition 2 that would pass if the edition were not looked at
  pub first_refuses : first_refusal block_arm2 ∷ first_refusal (zero_bits (edition2 1 0) 0 3904) ∷ [] ≡ 9 ∷ 9 ∷ []
  pub first_reads_none : (first_reading block_arm2 label_l6 (replicate 492 0x55)).refusal ≡ 9
  -- it opens edition 1, up to the sides, levels and planes that there are, and ends at edition 2
  pub first_reads : first_reading block_l6 label_l6 (replicate 492 0x55) ≡ record { refusal = 0; k = 3; L = 2; n = 3; blocks = 1; bits = 17; ended = 0; room = 0xC0 ∷ 0x08 ∷ 0x00 ∷ replicate 489 0x55 }
  pub first_limits : first_refusal (flat_block 8 5 18) ∷ first_refusal (flat_block 9 5 18) ∷ first_refusal (flat_block 8 6 18) ∷ first_refusal (flat_block 8 5 19) ∷ [] ≡ 0 ∷ 9 ∷ 9 ∷ 9 ∷ []
  pub first_ends : let f = first_reading (zero_bits edition1 0 3936 ++ zero_bits (edition2 1 0) 1 3904) label_l6 (replicate 984 0x55) in f.blocks ∷ f.bits ∷ f.ended ∷ [] ≡ 1 ∷ 3936 ∷ 9 ∷ []
  -- editions 0 to 3 and arms 0 to 3, of the writer and of a block; the last mount number, and one beyond
  pub editions : made 4 (λ e. written (record { edition = e; arm = 1; mount = 0 }) label_l6 512) ≡ 9 ∷ 0 ∷ 0 ∷ 9 ∷ []
  pub arms : made 4 (λ arm. written (edition2 arm 0) label_l6 512) ≡ 9 ∷ 0 ∷ 0 ∷ 9 ∷ []
  pub mounts : made 2 (λ more. written (edition2 1 (16777215 + more)) label_l6 512) ≡ 0 ∷ 9 ∷ []
  pub editions_checked : made 4 (λ e. block_refusal (zero_bits (record { edition = e; arm = 1; mount = 0 }) 0 0)) ≡ 9 ∷ 0 ∷ 0 ∷ 9 ∷ []
  pub arms_checked : made 4 (λ arm. block_refusal (zero_bits (edition2 arm 0) 0 0)) ≡ 9 ∷ 0 ∷ 0 ∷ 9 ∷ []
  -- of the writer the edition is judged before 6, arm and mount after 7
  pub edition_before_room : written (record { edition = 3; arm = 1; mount = 0 }) label_l6 511 ≡ 9
  pub room_before_arm : written (edition2 3 0) label_l6 511 ≡ 6
  pub label_before_arm : written (edition2 3 0) [] 512 ≡ 7
  -- 3,905 bits fit one block of edition 1, and not one of edition 2
  pub room_of_edition : made 2 (λ e. (writing_job 6 2 18 (record { edition = suc e; arm = 1; mount = 0 }) label_l6 (replicate 489 0x00) 3905 (replicate 512 0x55)).refusal) ≡ 0 ∷ 6 ∷ []
  -- at most 3,936 payload bits in edition 1, and 3,904 in edition 2
  pub counts : made 2 (λ more. block_refusal (zero_bits edition1 0 (3936 + more))) ≡ 0 ∷ 9 ∷ []
  pub counts_2 : made 2 (λ more. block_refusal (zero_bits (edition2 1 0) 0 (3904 + more))) ≡ 0 ∷ 9 ∷ []
  pub block_counts : blocks_for 1 3936 ∷ blocks_for 1 3937 ∷ blocks_for 2 3904 ∷ blocks_for 2 3905 ∷ [] ≡ 1 ∷ 2 ∷ 1 ∷ 2 ∷ []
  -- arm, each byte of the mount number, and the edition agree within a record
  pub agree : behind_arm2 (edition2 2 70123) ≡ 0
  pub disagree : behind_arm2 (edition2 1 70123) ∷ behind_arm2 (edition2 2 135659) ∷ behind_arm2 (edition2 2 70379) ∷ behind_arm2 (edition2 2 70124) ∷ behind_arm2 edition1 ∷ [] ≡ replicate 5 10
  -- 508 bytes of 255: both sums, 129,540 and 32,967,930, are beyond the modulus
  pub checks : sealed (replicate 508 0xFF) ≡ replicate 508 0xFF ++ 0xFA ∷ 0x13 ∷ 0x2A ∷ 0x73 ∷ []
  pub every_character : made 256 label_character ≡ replicate 48 false ++ (replicate 10 true ++ (replicate 7 false ++ (replicate 26 true ++ replicate 165 false)))
  -- 0 9 A Z
  pub characters : in_each_place (0x30 ∷ 0x39 ∷ 0x41 ∷ 0x5A ∷ []) ≡ replicate 32 true
  -- / : @ [ ` a z {, a space, 0 and 255
  pub no_characters : in_each_place (0x2F ∷ 0x3A ∷ 0x40 ∷ 0x5B ∷ 0x60 ∷ 0x61 ∷ 0x7A ∷ 0x7B ∷ 0x20 ∷ 0x00 ∷ 0xFF ∷ []) ≡ replicate 88 false

pub checked : Checked
unfolding size_in levels_in halvings_in planes_in numbers_in most_bits made joined edition_in arm_in origin_in start_of named named_of origin_right made_block said lent_refusal first_refusal first_in_turn first_reading high_of low_of high_at low_at line_forward odd_of even_of even_at odd_at woven line_back interleaved column_of row_of z_of raster_of place_of line_of spot_of line along level_forward level_back on_first levels_forward levels_back lowered raised grey pictured numbers_of greys_of low_band low_greys_of thumbnail_of bit_of reaches largest bits_needed plane_count test_set refined begun walk_number ◌next◌ walk_numbers walk_set walk_rest walk_plane walk_planes code_of decode_of unread_at half_of moved_up softened softer_of bits byte_of packed laid all_zero label_character label_characters is_label same_bytes plain_sum weighed_sum header sealed payload_of checks_right fields_right block_refusal block_of record_of in_turn turn_refusal run_from bits_kept payload_kept sizes_refusal forward_refusal forward_job coding_refusal written_of coding_job decoding_refusal decoding_job display_refusal display_job thumbnail_refusal thumbnail_job writing_refusal writing_job reading_refusal reading_job
checked = record { p1 = refl; p2 = refl; p3 = refl; p4 = refl; p5 = refl; p6 = refl; p7 = refl; p8 = refl; p9 = refl; p9_bits = refl; p9_planes = refl; p10 = refl; places = refl; places_closed = refl; p11 = refl; softer = refl; softer_last = refl; softer_none = refl; softer_beyond = refl; display_cut = refl; display_order = refl; display_stored = refl; low_band_case = refl; thumbnail_early = refl; thumbnail_smallest = refl; thumbnail_beyond = refl; thumbnail_unhalved = refl; thumbnail_deep = refl; thumbnail_levels = refl; block = refl; label = refl; zeros_kept = refl; block_l6_case = refl; label_l6_case = refl; block_arm_2 = refl; label_arm_2 = refl; first_refuses = refl; first_reads_none = refl; first_reads = refl; first_limits = refl; first_ends = refl; editions = refl; arms = refl; mounts = refl; editions_checked = refl; arms_checked = refl; edition_before_room = refl; room_before_arm = refl; label_before_arm = refl; room_of_edition = refl; counts = refl; counts_2 = refl; block_counts = refl; agree = refl; disagree = refl; checks = refl; every_character = refl; characters = refl; no_characters = refl }
