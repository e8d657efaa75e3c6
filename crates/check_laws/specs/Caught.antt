-- What the check does not catch: three bytes changed are not always found. What it catches is in proofs/Caught.antt.
use Rattle.std.specs.Prelude.{◌≡◌, refl}
use Rattle.paper.specs.Sizes.{size_in, levels_in, planes_in}
use Rattle.paper.specs.Walk.{bit_of}
use Rattle.paper.specs.Bits.{bits, all_zero}
use Rattle.paper.specs.Block.{label_character, label_characters, is_label, edition_in, start_of, payload_of, plain_sum, weighed_sum, checks_right, origin_right, fields_right, block_refusal}
use Rattle.paper.specs.Cases.{block417}
use Rattle.check_laws.specs.Damage.{changed}

-- ---- what the check does not catch
-- Three bytes in a row, changed by 1, -2 and 1: the flat block labelled 00000417 becomes one labelled 00001227, and passes.
pub three_bytes_may_pass : (block_refusal block417 ≡ 0) × (block_refusal (changed 10 0x32 (changed 9 0x32 (changed 8 0x31 block417))) ≡ 0)
unfolding size_in levels_in planes_in bit_of bits all_zero label_character label_characters is_label plain_sum weighed_sum edition_in start_of payload_of checks_right origin_right fields_right block_refusal
three_bytes_may_pass = (refl, refl)
