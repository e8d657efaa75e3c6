-- What is said, as a person reads it, by computing what the definitions say.
use Rattle.std.specs.Prelude.{◌≡◌, refl, true, false, take, replicate}
use Prim.Native.String.{String}
use Rattle.paper.specs.Sizes.{grey_limit}
use Rattle.paper.specs.Block.{Origin, start_of}
use Rattle.pgm.specs.Ascii.{ascii, decimal}
use Rattle.words.specs.Line.{Line, on, ◌puts◌}
use Rattle.worth.specs.Worth.{word, side_of, of_thumbnail, is_softer, of_softer, one_shot, kind, worth}
use Rattle.title.specs.Title.{titled, is_long, colon, shot_by, awaits, plural, expected, counted}
use Rattle.verdict.specs.Verdict.{share_of, running, planes, report_of}

-- room of 864 bytes ends behind the text
abbrev says : (Line → Line) → String → Type 0
says said text = let line = said (on (replicate 864 0) 0) in take line.at line.bytes ≡ ascii text

-- edition 1, and arm 1 at its mount 70123
abbrev unarmed : Origin
unarmed = record { edition = 1; arm = 0; mount = 0 }

abbrev arm1 : Origin
arm1 = record { edition = 2; arm = 1; mount = 70123 }

pub record Said : Type 0 where
  whole : says (report_of (ascii "00000417") 6 2 0 false unarmed 9 7 26312 0 0 (ascii "")) "WHOLE 00000417, side 64: 7 blocks, no more expected\n  every grey is right: the very picture, if its blocks are of one shot\n  planes finished: 9 of 9, levels: 2, bits: 26312\n"
  cut : says (report_of (ascii "00000417") 6 2 0 false unarmed 9 3 11808 2 1533 (ascii "")) "CUT 00000417, side 64: 3 blocks, more expected\n  no grey is off by more than 45 of 255, if its blocks are of one shot\n  planes finished: 7 of 9 and 37% of the next, levels: 2, bits: 11808\n"
  little : says (report_of (ascii "00000417") 6 5 0 false unarmed 9 1 700 4 512 (ascii "")) "CUT 00000417, side 64: 1 block, no more expected\n  any grey may be wrong: too little is left to promise more\n  planes finished: 5 of 9 and 12% of the next, levels: 5, bits: 700\n"
  arm : says (report_of (ascii "00000417") 6 2 0 false arm1 9 3 11712 2 1533 (ascii "")) "CUT 00000417, side 64, arm 1, mount 70123: 3 blocks, more expected\n  no grey is off by more than 45 of 255, if its blocks are of one shot\n  planes finished: 7 of 9 and 37% of the next, levels: 2, bits: 11712\n"
  begun : says (planes 6 2 9 2 0 11808) "  planes finished: 7 of 9 and 0% of the next, levels: 2, bits: 11808\n"
  nearly : says (planes 6 2 9 2 4095 11808) "  planes finished: 7 of 9 and 99% of the next, levels: 2, bits: 11808\n"
  thumbnail_whole : says (report_of (ascii "00000417") 6 2 2 false unarmed 9 7 26312 0 0 (ascii "")) "WHOLE 00000417, thumbnail, side 16 of 64: 7 blocks, no more expected\n  every grey is right: the very thumbnail, if its blocks are of one shot\n  planes finished: 9 of 9, levels: 2, bits: 26312\n"
  thumbnail_cut : says (report_of (ascii "00000417") 6 2 1 false unarmed 9 3 11808 2 1533 (ascii "")) "CUT 00000417, thumbnail, side 32 of 64: 3 blocks, more expected\n  no grey is off by more than 24 of 255, if its blocks are of one shot\n  planes finished: 7 of 9 and 37% of the next, levels: 2, bits: 11808\n"
  thumbnail_arm : says (report_of (ascii "00000417") 6 2 2 false arm1 9 3 11700 2 2048 (ascii "")) "CUT 00000417, thumbnail, side 16 of 64, arm 1, mount 70123:\n  3 blocks, no more expected\n  no grey is off by more than 3 of 255, if its blocks are of one shot\n  planes finished: 7 of 9 and 50% of the next, levels: 2, bits: 11700\n"
  softer : says (report_of (ascii "00000417") 6 2 0 true unarmed 9 3 11808 2 1533 (ascii "")) "CUT 00000417, softer, side 64: 3 blocks, more expected\n  no grey is off by more than 45 of 255, if its blocks are of one shot\n  planes finished: 7 of 9 and 37% of the next, levels: 2, bits: 11808\n"
  softer_arm : says (report_of (ascii "00000417") 6 2 0 true arm1 9 3 11712 2 1533 (ascii "")) "CUT 00000417, softer, side 64, arm 1, mount 70123:\n  3 blocks, more expected\n  no grey is off by more than 45 of 255, if its blocks are of one shot\n  planes finished: 7 of 9 and 37% of the next, levels: 2, bits: 11712\n"
  softer_whole : says (report_of (ascii "00000417") 6 2 0 true arm1 9 7 26312 0 0 (ascii "")) "WHOLE 00000417, side 64, arm 1, mount 70123: 7 blocks, no more expected\n  every grey is right: the very picture, if its blocks are of one shot\n  planes finished: 9 of 9, levels: 2, bits: 26312\n"

pub said : Said
unfolding start_of decimal grey_limit ◌puts◌ word side_of of_thumbnail is_softer of_softer titled is_long colon shot_by awaits plural expected counted one_shot kind worth share_of running planes report_of
said = record { whole = refl; cut = refl; little = refl; arm = refl; begun = refl; nearly = refl; thumbnail_whole = refl; thumbnail_cut = refl; thumbnail_arm = refl; softer = refl; softer_arm = refl; softer_whole = refl }
