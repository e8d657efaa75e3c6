-- The promise, as a person reads it, by computing what the definition says.
use Rattle.std.specs.Prelude.{◌≡◌, refl, true, false, take, replicate}
use Prim.Native.String.{String}
use Rattle.paper.specs.Sizes.{grey_limit}
use Rattle.pgm.specs.Ascii.{ascii, decimal}
use Rattle.words.specs.Line.{Line, on, ◌puts◌}
use Rattle.worth.specs.Worth.{word, side_of, of_thumbnail, is_softer, of_softer}
use Rattle.promise.specs.Promise.{of255, promise_of}

-- room of 160 bytes ends behind the text
abbrev says : (Line → Line) → String → Type 0
says said text = let line = said (on (replicate 160 0) 0) in take line.at line.bytes ≡ ascii text

pub record Said : Type 0 where
  picture : says (promise_of (ascii "00000417") 6 2 0 false 2 3) "00000417 CUT, p = 2, no grey off by more than 45 of 255, if of one shot"
  thumbnail : says (promise_of (ascii "00000417") 6 2 1 false 2 3) "00000417 CUT, p = 2, thumbnail from side 64, no grey off by more than 24 of 255, if of one shot"
  softer : says (promise_of (ascii "00000417") 6 2 0 true 2 3) "00000417 CUT, p = 2, softer, no grey off by more than 45 of 255, if of one shot"
  softer_whole : says (promise_of (ascii "00000417") 6 2 0 true 0 3) "00000417 WHOLE, p = 0, no grey off by more than 0 of 255, if of one shot"

pub said : Said
unfolding decimal grey_limit ◌puts◌ word side_of of_thumbnail is_softer of_softer of255 promise_of
said = record { picture = refl; thumbnail = refl; softer = refl; softer_whole = refl }
