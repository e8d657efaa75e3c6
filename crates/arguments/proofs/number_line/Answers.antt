-- `number_line`: a line is as long as it was, whatever was put into it. Assumes nothing.
use mathlib.Core.Path.{◌≡◌, refl, sym, ap, ◌∙◌}
use mathlib.Core.Bool.{Bool, true, false}
use mathlib.Core.List.{List, ◌++◌}
use Prim.Native.Nat.{ℕ, ◌+◌}
use native.Mathlib.Omega.{arith}
use lib.Dec.{leb}
use lib.ListN.{length, take, drop, length-append, length-take, length-drop}
use borrow.Author.Tests.{leb-true}
use Rattle.paper.specs.Lists.{pick}
use Rattle.words.specs.Line.{Line, on, ◌puts◌}
use Rattle.arguments.proofs.number_line.Goals as goal

puts_length : (line : Line) (text : List ℕ) → length (line puts text).bytes ≡ length line.bytes
unfolding ◌puts◌
puts_length line text = go (leb (line.at + length text) (length line.bytes)) refl
  where
    go : (b : Bool) → leb (line.at + length text) (length line.bytes) ≡ b
        → length (pick b (on (take line.at line.bytes ++ (text ++ drop (line.at + length text) line.bytes)) (line.at + length text)) line).bytes ≡ length line.bytes
    go false e = refl
    go true e =
        omega (arith, length-append (take line.at line.bytes) (text ++ drop (line.at + length text) line.bytes), length-append text (drop (line.at + length text) line.bytes), length-take line.at line.bytes, length-drop (line.at + length text) line.bytes, leb-true (line.at + length text) (length line.bytes) e)

-- one text put
kept : (line : Line) (text : List ℕ) {out : Line} → line puts text ≡ out → length out.bytes ≡ length line.bytes
kept line text e = ap (λ (l : Line). length l.bytes) (sym e) ∙ puts_length line text

-- a text and a number put
kept_both : (line : Line) (text more : List ℕ) {out : Line} → line puts text puts more ≡ out → length out.bytes ≡ length line.bytes
kept_both line text more e = ap (λ (l : Line). length l.bytes) (sym e) ∙ puts_length (line puts text) more ∙ puts_length line text

pub returns-in-Err-TooLong-clause-same_length : goal.returns-in-Err-TooLong-clause-same_length
returns-in-Err-TooLong-clause-same_length g c =
    kept _ _ c.put-in-Err-TooLong.ensures.line_value ∙ kept_both _ _ _ c.put_figure.ensures.line_value ∙ kept _ _ c.put-2.ensures.line_value ∙ kept _ _ c.put.ensures.line_value

pub returns-in_default-clause-same_length : goal.returns-in_default-clause-same_length
returns-in_default-clause-same_length g c = kept _ _ c.put-in_default.ensures.line_value ∙ kept _ _ c.put-2.ensures.line_value ∙ kept _ _ c.put.ensures.line_value
