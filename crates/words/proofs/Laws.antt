-- A text put into a line, as the code has it: the part of the line that it takes is lent, and the text copied there.
use mathlib.Core.Path.{◌≡◌, refl, sym, ap, ◌∙◌}
use mathlib.Core.Bool.{Bool, true, false}
use mathlib.Core.List.{List, [], ◌∷◌, ◌++◌, append_assoc}
use Prim.Native.Nat.{ℕ, ◌+◌, ◌<◌, ◌≤◌}
use native.Mathlib.Omega.{arith}
use native.Mathlib.Nat.{add-zero}
use lib.Dec.{leb}
use lib.ListN.{length, take, drop, length-append, length-take, length-drop, take-append-drop}
use lib.Seq.{drop-drop, take-append_seam, drop-append-add}
use borrow.Author.Tests.{le-leb, lt-leb, leb-true}
use Rattle.paper.specs.Lists.{pick}
use Rattle.words.specs.Line.{Line, on, ◌puts◌}

module _ (text line : List ℕ) (at : ℕ) where
  pub no_room : length line < at + length text → on line at puts text ≡ on line at
  unfolding ◌puts◌
  no_room h = rw (lt-leb (at + length text) (length line) h)

  pub put_there : at + length text ≤ length line → on line at puts text ≡ on (take at line ++ (text ++ drop (at + length text) line)) (at + length text)
  unfolding ◌puts◌
  put_there h = rw (le-leb (at + length text) (length line) h)

-- no text changes nothing
pub put_nothing : (line : Line) → line puts [] ≡ line
unfolding ◌puts◌
put_nothing line = rw (add-zero line.at, take-append-drop line.at line.bytes) (go (leb line.at (length line.bytes)))
  where
    go : (b : Bool) → pick b line line ≡ line
    go true = refl
    go false = refl

-- what holds of both holds of the one that is picked
pub either : {A : Type 0} (P : A → Type 0) (b : Bool) (x y : A) → P x → P y → P (pick b x y)
either P true x y h k = h
either P false x y h k = k

-- ---- a line's place stays within its room
abbrev pub Inside : Line → Type 0
Inside line = line.at ≤ length line.bytes

pub puts_inside : (line : Line) (text : List ℕ) → Inside line → Inside (line puts text)
unfolding ◌puts◌
puts_inside line text h = go (leb (line.at + length text) (length line.bytes)) refl
  where
    go : (b : Bool) → leb (line.at + length text) (length line.bytes) ≡ b → Inside (pick b (on (take line.at line.bytes ++ (text ++ drop (line.at + length text) line.bytes)) (line.at + length text)) line)
    go false e = h
    go true e =
        omega (arith, length-append (take line.at line.bytes) (text ++ drop (line.at + length text) line.bytes), length-append text (drop (line.at + length text) line.bytes), length-take line.at line.bytes, length-drop (line.at + length text) line.bytes, leb-true (line.at + length text) (length line.bytes) e)

pub pick_inside : (b : Bool) (x y : Line) → Inside x → Inside y → Inside (pick b x y)
pick_inside = either Inside

-- two texts one behind the other are one text, where there is room for both
module _ (bytes a b : List ℕ) (at : ℕ) (h : at + (length a + length b) ≤ length bytes) where
  front : List ℕ
  front = take at bytes ++ a

  front_length : length front ≡ at + length a
  unfolding front
  front_length = omega (arith, length-append (take at bytes) a, length-take at bytes)

  first_put : on bytes at puts a ≡ on (front ++ drop (length front) bytes) (length front)
  unfolding ◌puts◌ front
  first_put = rw (le-leb (at + length a) (length bytes) (omega arith), front_length, append_assoc (take at bytes) a (drop (at + length a) bytes))

  second_put : on (front ++ drop (length front) bytes) (length front) puts b ≡ on (front ++ (b ++ drop (length front + length b) bytes)) (length front + length b)
  unfolding ◌puts◌
  second_put =
      let room : length front + length b ≤ length (front ++ drop (length front) bytes) = omega (arith, front_length, length-append front (drop (length front) bytes), length-drop (length front) bytes) in
      rw (le-leb (length front + length b) (length (front ++ drop (length front) bytes)) room, take-append_seam front (drop (length front) bytes), drop-append-add front (drop (length front) bytes) (length b), drop-drop (length b) (length front) bytes)

  both_put : on bytes at puts (a ++ b) ≡ on (front ++ (b ++ drop (length front + length b) bytes)) (length front + length b)
  unfolding ◌puts◌ front
  both_put =
      let long : at + length (a ++ b) ≡ length front + length b = omega (arith, front_length, length-append a b) in
      let room : length front + length b ≤ length bytes = omega (arith, front_length) in
      rw (long, le-leb (length front + length b) (length bytes) room, append_assoc a b (drop (length front + length b) bytes), append_assoc (take at bytes) a (b ++ drop (length front + length b) bytes))

  pub puts_joined : on bytes at puts a puts b ≡ on bytes at puts (a ++ b)
  puts_joined = ap (λ (line : Line). line puts b) first_put ∙ (second_put ∙ sym both_put)

-- texts put one behind the other, and the one text that they are
unfoldable pub puts_all : Line → List (List ℕ) → Line
puts_all line [] = line
puts_all line (text ∷ texts) = puts_all (line puts text) texts

unfoldable pub one_text : List (List ℕ) → List ℕ
one_text [] = []
one_text (text ∷ texts) = text ++ one_text texts

pub puts_all_lem : (texts : List (List ℕ)) (bytes : List ℕ) (at : ℕ) → at + length (one_text texts) ≤ length bytes → puts_all (on bytes at) texts ≡ on bytes at puts one_text texts
unfolding puts_all one_text
puts_all_lem [] bytes at h = sym (put_nothing (on bytes at))
puts_all_lem (text ∷ texts) bytes at h =
    let room : at + (length text + length (one_text texts)) ≤ length bytes = omega (arith, length-append text (one_text texts)) in
    let there = first_put bytes text (one_text texts) at room in
    let next = front bytes text (one_text texts) at room in
    let behind : length next + length (one_text texts) ≤ length (next ++ drop (length next) bytes) = omega (arith, front_length bytes text (one_text texts) at room, length-append next (drop (length next) bytes), length-drop (length next) bytes) in
    ap (λ (line : Line). puts_all line texts) there
    ∙ (puts_all_lem texts (next ++ drop (length next) bytes) (length next) behind
    ∙ (ap (λ (line : Line). line puts one_text texts) (sym there) ∙ puts_joined bytes text (one_text texts) at room))

unfoldable pub lengths : List (List ℕ) → ℕ
lengths [] = 0
lengths (text ∷ texts) = length text + lengths texts

pub one_text_length : (texts : List (List ℕ)) → length (one_text texts) ≡ lengths texts
unfolding lengths one_text
one_text_length [] = refl
one_text_length (text ∷ texts) = rw (length-append text (one_text texts), one_text_length texts)

-- some texts, and then others
pub puts_more : (texts more : List (List ℕ)) (line : Line) → puts_all line (texts ++ more) ≡ puts_all (puts_all line texts) more
unfolding puts_all
puts_more [] more line = refl
puts_more (text ∷ texts) more line = puts_more texts more (line puts text)

-- one text or another, as lists of them
pub puts_either : (b : Bool) (texts more : List (List ℕ)) (line : Line) → pick b (puts_all line texts) (puts_all line more) ≡ puts_all line (pick b texts more)
puts_either true texts more line = refl
puts_either false texts more line = refl

pub lengths_more : (texts more : List (List ℕ)) → lengths (texts ++ more) ≡ lengths texts + lengths more
unfolding lengths
lengths_more [] more = omega arith
lengths_more (text ∷ texts) more = rw (lengths_more texts more) (omega arith)
