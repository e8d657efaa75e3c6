-- The promise in the picture's header: it is one line, so the picture is read back with it, and where there is room for it, it is
-- all there.
use mathlib.Core.Path.{◌≡◌, refl, sym, ap, ◌∙◌}
use mathlib.Core.Bool.{Bool, true, false, not, ◌&&◌, ◌||◌}
use mathlib.Core.List.{List, [], ◌∷◌, ◌++◌, append-nil}
use Prim.Native.Nat.{ℕ, zero, suc, ◌+◌, ◌-◌, ◌/◌, ◌%◌, ◌≤◌}
use native.Mathlib.Omega.{arith}
use lib.Dec.{leb, ltb, eqb}
use lib.ListN.{length}
use borrow.Author.Tests.{ne_eqb, leb-true}
use Rattle.paper.specs.Lists.{pick}
use Rattle.paper.specs.Sizes.{grey_limit}
use Rattle.paper.specs.Block.{label_character, label_characters, is_label}
use Rattle.sizes.proofs.Ranges.{both_first, both_second}
use Rattle.pgm.specs.Ascii.{ascii, decimal}
use Rattle.pgm.specs.Header.{is_line_end}
use Rattle.square_pgm.specs.Sides.{shown_size}
use Rattle.square_pgm.specs.Text.{header_text, headed, is_one_line}
use Rattle.square_pgm.proofs.ReadBack.{HeadersReadBack, header_read_back, header_put, header_room}
use Rattle.words.specs.Line.{on, ◌puts◌, figure}
use Rattle.words.proofs.Laws.{either, puts_all, one_text, lengths, one_text_length, puts_all_lem}
use Rattle.words.proofs.Decimal.{decimal_length}
use Rattle.worth.specs.Worth.{word, side_of, of_thumbnail, is_softer, of_softer}
use Rattle.worth.proofs.Laws.{AtMost, word_length, thumbnail_length, softer_length, side_length, limit_length}
use Rattle.promise.specs.Promise.{of255, promise_of, promise_text}

-- ---- no line end in it
abbrev OneLine : List ℕ → Type 0
OneLine text = is_one_line text ≡ true

one_more : (c : ℕ) (text : List ℕ) → 48 ≤ c → is_one_line text ≡ true → is_one_line (c ∷ text) ≡ true
unfolding is_one_line is_line_end
one_more c text h e = rw (ne_eqb c 10 (λ f. omega (arith, f)), ne_eqb c 13 (λ f. omega (arith, f)), e)

both_lines : (a b : List ℕ) → is_one_line a ≡ true → is_one_line b ≡ true → is_one_line (a ++ b) ≡ true
unfolding is_one_line
both_lines [] b h k = k
both_lines (c ∷ a) b h k =
    let e : not (is_line_end c) ≡ true = both_first (not (is_line_end c)) (is_one_line a) h in
    rw e (both_lines a b (both_second (not (is_line_end c)) (is_one_line a) h) k)

nothing_more : is_one_line [] ≡ true
unfolding is_one_line
nothing_more = refl

figure_line : (most n : ℕ) → is_one_line (decimal most n) ≡ true
unfolding decimal
figure_line zero n = nothing_more
figure_line (suc most) n = digits (ltb n 10) n (decimal most (n / 10)) (figure_line most (n / 10))
  where
    digits : (b : Bool) (n : ℕ) (front : List ℕ) → is_one_line front ≡ true → is_one_line (pick b ((48 + n) ∷ []) (front ++ ((48 + n % 10) ∷ []))) ≡ true
    digits true n front h = one_more (48 + n) [] (omega arith) nothing_more
    digits false n front h = both_lines front ((48 + n % 10) ∷ []) h (one_more (48 + n % 10) [] (omega arith) nothing_more)

-- no character of a label is below '0'
character_low : (c : ℕ) → label_character c ≡ true → 48 ≤ c
unfolding label_character
character_low c = go (leb 48 c) (leb c 57) refl
  where
    go : (low high : Bool) → low ≡ leb 48 c → (low && high) || (leb 65 c && leb c 90) ≡ true → 48 ≤ c
    go true high l e = leb-true 48 c (sym l)
    go false high l e = omega (arith, leb-true 65 c (both_first (leb 65 c) (leb c 90) e))

characters_line : (label : List ℕ) → label_characters label ≡ true → is_one_line label ≡ true
unfolding label_characters
characters_line [] h = nothing_more
characters_line (c ∷ label) h =
    one_more c label (character_low c (both_first (label_character c) (label_characters label) h)) (characters_line label (both_second (label_character c) (label_characters label) h))

word_line : (p : ℕ) → is_one_line (word p) ≡ true
unfolding word is_one_line is_line_end
word_line p = either OneLine (eqb p 0) _ _ refl refl

of255_line : (blocks : ℕ) → is_one_line (of255 blocks) ≡ true
unfolding of255 is_one_line is_line_end
of255_line blocks = either OneLine (leb blocks 1) _ _ refl refl

thumbnail_line : (r : ℕ) (text : List ℕ) → is_one_line text ≡ true → is_one_line (of_thumbnail r text) ≡ true
unfolding of_thumbnail
thumbnail_line r text h = either OneLine (eqb r 0) _ _ nothing_more h

softer_line : (softer : Bool) (p : ℕ) → is_one_line (of_softer softer p) ≡ true
unfolding of_softer is_one_line is_line_end
softer_line softer p = either OneLine (is_softer softer p) _ _ refl refl

-- the texts of the promise
texts : List ℕ → ℕ → ℕ → ℕ → Bool → ℕ → ℕ → List (List ℕ)
texts label k L r softer p blocks =
    label ∷ ascii " " ∷ word p ∷ ascii ", p = " ∷ figure p ∷ of_softer softer p
    ∷ of_thumbnail r (ascii ", thumbnail from side ") ∷ of_thumbnail r (figure (side_of k))
    ∷ ascii ", no grey off by more than " ∷ figure (grey_limit (L - r) p) ∷ of255 blocks ∷ []

promise_texts : (label : List ℕ) (k L r : ℕ) (softer : Bool) (p blocks : ℕ) → promise_text label k L r softer p blocks ≡ one_text (texts label k L r softer p blocks)
unfolding promise_text one_text texts
promise_texts label k L r softer p blocks = rw (append-nil (of255 blocks))

-- texts of one line are one line
all_lines : List (List ℕ) → Bool
all_lines [] = true
all_lines (text ∷ more) = is_one_line text && all_lines more

one_text_line : (more : List (List ℕ)) → all_lines more ≡ true → is_one_line (one_text more) ≡ true
unfolding all_lines one_text
one_text_line [] h = nothing_more
one_text_line (text ∷ more) h = both_lines text (one_text more) (both_first (is_one_line text) (all_lines more) h) (one_text_line more (both_second (is_one_line text) (all_lines more) h))

module _ (label : List ℕ) (k L r : ℕ) (softer : Bool) (p blocks : ℕ) (named : is_label label ≡ true) where
  label_line : is_one_line label ≡ true
  unfolding is_label
  label_line = characters_line label (both_second (eqb (length label) 8) (label_characters label) named)

  texts_lines : all_lines (texts label k L r softer p blocks) ≡ true
  unfolding all_lines texts is_one_line is_line_end
  texts_lines =
      rw (label_line, word_line p, figure_line 20 p, softer_line softer p, thumbnail_line r (ascii ", thumbnail from side ") refl, thumbnail_line r (figure (side_of k)) (figure_line 20 (side_of k)), figure_line 20 (grey_limit (L - r) p), of255_line blocks)

  pub promise_one_line : is_one_line (promise_text label k L r softer p blocks) ≡ true
  promise_one_line = rw (promise_texts label k L r softer p blocks) (one_text_line (texts label k L r softer p blocks) texts_lines)

  -- the header is read back with it, at every side that is shown
  pub promise_read_back : (raster : List ℕ) → HeadersReadBack (promise_text label k L r softer p blocks) raster
  promise_read_back raster = header_read_back (promise_text label k L r softer p blocks) raster promise_one_line

-- ---- all of it is there
of255_length : (blocks : ℕ) → length (of255 blocks) ≤ 23
unfolding of255
of255_length blocks = either (AtMost 23) (leb blocks 1) _ _ (omega arith) (omega arith)

module _ (label : List ℕ) (k L r : ℕ) (softer : Bool) (p blocks : ℕ) where
  texts_length : length (one_text (texts label k L r softer p blocks)) ≤ length label + 118
  unfolding texts lengths
  texts_length =
      omega (arith, one_text_length (texts label k L r softer p blocks), word_length p, decimal_length 20 p, softer_length softer p, thumbnail_length r (ascii ", thumbnail from side "), thumbnail_length r (figure (side_of k)), side_length k, limit_length (L - r) p, of255_length blocks)

  module _ (bytes : List ℕ) (short : length label ≤ 8) where
    -- in room of 160 bytes the promise of a label is put as one text
    pub promise_there : 160 ≤ length bytes → promise_of label k L r softer p blocks (on bytes 0) ≡ on bytes 0 puts promise_text label k L r softer p blocks
    unfolding promise_of puts_all texts
    promise_there room =
        let long : 0 + length (one_text (texts label k L r softer p blocks)) ≤ length bytes = omega (arith, texts_length) in
        puts_all_lem (texts label k L r softer p blocks) bytes 0 long ∙ ap (λ (text : List ℕ). on bytes 0 puts text) (sym (promise_texts label k L r softer p blocks))

    -- and in room of 208 bytes the header with it is the text that is read back, at the side 2 ^ j of what is shown
    pub header_with_promise : (j : ℕ) → shown_size j ≡ true → 208 ≤ length bytes
        → headed j (promise_text label k L r softer p blocks) (on bytes 0) ≡ on bytes 0 puts header_text j (promise_text label k L r softer p blocks)
    header_with_promise j shown room =
        let promise = promise_text label k L r softer p blocks in
        header_put j promise bytes shown (omega (arith, header_room j promise, ap length (promise_texts label k L r softer p blocks), texts_length))
