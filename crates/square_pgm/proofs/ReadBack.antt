-- What is written is read back: the header of each square that is shown, whatever its promise says in one line and whatever
-- stands behind it.
use mathlib.Core.Path.{◌≡◌, refl, sym, ap, ◌∙◌}
use mathlib.Core.Bool.{true, false, not}
use mathlib.Core.List.{List, [], ◌∷◌, ◌++◌, append_assoc}
use Prim.Native.Nat.{ℕ, zero, suc, ◌+◌, ◌^◌, ◌<◌, ◌≤◌}
use native.Mathlib.Omega.{arith}
use lib.Dec.{leb, eqb}
use lib.ListN.{length, drop, get_or, length-append}
use lib.Seq.{drop-append-add, get_or-append-add}
use borrow.Author.Tests.{ne_eqb, not-true}
use Rattle.std.specs.Prelude.{Option, Some}
use Rattle.paper.specs.Lists.{pick}
use Rattle.sizes.proofs.Ranges.{both_first, both_second}
use Rattle.pgm.specs.declared.Header.{Header}
use Rattle.pgm.specs.Ascii.{ascii, decimal}
use Rattle.pgm.specs.Header.{is_space, is_line_end, is_digit, is_passed, is_inside, past_space, with_digit, number_from, field_at, raster_at, past_magic, header_of}
use Rattle.words.specs.Line.{on, ◌puts◌, figure}
use Rattle.words.proofs.Laws.{puts_all, one_text, lengths, one_text_length, puts_all_lem}
use Rattle.words.proofs.Decimal.{decimal_length}
use Rattle.square_pgm.specs.Sides.{shown_size, size_among, side_of}
use Rattle.square_pgm.specs.Text.{header_text, headed, is_one_line}

-- a comment of one line is passed over, its line end with it
comment_passed : (text rest : List ℕ) (at : ℕ) → is_one_line text ≡ true → past_space true at ((text ++ (10 ∷ [])) ++ rest) ≡ past_space false (at + length (text ++ (10 ∷ []))) rest
unfolding is_one_line past_space is_passed is_inside is_line_end
comment_passed [] rest at h = ap (λ (i : ℕ). past_space false i rest) (omega arith)
comment_passed (c ∷ text) rest at h =
    let here : is_line_end c ≡ false = not-true _ (both_first (not (is_line_end c)) (is_one_line text) h) in
    rw here (comment_passed text rest (suc at) (both_second (not (is_line_end c)) (is_one_line text) h) ∙ ap (λ (i : ℕ). past_space false i rest) (omega arith))

-- the place behind w + 1 bytes
after : ℕ → ℕ → ℕ
after zero at = suc at
after (suc w) at = after w (suc at)

after_is : (w at : ℕ) → after w at ≡ at + suc w
unfolding after
after_is zero at = omega arith
after_is (suc w) at = after_is w (suc at) ∙ omega arith

-- a text with a header's comment before it: places behind the comment are counted from there
module _ (pre t : List ℕ) (long : 2 < length pre) where
  -- a number of w + 1 digits, at place n of t
  abbrev Digits : ℕ → ℕ → ℕ → Type 0
  Digits n w value = (at : ℕ) → number_from 0 at (drop n t) ≡ record { value = value; next = after w at }

  -- one byte that is passed over, at place n of t
  abbrev Blank : ℕ → Type 0
  Blank n = (at : ℕ) → past_space false at (drop n t) ≡ suc at

  -- a number stands behind it
  field_there : (n w value : ℕ) → Blank n → Digits (suc n) w value
      → field_at (pre ++ t) (length pre + n) ≡ Some (record { value = value; next = length pre + (suc n + suc w) })
  unfolding field_at
  field_there n w value p q =
      let at : suc (length pre + n) ≡ length pre + suc n = omega arith in
      let from : eqb (length pre + suc n) (length pre + n) ≡ false = ne_eqb (length pre + suc n) (length pre + n) (λ e. omega (arith, e)) in
      let next : eqb (length pre + suc n + suc w) (length pre + suc n) ≡ false = ne_eqb (length pre + suc n + suc w) (length pre + suc n) (λ e. omega (arith, e)) in
      let end : length pre + suc n + suc w ≡ length pre + (suc n + suc w) = omega arith in
      rw (drop-append-add pre t n, p (length pre + n), at, from, drop-append-add pre t (suc n), q (length pre + suc n), after_is w (length pre + suc n), next, end)

  -- the first number stands right behind the comment
  field_first : (w value : ℕ) → past_space false 2 (drop 2 (pre ++ t)) ≡ length pre + 0 → Digits 0 w value
      → field_at (pre ++ t) 2 ≡ Some (record { value = value; next = length pre + suc w })
  unfolding field_at
  field_first w value p q =
      let from : eqb (length pre + 0) 2 ≡ false = ne_eqb (length pre + 0) 2 (λ e. omega (arith, e)) in
      let next : eqb (length pre + 0 + suc w) (length pre + 0) ≡ false = ne_eqb (length pre + 0 + suc w) (length pre + 0) (λ e. omega (arith, e)) in
      let end : length pre + 0 + suc w ≡ length pre + suc w = omega arith in
      rw (p, from, drop-append-add pre t 0, q (length pre + 0), after_is w (length pre + 0), next, end)

  -- the raster stands behind the line end that follows them
  raster_there : (n : ℕ) → get_or t n 0 ≡ 10 → raster_at (pre ++ t) (length pre + n) ≡ Some (length pre + suc n)
  unfolding raster_at is_space
  raster_there n e =
      let behind : suc (length pre + n) ≡ length pre + suc n = omega arith in
      rw (get_or-append-add pre t n 0, e) (ap Some behind)

  -- two numbers of w + 1 digits, and 255, each behind one byte
  header_there : (side w : ℕ) → past_magic (pre ++ t) ≡ Some 2 → past_space false 2 (drop 2 (pre ++ t)) ≡ length pre + 0
      → Digits 0 w side
      → Blank (suc w) → Digits (suc (suc w)) w side
      → Blank (suc (suc w) + suc w) → Digits (suc (suc (suc w) + suc w)) 2 255
      → get_or t (suc (suc (suc w) + suc w) + 3) 0 ≡ 10
      → header_of (pre ++ t) ≡ Some (record { width = side; height = side; most = 255; start = length pre + suc (suc (suc (suc w) + suc w) + 3) })
  unfolding header_of
  header_there side w m p a b c d e f =
      let n = suc (suc (suc w) + suc w) + 3 in
      rw (m, field_first w side p a, field_there (suc w) w side b c, field_there (suc (suc w) + suc w) 2 255 d e, raster_there n f)

-- what stands before the sides: "P5", and the comment with its line end
abbrev before : List ℕ → List ℕ
before promise = ascii "P5\n# " ++ (promise ++ ascii "\n")

abbrev read : ℕ → ℕ → Option Header
read side start = Some (record { width = side; height = side; most = 255; start = start })

-- the header is taken apart behind its comment
header_parts : (promise x raster : List ℕ) (side : ℕ) → header_of (before promise ++ (x ++ raster)) ≡ read side (length (before promise) + length x)
    → header_of ((ascii "P5\n# " ++ (promise ++ (ascii "\n" ++ x))) ++ raster) ≡ read side (length (ascii "P5\n# " ++ (promise ++ (ascii "\n" ++ x))))
header_parts promise x raster side e =
    let parts : (promise ++ (ascii "\n" ++ x)) ++ raster ≡ (promise ++ ascii "\n") ++ (x ++ raster) = append_assoc promise (ascii "\n" ++ x) raster ∙ sym (append_assoc promise (ascii "\n") (x ++ raster)) in
    let long : length (before promise) + length x ≡ length (ascii "P5\n# " ++ (promise ++ (ascii "\n" ++ x))) = omega (arith, length-append promise (ascii "\n"), length-append promise (ascii "\n" ++ x)) in
    ap (λ (l : List ℕ). header_of (ascii "P5\n# " ++ l)) parts ∙ (e ∙ ap (read side) long)

-- the header read has the side and greys to 255, and the raster begins where the header ends; of the sides that are held it
-- gives k back, of smaller ones nothing
pub record ReadBack (k : ℕ) (promise raster : List ℕ) : Type 0 where
  pub header : header_of (header_text k promise ++ raster) ≡ Some (record { width = 2 ^ k; height = 2 ^ k; most = 255; start = length (header_text k promise) })
  pub side : side_of (2 ^ k) (2 ^ k) ≡ pick (leb 3 k) k 0

pub record HeadersReadBack (promise raster : List ℕ) : Type 0 where
  pub k1 : ReadBack 1 promise raster
  pub k2 : ReadBack 2 promise raster
  pub k3 : ReadBack 3 promise raster
  pub k4 : ReadBack 4 promise raster
  pub k5 : ReadBack 5 promise raster
  pub k6 : ReadBack 6 promise raster

-- whatever the promise says in one line
pub header_read_back : (promise raster : List ℕ) → is_one_line promise ≡ true → HeadersReadBack promise raster
unfolding is_space is_line_end is_digit is_passed is_inside past_space with_digit number_from past_magic decimal header_text size_among side_of after
header_read_back promise raster h = record {
  k1 = record { header = header_parts promise (ascii "2 2\n255\n") raster 2 (header_there pre (ascii "2 2\n255\n" ++ raster) long 2 0 refl (passed _ (λ at. refl)) (λ at. refl) (λ at. refl) (λ at. refl) (λ at. refl) (λ at. refl) refl); side = refl };
  k2 = record { header = header_parts promise (ascii "4 4\n255\n") raster 4 (header_there pre (ascii "4 4\n255\n" ++ raster) long 4 0 refl (passed _ (λ at. refl)) (λ at. refl) (λ at. refl) (λ at. refl) (λ at. refl) (λ at. refl) refl); side = refl };
  k3 = record { header = header_parts promise (ascii "8 8\n255\n") raster 8 (header_there pre (ascii "8 8\n255\n" ++ raster) long 8 0 refl (passed _ (λ at. refl)) (λ at. refl) (λ at. refl) (λ at. refl) (λ at. refl) (λ at. refl) refl); side = refl };
  k4 = record { header = header_parts promise (ascii "16 16\n255\n") raster 16 (header_there pre (ascii "16 16\n255\n" ++ raster) long 16 1 refl (passed _ (λ at. refl)) (λ at. refl) (λ at. refl) (λ at. refl) (λ at. refl) (λ at. refl) refl); side = refl };
  k5 = record { header = header_parts promise (ascii "32 32\n255\n") raster 32 (header_there pre (ascii "32 32\n255\n" ++ raster) long 32 1 refl (passed _ (λ at. refl)) (λ at. refl) (λ at. refl) (λ at. refl) (λ at. refl) (λ at. refl) refl); side = refl };
  k6 = record { header = header_parts promise (ascii "64 64\n255\n") raster 64 (header_there pre (ascii "64 64\n255\n" ++ raster) long 64 1 refl (passed _ (λ at. refl)) (λ at. refl) (λ at. refl) (λ at. refl) (λ at. refl) (λ at. refl) refl); side = refl };
}
  where
    pre : List ℕ
    pre = before promise

    long : 2 < length (before promise)
    long = omega arith

    -- a digit ends what is passed over
    passed : (rest : List ℕ) → ((at : ℕ) → past_space false at rest ≡ at) → past_space true 5 ((promise ++ (10 ∷ [])) ++ rest) ≡ length (before promise) + 0
    passed rest e = comment_passed promise rest 5 h ∙ (e (5 + length (promise ++ (10 ∷ []))) ∙ omega arith)

-- ---- what is written is this text, where there is room for it
texts : ℕ → List ℕ → List (List ℕ)
texts k promise = ascii "P5\n# " ∷ promise ∷ ascii "\n" ∷ figure (2 ^ k) ∷ ascii " " ∷ figure (2 ^ k) ∷ ascii "\n255\n" ∷ []

header_texts : (k : ℕ) (promise : List ℕ) → header_text k promise ≡ one_text (texts k promise)
unfolding header_text one_text texts
header_texts k promise = refl

pub header_put : (k : ℕ) (promise bytes : List ℕ) → shown_size k ≡ true → length (header_text k promise) ≤ length bytes
    → headed k promise (on bytes 0) ≡ on bytes 0 puts header_text k promise
unfolding headed puts_all texts
header_put k promise bytes shown room =
    let long : 0 + length (one_text (texts k promise)) ≤ length bytes = omega (arith, ap length (header_texts k promise)) in
    rw shown (puts_all_lem (texts k promise) bytes 0 long ∙ ap (λ (text : List ℕ). on bytes 0 puts text) (sym (header_texts k promise)))

-- it takes 52 bytes at most beside the promise
pub header_room : (k : ℕ) (promise : List ℕ) → length (header_text k promise) ≤ length promise + 52
unfolding texts lengths
header_room k promise = omega (arith, ap length (header_texts k promise), one_text_length (texts k promise), decimal_length 20 (2 ^ k))
