-- The true p, of any bits at all: unfinished planes are n less the planes whose every bit has been read. What it is that
-- every bit of a plane has been read is said of the bits and not of the decoder's flag.
use Rattle.std.specs.Prelude.{◌≡◌, refl, Bool, true, List, [], ◌++◌, ℕ, zero, suc, ◌+◌, ◌-◌, ◌^◌, ◌<◌, ◌≤◌, leb, ltb, ℤ, pos, take, drop, replicate}
use Rattle.std.proofs.Common.{sym, ◌∙◌, append-nil, arith, leb-true, leb-false, le-leb, ltb-true, ltb-false, length-take, take-append-drop, take_at}
use Rattle.std.proofs.Math.Path.{ap}
use Rattle.std.proofs.Math.Bool.{false}
use Rattle.std.proofs.Math.Nat.{pow-le-pow_right}
use Rattle.std.proofs.lemmas.Bool.{lt-leb}
use Rattle.std.proofs.Math.ListN.{length, length-append}
use Rattle.std.proofs.lemmas.List.{length-replicate}
use Rattle.std.proofs.Math.Seq.{take-append-add}
use Rattle.paper.specs.Walk.{Decoder, walk_planes, depth, decode_of}
use Rattle.walk_laws.specs.Together.{tape, Decodes}
use Rattle.walk_laws.specs.Read.{Enough, enough_is, enough_more, Missed, Outcome, enough, short, Length, most_read}
use Rattle.walk_laws.specs.Down.{walk_down, count_most, none_left, reads_down, missed_is, down_place, goes_on}

-- ---- planes n - 1 down to q
-- the numbers that they make of bits l, and the bits that they leave
unfoldable pub planes_over : ℕ → ℕ → ℕ → ℕ → List Bool → List ℤ × List Bool
planes_over k L n q l = let r = walk_down (depth k L) L q n (replicate (4 ^ k) (pos 0)) (tape l false 0) in (r.0, r.1.left)

-- Every bit of these planes has been read from l: of bits that stand behind l they take none.
abbrev pub AllRead : ℕ → ℕ → ℕ → ℕ → List Bool → Type 0
AllRead k L n q l = (r : List Bool) → (planes_over k L n q (l ++ r)).1 ≡ (planes_over k L n q l).1 ++ r

-- how many bits they take of bits m that have every bit of theirs
unfoldable pub bits_through : ℕ → ℕ → ℕ → ℕ → List Bool → ℕ
bits_through k L n q m = length m - length (planes_over k L n q m).1

-- for how many numbers below n a test holds
unfoldable pub count_below : ℕ → (ℕ → Bool) → ℕ
count_below zero f = 0
count_below (suc n) f = elim (f n) [ true ↦ suc (count_below n f) | false ↦ count_below n f ]

-- the planes, of n, whose every bit is among the first b of the bits m
abbrev pub planes_read : ℕ → ℕ → ℕ → List Bool → ℕ → ℕ
planes_read k L n m b = count_below n (λ q. leb (bits_through k L n q m) b)

pub count_from : (p n : ℕ) → count_below n (leb p) ≡ n - p
unfolding count_below
count_from p zero = omega arith
count_from p (suc n) = go (leb p n) refl (count_from p n)
  where
    go : (b : Bool) → leb p n ≡ b → count_below n (leb p) ≡ n - p → ◌≡◌ {A = ℕ} (elim b [ true ↦ suc (count_below n (leb p)) | false ↦ count_below n (leb p) ]) (suc n - p)
    go true e ih = omega (arith, leb-true p n e)
    go false e ih = omega (arith, leb-false p n e)

module _ (k L n : ℕ) where
  abbrev start : List ℤ
  start = replicate (4 ^ k) (pos 0)

  abbrev down : ℕ → Decodes (List ℤ)
  down q = walk_down (depth k L) L q n start

  -- the bits l have all that planes n - 1 to q take
  abbrev Has : ℕ → List Bool → Type 0
  Has q l = Enough (Length (4 ^ k)) (most_read k L n) (down q) l 0

  -- they have, or a bit is missed
  abbrev HasOrNot : ℕ → List Bool → Type 0
  HasOrNot q l = Outcome (Length (4 ^ k)) (most_read k L n) (down q) l 0

  abbrev unfinished : List Bool → ℕ
  unfinished l = (decode_of k L n l).unfinished

  outcome : (q : ℕ) (l : List Bool) → HasOrNot q l
  outcome q l = (reads_down (depth k L) L (4 ^ k) q n start (length-replicate (4 ^ k) (pos 0))).from l 0

  missed_more : (q : ℕ) (l : List Bool) → (down q (tape l false 0)).1.missed ≡ ltb q (unfinished l)
  unfolding decode_of
  missed_more q l = missed_is (depth k L) L (4 ^ k) q n start (length-replicate (4 ^ k) (pos 0)) l

  has_finished : (q : ℕ) (l : List Bool) → Has q l → unfinished l ≤ q
  has_finished q l E = ltb-false q (unfinished l) (sym (missed_more q l) ∙ ap (λ r. r.1.missed) (enough_is E))

  short_unfinished : (q : ℕ) (l : List Bool) → Missed (Length (4 ^ k)) (down q) (tape l false 0) → q < unfinished l
  short_unfinished q l M = ltb-true q (unfinished l) (sym (missed_more q l) ∙ ap (λ r. r.1.missed) M.is)

  pub finished_has : (q : ℕ) (l : List Bool) → unfinished l ≤ q → Has q l
  finished_has q l h = go (outcome q l)
    where
      go : HasOrNot q l → Has q l
      go (enough E) = E
      go (short g M) = absurd (omega (arith, short_unfinished q l M))

  -- as many bits as decoding can read
  pub most_has : (q : ℕ) (l : List Bool) → most_read k L n ≤ length l → Has q l
  most_has q l h = go (outcome q l)
    where
      go : HasOrNot q l → Has q l
      go (enough E) = E
      go (short g M) = absurd (omega arith)

  has_place : (q : ℕ) (l : List Bool) (E : Has q l) → E.place ≡ 0
  has_place q l E =
      let none : (down q (tape l false 0)).1.missed ≡ false = ap (λ r. r.1.missed) (enough_is E) in
      ap (λ r. r.1.place) (sym (enough_is E)) ∙ down_place (depth k L) L (4 ^ k) q n start (length-replicate (4 ^ k) (pos 0)) l none

  pub has_over : (q : ℕ) (l : List Bool) (E : Has q l) → planes_over k L n q l ≡ (E.answer, E.rest)
  unfolding planes_over
  has_over q l E = ap (λ r. (r.0, r.1.left)) (enough_is E)

  pub has_through : (q : ℕ) (l : List Bool) (E : Has q l) → bits_through k L n q l ≡ length E.taken
  unfolding bits_through
  has_through q l E = omega (arith, ap (λ r. length r.1) (has_over q l E), ap length E.parts, length-append E.taken E.rest)

  -- they are the first ones
  pub has_first : (q : ℕ) (m : List Bool) (E : Has q m) → take (bits_through k L n q m) m ≡ E.taken
  has_first q m E = (λ i. take (has_through q m E i) (E.parts i)) ∙ take_at E.taken E.rest (length E.taken) refl

  pub has_same : (q : ℕ) (l : List Bool) → Has q l → (r : List Bool) → planes_over k L n q (l ++ r) ≡ ((planes_over k L n q l).0, (planes_over k L n q l).1 ++ r)
  has_same q l E r = has_over q (l ++ r) (enough_more r E) ∙ ap (λ s. (s.0, s.1 ++ r)) (sym (has_over q l E))

  -- cut behind their last bit the planes are finished, cut before it they are not
  pub has_cut : (q : ℕ) (m : List Bool) (E : Has q m) (b : ℕ) → leb (unfinished (take b m)) q ≡ leb (length E.taken) b
  has_cut q m E b = go (leb (length E.taken) b) refl (outcome q (take b m))
    where
      c : ℕ
      c = length E.taken

      -- the same bits of the first b
      cut : c ≤ b → Has q (take b m)
      cut h = record {
        answer = E.answer;
        known = E.known;
        taken = E.taken;
        rest = take (b - c) E.rest;
        parts = (λ i. take (let e : b ≡ c + (b - c) = omega arith in e i) (E.parts i)) ∙ take-append-add E.taken E.rest (b - c);
        few = E.few;
        place = E.place;
        is = E.is;
      }

      go : (o : Bool) → leb c b ≡ o → HasOrNot q (take b m) → leb (unfinished (take b m)) q ≡ o
      go true e O = le-leb (unfinished (take b m)) q (has_finished q (take b m) (cut (leb-true c b e)))
      go false e (enough D) =
          let same : bits_through k L n q m ≡ length D.taken = ap (bits_through k L n q) (sym (take-append-drop b m)) ∙ has_through q (take b m ++ drop b m) (enough_more (drop b m) D) in
          absurd (omega (arith, same, has_through q m E, leb-false c b e, ap length D.parts, length-append D.taken D.rest, length-take b m))
      go false e (short g M) = lt-leb (unfinished (take b m)) q (short_unfinished q (take b m) M)

  -- after the last bit of these planes the others have none
  pub has_others : (q : ℕ) (m : List Bool) → q ≤ n → (E : Has q m) → walk_planes Decoder (depth k L) L n start (tape E.taken false 0) ≡ walk_planes Decoder (depth k L) L q E.answer (tape [] false 0)
  has_others q m h E =
      let s : down q (tape E.taken false 0) ≡ (E.answer, tape [] false 0) = ap (λ l. down q (tape l false 0)) (sym (append-nil E.taken)) ∙ E.is []
      ∙ ap (λ z. (E.answer, tape [] false z)) (has_place q m E) in
      goes_on (depth k L) L (4 ^ k) q n start (length-replicate (4 ^ k) (pos 0)) E.taken h (ap (λ r. r.1.missed) s) ∙ ap (λ r. walk_planes Decoder (depth k L) L q r.0 r.1) s

  pub has_last : (q : ℕ) (m : List Bool) → q ≤ n → (E : Has q m) → unfinished E.taken ≡ q
  unfolding decode_of
  has_last q m h E = ap (λ r. r.0.1) (has_others q m h E) ∙ none_left (depth k L) L q E.answer (omega (arith, E.known, pow-le-pow_right {n = 4} (omega arith) {i = 0} {j = k} (omega arith)))

  -- ---- any bits
  -- Bits as many as decoding can read have every bit of every plane: so any bits are a first part of such bits.
  pub most_read_lem : (q : ℕ) (l : List Bool) → most_read k L n ≤ length l → AllRead k L n q l
  most_read_lem q l h r = ap (λ s. s.1) (has_same q l (most_has q l h) r)

  -- At most q planes are unfinished exactly if every bit of planes n - 1 to q has been read.
  pub finished_read : (q : ℕ) (l : List Bool) → unfinished l ≤ q → AllRead k L n q l
  finished_read q l h r = ap (λ s. s.1) (has_same q l (finished_has q l h) r)

  -- there are at most n
  pub unfinished_most : (l : List Bool) → unfinished l ≤ n
  unfolding decode_of
  unfinished_most l = count_most (depth k L) L n start (tape l false 0)
