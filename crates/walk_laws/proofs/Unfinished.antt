-- The true p, of any bits at all: what follows from where the bits of a plane are cut, and that after its last bit nothing of the next is
-- settled.
use Rattle.std.specs.Prelude.{◌≡◌, refl, Bool, List, ◌++◌, ℕ, suc, ◌-◌, ◌^◌, ◌<◌, ◌≤◌, leb, ℤ, pos, take, drop, replicate}
use Rattle.std.proofs.Common.{sym, ◌∙◌, arith, leb-true, leb-false, le-leb, take_at}
use Rattle.std.proofs.Math.Path.{ap}
use Rattle.std.proofs.Math.Bool.{false}
use Rattle.std.proofs.lemmas.Bool.{lt-leb}
use Rattle.std.proofs.Math.ListN.{length, length-append}
use Rattle.std.proofs.lemmas.List.{length-replicate}
use Rattle.std.proofs.Math.Seq.{drop-append_seam}
use Rattle.paper.specs.Walk.{depth, decode_of}
use Rattle.walk_laws.specs.Together.{Decodes}
use Rattle.walk_laws.specs.Read.{Enough, Length, most_read}
use Rattle.walk_laws.specs.Asks.{square_sized}
use Rattle.walk_laws.specs.Down.{walk_down}
use Rattle.walk_laws.proofs.Undecided.{planes_dry}
use Rattle.walk_laws.specs.Unfinished.{planes_over, AllRead, bits_through, count_below, planes_read, count_from, finished_has, most_has, has_over, has_through, has_first, has_same, has_cut, has_others, has_last, finished_read, unfinished_most}

module _ (k L n : ℕ) where
  abbrev start : List ℤ
  start = replicate (4 ^ k) (pos 0)

  abbrev down : ℕ → Decodes (List ℤ)
  down q = walk_down (depth k L) L q n start

  -- the bits l have all that planes n - 1 to q take
  abbrev Has : ℕ → List Bool → Type 0
  Has q l = Enough (Length (4 ^ k)) (most_read k L n) (down q) l 0

  abbrev unfinished : List Bool → ℕ
  unfinished l = (decode_of k L n l).unfinished

  has_none : L < k → (q : ℕ) (m : List Bool) → q ≤ n → (E : Has q m) → (decode_of k L n E.taken).place ≡ 0
  unfolding decode_of
  has_none levels q m h E = ap (λ r. r.1.place) (has_others k L n q m h E) ∙ (planes_dry (depth k L) L q E.answer (square_sized k L E.answer levels E.known)).1

  -- ---- any bits
  -- At most q planes are unfinished exactly if every bit of planes n - 1 to q has been read: so from the bits (`finished_read` has it from the
  -- planes).
  pub read_finished : (q : ℕ) (l : List Bool) → AllRead k L n q l → unfinished l ≤ q
  read_finished q l a =
      let z = replicate (most_read k L n) false in
      let E = most_has k L n q (l ++ z) (omega (arith, length-append l z, length-replicate (most_read k L n) false)) in
      let none : length E.taken ≤ length l = omega (arith, ap length (ap (λ s. s.1) (sym (has_over k L n q (l ++ z) E)) ∙ a z), length-append (planes_over k L n q l).1 z, length-append l z, ap length E.parts, length-append E.taken E.rest) in
      leb-true (unfinished l) q (ap (λ m. leb (unfinished m) q) (sym (take_at l z (length l) refl)) ∙ has_cut k L n q (l ++ z) E (length l) ∙ le-leb (length E.taken) (length l) none)

  -- Then more bits change nothing about these planes.
  pub read_same : (q : ℕ) (l : List Bool) → AllRead k L n q l → (r : List Bool) → planes_over k L n q (l ++ r) ≡ ((planes_over k L n q l).0, (planes_over k L n q l).1 ++ r)
  read_same q l a = has_same k L n q l (finished_has k L n q l (read_finished q l a))

  -- The bits that they take are the first ones.
  pub through_first : (q : ℕ) (m : List Bool) → AllRead k L n q m → (planes_over k L n q m).1 ≡ drop (bits_through k L n q m) m
  through_first q m a =
      let E = finished_has k L n q m (read_finished q m a) in
      ap (λ s. s.1) (has_over k L n q m E) ∙ sym (drop-append_seam E.taken E.rest) ∙ (λ i. drop (sym (has_through k L n q m E) i) (sym E.parts i))

  -- Of bits m that have every bit of planes n - 1 to q, the first b finish these planes exactly if they reach their last bit.
  pub cut_finished : (q : ℕ) (m : List Bool) → AllRead k L n q m → (b : ℕ) → leb (unfinished (take b m)) q ≡ leb (bits_through k L n q m) b
  cut_finished q m a b = let E = finished_has k L n q m (read_finished q m a) in has_cut k L n q m E b ∙ ap (λ c. leb c b) (sym (has_through k L n q m E))

  first_part : (q : ℕ) (l r : List Bool) → AllRead k L n q (l ++ r) → leb (unfinished l) q ≡ leb (bits_through k L n q (l ++ r)) (length l)
  first_part q l r a = ap (λ m. leb (unfinished m) q) (sym (take_at l r (length l) refl)) ∙ cut_finished q (l ++ r) a (length l)

  -- Where they have not all been read, all of l is read (`read_all`), and a further bit is due.
  pub unfinished_due : (q : ℕ) (l : List Bool) → q < unfinished l → (r : List Bool) → AllRead k L n q (l ++ r) → length l < bits_through k L n q (l ++ r)
  unfinished_due q l h r a = leb-false (bits_through k L n q (l ++ r)) (length l) (sym (first_part q l r a) ∙ lt-leb (unfinished l) q h)

  -- After the last bit of plane q exactly q planes are unfinished, and one bit before it q + 1.
  pub last_bit_any : (q : ℕ) (m : List Bool) → q ≤ n → AllRead k L n q m → unfinished (take (bits_through k L n q m) m) ≡ q
  last_bit_any q m h a = let E = finished_has k L n q m (read_finished q m a) in ap unfinished (has_first k L n q m E) ∙ has_last k L n q m h E

  -- Then nothing of the next plane is settled.
  pub last_bit_place : L < k → (q : ℕ) (m : List Bool) → q ≤ n → AllRead k L n q m → (decode_of k L n (take (bits_through k L n q m) m)).place ≡ 0
  last_bit_place levels q m h a = let E = finished_has k L n q m (read_finished q m a) in ap (λ l. (decode_of k L n l).place) (has_first k L n q m E) ∙ has_none levels q m h E

  pub before_last_bit_any : (q : ℕ) (m : List Bool) → q < n → AllRead k L n q m → unfinished (take (bits_through k L n q m - 1) m) ≡ suc q
  before_last_bit_any q m h a =
      let c = bits_through k L n q m in
      let b = bits_through k L n (suc q) m in
      let above = finished_read k L n (suc q) m (omega (arith, read_finished q m a)) in
      let less : b < c = leb-false c b (sym (cut_finished q m a b) ∙ lt-leb (unfinished (take b m)) q (omega (arith, last_bit_any (suc q) m h above))) in
      omega (
        arith,
        leb-true (unfinished (take (c - 1) m)) (suc q) (cut_finished (suc q) m above (c - 1) ∙ le-leb b (c - 1) (omega arith)),
        leb-false (unfinished (take (c - 1) m)) q (cut_finished q m a (c - 1) ∙ lt-leb c (c - 1) (omega arith)),
      )

  -- So p is n less the planes whose every bit has been read, whatever bits make l whole.
  pub unfinished_true : (l r : List Bool) → AllRead k L n 0 (l ++ r) → unfinished l ≡ n - planes_read k L n (l ++ r) (length l)
  unfolding decode_of
  unfinished_true l r a =
      let whole : (q : ℕ) → AllRead k L n q (l ++ r) = λ q. finished_read k L n q (l ++ r) (omega (arith, read_finished 0 (l ++ r) a)) in
      let e : count_below n (leb (unfinished l)) ≡ planes_read k L n (l ++ r) (length l) = λ i. count_below n (λ q. first_part q l r (whole q) i) in
      omega (arith, e, count_from (unfinished l) n, unfinished_most k L n l)
