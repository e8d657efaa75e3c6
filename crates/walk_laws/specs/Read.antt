-- What decoding reads of any bits at all: all of them while a plane is unfinished, none after plane 0 is complete,
-- and never more than a fixed count. It writes as many numbers as there are places.
use Rattle.std.proofs.Math.Path.{◌≡◌, ap}
use Rattle.std.specs.Prelude.{refl, Bool, false, leb, ℤ, pos, nat_abs, take, drop, replicate}
use Rattle.std.proofs.Common.{sym, ◌∙◌, suc-mul, mul-le-mul, leb-true, leb-false, length-take, length-append, take-append-drop, take_all}
use Rattle.std.proofs.Math.Bool.{true}
use Rattle.std.proofs.Math.Option.{Option, none, some}
use mathlib.Core.List.{List, [], ◌∷◌, ◌++◌, append_assoc}
use Prim.Native.Nat.{ℕ, zero, suc, ◌+◌, ◌*◌, ◌-◌, ◌^◌, ◌<◌, ◌≤◌}
use Rattle.std.proofs.Math.Nat.{pow-le-pow_right}
use native.Mathlib.Omega.{arith}
use Rattle.std.proofs.Math.ListN.{length}
use Rattle.std.proofs.lemmas.List.{length-replicate}
use Rattle.paper.specs.Sizes.{most_size, most_planes}
use Rattle.paper.specs.Walk.{reaches, Due, place_after, Decoder, Tape, next_bit, behind_plane, is_one, test_set, refined, begun, walk_number, walk_numbers, walk_set, walk_rest, walk_plane, walk_planes, depth, decode_of, Settled, ◌next◌}
use Rattle.list_laws.specs.Parts.{fourth}
use Rattle.walk_laws.specs.Asks.{test_known, test_asks, number_known, number_asks, after_bit, opened}
use Rattle.walk_laws.specs.Together.{tape, Decodes}
use Rattle.walk_laws.specs.Bound.{set_tests, rest_tests, set_tests_lem, rest_tests_lem}

-- ---- a walk and its tape
-- P says what is known of the answer, by whether a bit was missed.
-- Enough: a first part of the bits l is taken, of at most K bits, and what stands behind that part is left as it is.
pub record Enough {A : Type 0} (P : Bool → A → Type 0) (K : ℕ) (f : Decodes A) (l : List Bool) (z : ℕ) : Type 0 where
  pub answer : A
  pub known : P false answer
  pub taken : List Bool
  pub rest : List Bool
  pub parts : l ≡ taken ++ rest
  pub few : length taken ≤ K
  pub place : ℕ
  pub is : (r : List Bool) → f (tape (taken ++ r) false z) ≡ (answer, tape r false place)

-- Missed: all of t is read, and a bit is missed.
pub record Missed {A : Type 0} (P : Bool → A → Type 0) (f : Decodes A) (t : Tape) : Type 0 where
  pub answer : A
  pub known : P true answer
  pub place : ℕ
  pub is : f t ≡ (answer, tape [] true place)

pub data Outcome {A : Type 0} (P : Bool → A → Type 0) (K : ℕ) (f : Decodes A) (l : List Bool) (z : ℕ) : Type 0 where
  enough : Enough P K f l z → Outcome P K f l z
  short : length l < K → Missed P f (tape l false z) → Outcome P K f l z

-- any bits, from any place on, and a tape on which one has been missed
pub record Reads {A : Type 0} (P : Bool → A → Type 0) (K : ℕ) (f : Decodes A) : Type 0 where
  pub from : (l : List Bool) (z : ℕ) → Outcome P K f l z
  pub over : (z : ℕ) → Missed P f (tape [] true z)

pub enough_is : {A : Type 0} {P : Bool → A → Type 0} {K : ℕ} {f : Decodes A} {l : List Bool} {z : ℕ} (E : Enough P K f l z) → f (tape l false z) ≡ (E.answer, tape E.rest false E.place)
enough_is {f = f} {z = z} E = ap (λ m. f (tape m false z)) E.parts ∙ E.is E.rest

-- what is enough is enough with more behind it
abbrev pub enough_more : {A : Type 0} {P : Bool → A → Type 0} {K : ℕ} {f : Decodes A} {l : List Bool} {z : ℕ} (r : List Bool) → Enough P K f l z → Enough P K f (l ++ r) z
enough_more r E = record {
  answer = E.answer;
  known = E.known;
  taken = E.taken;
  rest = E.rest ++ r;
  parts = ap (λ m. m ++ r) E.parts ∙ append_assoc E.taken E.rest r;
  few = E.few;
  place = E.place;
  is = E.is;
}

-- a walk that makes of any bits what another makes of them from another place on
pub outcome_same : {A : Type 0} {P : Bool → A → Type 0} {K : ℕ} {f g : Decodes A} {l : List Bool} {y z : ℕ} → ((m : List Bool) → g (tape m false z) ≡ f (tape m false y)) → Outcome P K f l y → Outcome P K g l z
outcome_same e (enough E) = enough (record { answer = E.answer; known = E.known; taken = E.taken; rest = E.rest; parts = E.parts; few = E.few; place = E.place; is = λ r. e (E.taken ++ r) ∙ E.is r })
outcome_same {l = l} e (short h M) = short h (record { answer = M.answer; known = M.known; place = M.place; is = e l ∙ M.is })

-- where P leaves nothing to choose
abbrev pub Any : {A : Type 0} → Bool → A → Type 0
Any m a = Unit {0}

abbrev pub Length : ℕ → Bool → List ℤ → Type 0
Length n m zs = length zs ≡ n

module _ {A B : Type 0} {P : Bool → A → Type 0} {Q : Bool → B → Type 0} {K J : ℕ} {f : Decodes A} (g : A → Decodes B) (F : Reads P K f)
    (G : (a : A) → P false a → (l : List Bool) (z : ℕ) → Outcome Q J (g a) l z) (H : (a : A) → P true a → (z : ℕ) → Missed Q (g a) (tape [] true z)) where
  then_missed : {t : Tape} → Missed P f t → Missed Q (λ t. g (f t).0 (f t).1) t
  then_missed M = let N = H M.answer M.known M.place in record { answer = N.answer; known = N.known; place = N.place; is = ap (λ r. g r.0 r.1) M.is ∙ N.is }

  reads_then : Reads Q (K + J) (λ t. g (f t).0 (f t).1)
  reads_then = record { from = λ l z. go l z (F.from l z); over = λ z. then_missed (F.over z) }
    where
      on : (l : List Bool) (z : ℕ) (E : Enough P K f l z) → Outcome Q J (g E.answer) E.rest E.place → Outcome Q (K + J) (λ t. g (f t).0 (f t).1) l z
      on l z E (enough D) = enough (record {
        answer = D.answer;
        known = D.known;
        taken = E.taken ++ D.taken;
        rest = D.rest;
        parts = E.parts ∙ ap (λ m. E.taken ++ m) D.parts ∙ sym (append_assoc E.taken D.taken D.rest);
        few = omega (arith, E.few, D.few, length-append E.taken D.taken);
        place = D.place;
        is = λ r. rw append_assoc (ap (λ s. g s.0 s.1) (E.is (D.taken ++ r)) ∙ D.is r);
      })
      on l z E (short h M) = short (omega (arith, h, E.few, ap length E.parts, length-append E.taken E.rest)) (record {
        answer = M.answer;
        known = M.known;
        place = M.place;
        is = ap (λ s. g s.0 s.1) (enough_is E) ∙ M.is;
      })

      go : (l : List Bool) (z : ℕ) → Outcome P K f l z → Outcome Q (K + J) (λ t. g (f t).0 (f t).1) l z
      go l z (enough E) = on l z E (G E.answer E.known E.rest E.place)
      go l z (short h M) = short (omega arith) (then_missed M)

-- one walk, then another that reads at most J bits whatever the first says
pub reads_both : {A B : Type 0} {P : Bool → A → Type 0} {Q : Bool → B → Type 0} {K J : ℕ} {f : Decodes A} (g : A → Decodes B) → Reads P K f
    → ((m : Bool) (a : A) → P m a → Reads Q J (g a)) → Reads Q (K + J) (λ t. g (f t).0 (f t).1)
reads_both g F G = reads_then g F (λ a p. (G false a p).from) (λ a p. (G true a p).over)

pub reads_more : {A : Type 0} {P : Bool → A → Type 0} {K : ℕ} {f : Decodes A} (J : ℕ) → K ≤ J → Reads P K f → Reads P J f
reads_more {A} {P} {K} {f} J h F = record { from = λ l z. go l z (F.from l z); over = F.over }
  where
    go : (l : List Bool) (z : ℕ) → Outcome P K f l z → Outcome P J f l z
    go l z (enough E) = enough (record { answer = E.answer; known = E.known; taken = E.taken; rest = E.rest; parts = E.parts; few = omega (arith, E.few); place = E.place; is = E.is })
    go l z (short g M) = short (omega arith) M

pub reads_done : {A : Type 0} {P : Bool → A → Type 0} (a : A) → ((m : Bool) → P m a) → Reads P 0 (λ t. (a, t))
reads_done a p = record {
  from = λ l z. enough (record { answer = a; known = p false; taken = []; rest = l; parts = refl; few = omega arith; place = z; is = λ r. refl });
  over = λ z. record { answer = a; known = p true; place = z; is = refl };
}

pub reads_bit : (due : Due) → Reads {A = Option Bool} Any 1 (λ t. next_bit due t.left t.missed t.place)
reads_bit due = record { from = go; over = λ z. record { answer = none; known = tt; place = z; is = refl } }
  where
    go : (l : List Bool) (z : ℕ) → Outcome {A = Option Bool} Any 1 (λ t. next_bit due t.left t.missed t.place) l z
    go [] z = short (omega arith) (record { answer = none; known = tt; place = z; is = refl })
    go (b ∷ l) z = enough (record { answer = some b; known = tt; taken = b ∷ []; rest = l; parts = refl; few = omega arith; place = place_after due b z; is = λ r. refl })

-- ---- one plane
reads_test : (p : ℕ) (xs : List ℤ) → Reads {A = Bool} Any 1 (test_set Decoder p xs)
reads_test p xs = go (reaches (2 ^ suc p) xs) refl
  where
    go : (b : Bool) → reaches (2 ^ suc p) xs ≡ b → Reads {A = Bool} Any 1 (test_set Decoder p xs)
    go true e = rw (test_known Decoder p xs e) (reads_more 1 (omega arith) (reads_done {P = Any} true (λ _. tt)))
    go false e = rw (test_asks Decoder p xs e) (reads_both (λ b. Decoder.done (is_one Decoder b)) (reads_bit (Due.test (length xs))) (λ _ b _. reads_done {P = Any} (is_one Decoder b) (λ _. tt)))

reads_sign : (p : ℕ) (x : ℤ) (o : Bool) → Reads (Length 1) 1 (after_bit Decoder p x o)
reads_sign p x true = reads_both (λ s. Decoder.done (begun Decoder p x s ∷ [])) (reads_bit Due.sign) (λ _ s _. reads_done {P = Length 1} (begun Decoder p x s ∷ []) (λ _. refl))
reads_sign p x false = reads_more 1 (omega arith) (reads_done {P = Length 1} (x ∷ []) (λ _. refl))

reads_number : (p : ℕ) (x : ℤ) → Reads (Length 1) 2 (walk_number Decoder p x)
reads_number p x = go (leb (2 ^ suc p) (nat_abs x)) refl
  where
    go : (b : Bool) → leb (2 ^ suc p) (nat_abs x) ≡ b → Reads (Length 1) 2 (walk_number Decoder p x)
    go true e =
        rw (number_known Decoder p x e)
        (reads_more 2 (omega arith) (reads_both (λ b. Decoder.done (refined Decoder p x b ∷ [])) (reads_bit Due.more) (λ _ b _. reads_done {P = Length 1} (refined Decoder p x b ∷ []) (λ _. refl))))
    go false e = rw (number_asks Decoder p x e) (reads_both (λ b. after_bit Decoder p x (is_one Decoder b)) (reads_bit (Due.test 1)) (λ _ b _. reads_sign p x (is_one Decoder b)))

pub reads_next : {m n K J : ℕ} {f g : Decodes (List ℤ)} (s : ℕ) → m + n ≡ s → Reads (Length m) K f → Reads (Length n) J g → Reads (Length s) (K + J) (◌next◌ Decoder f g)
unfolding ◌next◌
reads_next {m} {n} {K} {J} {f} {g} s e F G =
    reads_both (λ a t. let r = g t in (a ++ r.0, r.1)) F
    (λ _ a h. reads_more J (omega arith) (reads_both (λ b t. (a ++ b, t)) G (λ _ b k. reads_done {P = Length s} (a ++ b) (λ _. length-append a b ∙ omega arith))))

pub reads_numbers : (p : ℕ) (xs : List ℤ) → Reads (Length (length xs)) (2 * length xs) (walk_numbers Decoder p xs)
unfolding walk_numbers
reads_numbers p [] = reads_done {P = Length 0} [] (λ _. refl)
reads_numbers p (x ∷ xs) = reads_more (2 * length (x ∷ xs)) (omega arith) (reads_next (length (x ∷ xs)) (omega arith) (reads_number p x) (reads_numbers p xs))

-- as many numbers come back as xs has, for at most K tests and two bits a number
pub record Walks (K : ℕ) (xs : List ℤ) (f : Decodes (List ℤ)) : Type 0 where
  pub reads : Reads (Length (length xs)) (K + 2 * length xs) f

walks_done : (K : ℕ) (xs : List ℤ) → Walks K xs (λ t. (xs, t))
walks_done K xs = record { reads = reads_more (K + 2 * length xs) (omega arith) (reads_done {P = Length (length xs)} xs (λ _. refl)) }

walks_tested : {K : ℕ} (p : ℕ) (xs : List ℤ) (f : Decodes (List ℤ)) → Walks K xs f → Walks (suc K) xs (Decoder.then (test_set Decoder p xs) (opened Decoder xs f))
walks_tested {K} p xs f F = record { reads = reads_more (suc K + 2 * length xs) (omega arith) (reads_both (opened Decoder xs f) (reads_test p xs) (λ _ o _. go o)) }
  where
    go : (o : Bool) → Reads (Length (length xs)) (K + 2 * length xs) (opened Decoder xs f o)
    go true = F.reads
    go false = (walks_done K xs).reads

-- the first n numbers, then the others
pub walks_split : {K J : ℕ} (n : ℕ) (xs : List ℤ) {f g : Decodes (List ℤ)} → Walks K (take n xs) f → Walks J (drop n xs) g → Walks (K + J) xs (◌next◌ Decoder f g)
walks_split {K} {J} n xs F G =
    let e : length (take n xs) + length (drop n xs) ≡ length xs = sym (length-append (take n xs) (drop n xs)) ∙ ap length (take-append-drop n xs) in
    record { reads = reads_more (K + J + 2 * length xs) (omega arith) (reads_next (length xs) e F.reads G.reads) }

walks_three : {K J : ℕ} (q : ℕ) (xs : List ℤ) (f : List ℤ → Decodes (List ℤ)) {g : Decodes (List ℤ)} → ((ys : List ℤ) → Walks K ys (f ys)) → Walks J (fourth q xs) g
    → Walks (K + (K + (K + J))) xs (◌next◌ Decoder (f (take q xs)) (◌next◌ Decoder (f (take q (drop q xs))) (◌next◌ Decoder (f (take q (drop q (drop q xs)))) g)))
walks_three q xs f F G = walks_split q xs (F _) (walks_split q (drop q xs) (F _) (walks_split q (drop q (drop q xs)) (F _) G))

pub walks_set : (p d : ℕ) (xs : List ℤ) → Walks (set_tests d) xs (walk_set Decoder p d xs)
unfolding walk_set set_tests
walks_set p zero xs = walks_tested p xs _ (record { reads = reads_more (0 + 2 * length xs) (omega arith) (reads_numbers p xs) })
walks_set p (suc d) xs = walks_tested p xs _ (walks_three (4 ^ suc d) xs (walk_set Decoder p d) (walks_set p d) (walks_set p d _))

pub walks_rest : (p d left : ℕ) (xs : List ℤ) → Walks (rest_tests d left) xs (walk_rest Decoder p d left xs)
unfolding walk_rest rest_tests
walks_rest p d zero xs = walks_done 0 xs
walks_rest p d (suc left) xs = walks_tested p xs _ (walks_three (4 ^ suc d) xs (walk_set Decoder p d) (walks_set p d) (walks_rest p (suc d) left _))

pub walks_plane : (d L p : ℕ) (xs : List ℤ) → Walks (set_tests d + rest_tests d L) xs (walk_plane Decoder d L p xs)
unfolding walk_plane
walks_plane d L p xs = walks_split (4 ^ suc d) xs (walks_set p d (take (4 ^ suc d) xs)) (walks_rest p d L (drop (4 ^ suc d) xs))

-- ---- the planes
-- N numbers come back, and a plane is unfinished exactly if a bit was missed
record Counted (N : ℕ) (m : Bool) (v : List ℤ × ℕ) : Type 0 where
  numbers : length v.0 ≡ N
  none_left : m ≡ false → v.1 ≡ 0
  some_left : m ≡ true → 0 < v.1

-- the most bits of one plane of N numbers
abbrev pub plane_most : ℕ → ℕ → ℕ → ℕ
plane_most d L N = set_tests d + rest_tests d L + 2 * N

module _ (d L N : ℕ) where
  -- what follows a plane
  then_plane_lem : ℕ → List ℤ → Decodes (List ℤ × ℕ)
  then_plane_lem p ys t = (elim t.missed as (λ _. Decodes (List ℤ × ℕ)) [ true ↦ Decoder.done (ys, suc p) | false ↦ walk_planes Decoder d L p ys ]) (behind_plane t)

  reads_planes : (n : ℕ) (xs : List ℤ) → length xs ≡ N → (l : List Bool) (z : ℕ) → Outcome (Counted N) (n * plane_most d L N) (walk_planes Decoder d L n xs) l z
  unfolding walk_planes then_plane_lem
  reads_planes zero xs h l z = enough (record {
    answer = (xs, 0);
    known = record { numbers = h; none_left = λ _. refl; some_left = λ e. absurd (let z : ◌≡◌ {A = ℕ} 0 1 = cc in omega arith) };
    taken = [];
    rest = l;
    parts = refl;
    few = omega arith;
    place = z;
    is = λ r. refl;
  })
  reads_planes (suc p) xs h l z = more ((reads_then {J = p * plane_most d L N} (then_plane_lem p) (walks_plane d L p xs).reads (λ ys k l z. outcome_same (λ m. refl) (reads_planes p ys (k ∙ h) l 0)) stops).from l z)
    where
      stops : (ys : List ℤ) → length ys ≡ length xs → (z : ℕ) → Missed (Counted N) (then_plane_lem p ys) (tape [] true z)
      stops ys k z = record {
        answer = (ys, suc p);
        known = record { numbers = k ∙ h; none_left = λ e. absurd (let z : ◌≡◌ {A = ℕ} 0 1 = cc in omega arith); some_left = λ _. omega arith };
        place = z;
        is = refl;
      }

      more : Outcome (Counted N) (set_tests d + rest_tests d L + 2 * length xs + p * plane_most d L N) (walk_planes Decoder d L (suc p) xs) l z → Outcome (Counted N) (suc p * plane_most d L N) (walk_planes Decoder d L (suc p) xs) l z
      more O = rw (let e : suc p * plane_most d L N ≡ set_tests d + rest_tests d L + 2 * length xs + p * plane_most d L N = omega (arith, suc-mul p (plane_most d L N)) in e) O

-- ---- decoding
-- the most bits that decoding can read
abbrev pub most_read : ℕ → ℕ → ℕ → ℕ
most_read k L n = n * plane_most (depth k L) L (4 ^ k)

module _ (k L n : ℕ) where
  abbrev d : ℕ
  d = depth k L

  abbrev start : List ℤ
  start = replicate (4 ^ k) (pos 0)

  abbrev most : ℕ
  most = most_read k L n

  outcome : (l : List Bool) → Outcome (Counted (4 ^ k)) most (walk_planes Decoder d L n start) l 0
  outcome l = reads_planes d L (4 ^ k) n start (length-replicate (4 ^ k) (pos 0)) l 0

  pub decoded_as : (l : List Bool) {v : List ℤ × ℕ} {t : Tape} → walk_planes Decoder d L n start (tape l false 0) ≡ (v, t)
      → decode_of k L n l ≡ record { numbers = v.0; unfinished = v.1; read = length l - length t.left; place = t.place }
  unfolding decode_of
  decoded_as l e = ap {B = Settled} (λ r. record { numbers = r.0.0; unfinished = r.0.1; read = length l - length r.1.left; place = r.1.place }) e

  decoded_enough : (l : List Bool) (E : Enough (Counted (4 ^ k)) most (walk_planes Decoder d L n start) l 0) → decode_of k L n l ≡ record { numbers = E.answer.0; unfinished = E.answer.1; read = length E.taken; place = E.place }
  decoded_enough l E =
      decoded_as l (enough_is E)
      ∙ ap {B = Settled} (λ j. record { numbers = E.answer.0; unfinished = E.answer.1; read = j; place = E.place })
      (let e : length l - length E.rest ≡ length E.taken = omega (arith, ap length E.parts, length-append E.taken E.rest) in e)

  -- All S² numbers are written.
  pub decoded_length : (l : List Bool) → length (decode_of k L n l).numbers ≡ 4 ^ k
  decoded_length l = go (outcome l)
    where
      go : Outcome (Counted (4 ^ k)) most (walk_planes Decoder d L n start) l 0 → length (decode_of k L n l).numbers ≡ 4 ^ k
      go (enough E) = rw (decoded_enough l E) E.known.numbers
      go (short h M) = rw (decoded_as l M.is) M.known.numbers

  -- No more bits are read than there are.
  pub read_most : (l : List Bool) → (decode_of k L n l).read ≤ length l
  unfolding decode_of
  read_most l = omega arith

  -- All of them are read while a plane is unfinished.
  pub read_all : (l : List Bool) → 0 < (decode_of k L n l).unfinished → (decode_of k L n l).read ≡ length l
  read_all l = go (outcome l)
    where
      go : Outcome (Counted (4 ^ k)) most (walk_planes Decoder d L n start) l 0 → 0 < (decode_of k L n l).unfinished → (decode_of k L n l).read ≡ length l
      go (enough E) h = absurd (omega (arith, E.known.none_left refl, ap (λ (s : Settled). s.unfinished) (decoded_enough l E)))
      go (short g M) h = rw (decoded_as l M.is) (omega arith)

  -- No bit is read after plane 0 is complete: bits behind it change nothing.
  pub read_none : (l r : List Bool) → (decode_of k L n l).unfinished ≡ 0 → decode_of k L n (l ++ r) ≡ decode_of k L n l
  read_none l r = go (outcome l)
    where
      go : Outcome (Counted (4 ^ k)) most (walk_planes Decoder d L n start) l 0 → (decode_of k L n l).unfinished ≡ 0 → decode_of k L n (l ++ r) ≡ decode_of k L n l
      go (enough E) h = decoded_enough (l ++ r) (enough_more r E) ∙ sym (decoded_enough l E)
      go (short g M) h = absurd (omega (arith, M.known.some_left refl, ap (λ (s : Settled). s.unfinished) (decoded_as l M.is)))

  -- bits beyond the most that can be read change nothing
  beyond : (K : ℕ) → most ≤ K → (l : List Bool) → decode_of k L n l ≡ decode_of k L n (take K l)
  beyond K h l = go (leb (length l) K) refl
    where
      go : (b : Bool) → leb (length l) K ≡ b → decode_of k L n l ≡ decode_of k L n (take K l)
      go true e = ap (decode_of k L n) (sym (take_all K l (leb-true (length l) K e)))
      go false e = on (outcome (take K l))
        where
          on : Outcome (Counted (4 ^ k)) most (walk_planes Decoder d L n start) (take K l) 0 → decode_of k L n l ≡ decode_of k L n (take K l)
          on (enough E) = ap (decode_of k L n) (sym (take-append-drop K l)) ∙ decoded_enough (take K l ++ drop K l) (enough_more (drop K l) E) ∙ sym (decoded_enough (take K l) E)
          on (short g M) = absurd (omega (arith, g, h, length-take K l, leb-false (length l) K e))

-- more bits than any decoding reads: of every plane at most 3 for each number
abbrev pub read_limit : ℕ
read_limit = most_planes * (3 * 4 ^ most_size)

few_read : (k L n size planes : ℕ) → L < k → k ≤ size → n ≤ planes → most_read k L n ≤ planes * (3 * 4 ^ size)
few_read k L n size planes h g m =
    let d = depth k L in
    let e : 4 ^ (suc d + L) ≡ 4 ^ k = ap (λ j. 4 ^ j) (let e : suc d + L ≡ k = omega arith in e) in
    mul-le-mul {m₂ = 3 * 4 ^ size} m (omega (arith, set_tests_lem d, rest_tests_lem d L, pow-le-pow_right {n = 4} (omega arith) g))

-- Of any bits, those after the limit change nothing.
pub read_limit_lem : (k L n : ℕ) → L < k → k ≤ most_size → n ≤ most_planes → (l : List Bool) → decode_of k L n l ≡ decode_of k L n (take read_limit l)
read_limit_lem k L n h g m = beyond k L n read_limit (few_read k L n most_size most_planes h g m)
