-- The place is not too low: while a plane runs, the number at the place is open. Two ways to go on both finish the plane, and leave
-- different numbers there.
use Rattle.std.specs.Prelude.{◌≡◌, refl, Bool, true, leb, ℤ, pos, nat_abs, replicate}
use Rattle.std.proofs.Math.Path.{sym, ap}
use Rattle.std.proofs.Common.{◌∙◌, zero-add, pow_pos, length-append, get_or-append-add}
use Rattle.std.proofs.Math.Bool.{false}
use Rattle.std.proofs.Math.Option.{Option, none, some}
use mathlib.Core.List.{List, [], ◌∷◌, ◌++◌, append_assoc}
use Prim.Native.Nat.{ℕ, zero, suc, ◌+◌, ◌-◌, ◌^◌, ◌<◌}
use native.Mathlib.Omega.{arith}
use Rattle.std.proofs.Math.ListN.{length, get_or-append}
use Rattle.std.proofs.lemmas.List.{length-replicate}
use Rattle.paper.specs.Lists.{at}
use Rattle.paper.specs.Walk.{negative, reaches, Due, place_after, Decoder, Tape, is_one, test_set, refined, begun, walk_number, decode_of, ◌next◌}
use Rattle.walk_laws.specs.Cleared.{nat_abs_signed, negative_signed}
use Rattle.walk_laws.specs.Asks.{test_known, test_asks, number_known, number_asks, opened}
use Rattle.walk_laws.specs.Together.{tape, Decodes}
use Rattle.walk_laws.specs.Read.{Enough, Outcome, enough, short, Length}
use Rattle.walk_laws.specs.Over.{Walk, tested}
use Rattle.walk_laws.specs.Place.{Moved, past, within, Moves, moves_length, on_bit, moves_tested}

-- a bit was missed or none was, not both
pub not_both : {l k : List Bool} {y z : ℕ} → tape l false y ≡ tape k true z → ⊥
not_both e = let t : ◌≡◌ {A = Bool} false true = ap (λ (t : Tape). t.missed) e in let y : ◌≡◌ {A = ℕ} 0 1 = cc in omega arith

-- ---- to the end of a walk
-- from the place z on, the walk f takes the bits l and no more: they settle its n places, and a comes back
pub record Ends (n : ℕ) (f : Decodes (List ℤ)) (l : List Bool) (z : ℕ) (a : List ℤ) : Type 0 where
  pub is : (s : List Bool) → f (tape (l ++ s) false z) ≡ (a, tape s false (z + n))

-- as many numbers as places
pub ends_length : {n : ℕ} {f : Decodes (List ℤ)} {l : List Bool} {z : ℕ} {a : List ℤ} → Moves n f → Ends n f l z a → length a ≡ n
ends_length {l = l} {z = z} M E = ap (λ r. length r.0) (sym (E.is [])) ∙ moves_length M (l ++ []) z

-- where a walk has enough, the bits it takes end it
pub enough_ends : {n K : ℕ} {f : Decodes (List ℤ)} {l : List Bool} {z : ℕ} → Moves n f → (E : Enough (Length n) K f l z) → Ends n f E.taken z E.answer
enough_ends {n} {f = f} {z = z} M E = record { is = λ s. E.is s ∙ ap (λ y. (E.answer, tape s false y)) (go (M.moved (E.taken ++ []) z)) }
  where
    go : Moved n z (f (tape (E.taken ++ []) false z)).1 → E.place ≡ z + n
    go (past k e) = ap (λ r. r.1.place) (sym (E.is [])) ∙ ap (λ (t : Tape). t.place) e
    go (within j a e) = absurd (not_both (ap (λ r. r.1) (sym (E.is [])) ∙ e))

-- bits that end it, and what comes back
record Ending (n : ℕ) (f : Decodes (List ℤ)) (z : ℕ) : Type 0 where
  bits : List Bool
  answer : List ℤ
  ends : Ends n f bits z answer

-- every walk can be ended, by 0 bits
ending : {n : ℕ} {f : Decodes (List ℤ)} → Moves n f → (z : ℕ) → Ending n f z
ending {n} {f} M z = go (M.reads.from (replicate M.most false) z)
  where
    go : Outcome (Length n) M.most f (replicate M.most false) z → Ending n f z
    go (enough E) = record { bits = E.taken; answer = E.answer; ends = enough_ends M E }
    go (short h S) = absurd (omega (arith, h, length-replicate M.most false))

-- ---- two ways to go on
-- after the bits l number j of the walk f is open: r₁ and r₂ both end the walk, and leave different numbers there
pub record Ways (n : ℕ) (f : Decodes (List ℤ)) (l : List Bool) (z j : ℕ) : Type 0 where
  pub r₁ : List Bool
  pub r₂ : List Bool
  pub a₁ : List ℤ
  pub a₂ : List ℤ
  pub one : Ends n f (l ++ r₁) z a₁
  pub two : Ends n f (l ++ r₂) z a₂
  pub differ : at a₁ j ≡ at a₂ j → ⊥

-- where no bit is left: one was missed before, or there are places, and one is missed now
abbrev pub out : Bool → ℕ → Bool
out m zero = m
out m (suc n) = true

pub out_some : (m : Bool) (n : ℕ) → 0 < n → out m n ≡ true
out_some m zero h = absurd (omega arith)
out_some m (suc n) h = refl

out_out : (m : Bool) (a b : ℕ) → out (out m a) b ≡ out m (a + b)
out_out m zero b = ap (out m) (sym (zero-add b))
out_out m (suc a) zero = sym (out_some m (suc a + 0) (omega arith))
out_out m (suc a) (suc b) = sym (out_some m (suc a + suc b) (omega arith))

-- a walk f over xs: where no bit is left it changes nothing, and wherever it misses one, the number at the place is open
pub record Undecided (xs : List ℤ) (f : Decodes (List ℤ)) : Type 0 where
  pub dry : (m : Bool) (z : ℕ) → f (tape [] m z) ≡ (xs, tape [] (out m (length xs)) z)
  pub ways : (l : List Bool) (z j : ℕ) → (f (tape l false z)).1 ≡ tape [] true (z + j) → Ways (length xs) f l z j

-- ---- one part, then the next
module _ {m n : ℕ} {f g : Decodes (List ℤ)} (F : Moves m f) (G : Moves n g) (w : ℕ) (sum : m + n ≡ w) where
  -- what ends the one, then what ends the other
  ends_both : {l k : List Bool} {z : ℕ} {a b : List ℤ} → Ends m f l z a → Ends n g k (z + m) b → Ends w (◌next◌ Decoder f g) (l ++ k) z (a ++ b)
  unfolding ◌next◌
  ends_both {l} {k} {z} {a} {b} E D = record {
    is = λ s. ap (λ i. ◌next◌ Decoder f g (tape i false z)) (append_assoc l k s) ∙ ap (λ r. (r.0 ++ (g r.1).0, (g r.1).1)) (E.is (k ++ s))
        ∙ ap (λ r. (a ++ r.0, r.1)) (D.is s) ∙ ap (λ y. (a ++ b, tape s false y)) (let y : z + m + n ≡ z + w = omega arith in y);
  }

  -- a number of the first is open: the second is ended somehow
  pub ways_first : (l : List Bool) (z j : ℕ) → j < m → Ways m f l z j → Ways w (◌next◌ Decoder f g) l z j
  ways_first l z j h W = record {
    r₁ = W.r₁ ++ D.bits;
    r₂ = W.r₂ ++ D.bits;
    a₁ = W.a₁ ++ D.answer;
    a₂ = W.a₂ ++ D.answer;
    one = rw append_assoc at (ends_both W.one D.ends);
    two = rw append_assoc at (ends_both W.two D.ends);
    differ = λ e. W.differ (sym (front W.one) ∙ e ∙ front W.two);
  }
    where
      D : Ending n g (z + m)
      D = ending G (z + m)

      front : {i : List Bool} {a : List ℤ} → Ends m f i z a → at (a ++ D.answer) j ≡ at a j
      front {a = a} E = get_or-append a D.answer (pos 0) j (omega (arith, ends_length F E))

  -- the first is ended: a number of the second is open
  pub ways_second : (l : List Bool) (z j : ℕ) (E : Enough (Length m) F.most f l z) → Ways n g E.rest (z + m) j → Ways w (◌next◌ Decoder f g) l z (m + j)
  ways_second l z j E W = record {
    r₁ = W.r₁;
    r₂ = W.r₂;
    a₁ = E.answer ++ W.a₁;
    a₂ = E.answer ++ W.a₂;
    one = on W.r₁ W.one;
    two = on W.r₂ W.two;
    differ = λ e. W.differ (sym (behind W.a₁) ∙ e ∙ behind W.a₂);
  }
    where
      on : (r : List Bool) {a : List ℤ} → Ends n g (E.rest ++ r) (z + m) a → Ends w (◌next◌ Decoder f g) (l ++ r) z (E.answer ++ a)
      on r D = rw (E.parts, append_assoc) (ends_both (enough_ends F E) D)

      behind : (a : List ℤ) → at (E.answer ++ a) (m + j) ≡ at a j
      behind a = ap (λ k. at (E.answer ++ a) (k + j)) (sym E.known) ∙ get_or-append-add E.answer a j (pos 0)

module _ {xs ys : List ℤ} {f g : Decodes (List ℤ)} (F : Moves (length xs) f) (G : Moves (length ys) g) (U : Undecided xs f) (W : Undecided ys g) where
  -- no bit for either
  pub dry_both : (m : Bool) (z : ℕ) → ◌next◌ Decoder f g (tape [] m z) ≡ (xs ++ ys, tape [] (out m (length (xs ++ ys))) z)
  unfolding ◌next◌
  dry_both m z =
      let h = length xs in
      ap (λ r. (r.0 ++ (g r.1).0, (g r.1).1)) (U.dry m z) ∙ ap (λ r. (xs ++ r.0, r.1)) (W.dry (out m h) z)
      ∙ ap (λ b. (xs ++ ys, tape [] b z)) (out_out m h (length ys) ∙ ap (out m) (sym (length-append xs ys)))

-- ---- a bit
-- a 1 opens a walk that can still go both ways, a 0 leaves it closed
undecided_asked : (xs : List ℤ) (f : Decodes (List ℤ)) → 0 < length xs → Undecided xs f → Undecided xs (on_bit (Due.test (length xs)) (λ b. opened Decoder xs f (is_one Decoder b)))
undecided_asked xs f there U = record { dry = λ m z. ap (λ b. (xs, tape [] b z)) (sym (out_some m (length xs) there)); ways = go }
  where
    g : Decodes (List ℤ)
    g = on_bit (Due.test (length xs)) (λ b. opened Decoder xs f (is_one Decoder b))

    go : (l : List Bool) (z j : ℕ) → (g (tape l false z)).1 ≡ tape [] true (z + j) → Ways (length xs) g l z j
    go [] z j e =
        let W = U.ways [] z j (ap (λ r. r.1) (U.dry false z) ∙ ap (λ b. tape [] b z) (out_some false (length xs) there) ∙ e) in
        record { r₁ = true ∷ W.r₁; r₂ = true ∷ W.r₂; a₁ = W.a₁; a₂ = W.a₂; one = record { is = W.one.is }; two = record { is = W.two.is }; differ = W.differ }
    go (true ∷ l) z j e =
        let W = U.ways l z j e in
        record { r₁ = W.r₁; r₂ = W.r₂; a₁ = W.a₁; a₂ = W.a₂; one = record { is = W.one.is }; two = record { is = W.two.is }; differ = W.differ }
    go (false ∷ l) z j e = absurd (not_both e)

-- a number that a bit ends, and that the bit makes one or another
undecided_last : (due : Due) → ((b : Bool) (z : ℕ) → place_after due b z ≡ z + 1) → (x : Option Bool → ℤ) → (x (some true) ≡ x (some false) → ⊥)
    → Undecided (x none ∷ []) (on_bit due (λ b t. (x b ∷ [], t)))
undecided_last due k x apart = record { dry = λ m z. refl; ways = go }
  where
    g : Decodes (List ℤ)
    g = on_bit due (λ b t. (x b ∷ [], t))

    go : (l : List Bool) (z j : ℕ) → (g (tape l false z)).1 ≡ tape [] true (z + j) → Ways 1 g l z j
    go [] z j e =
        let first : j ≡ 0 = omega (arith, ap (λ (t : Tape). t.place) e) in
        record {
          r₁ = true ∷ [];
          r₂ = false ∷ [];
          a₁ = x (some true) ∷ [];
          a₂ = x (some false) ∷ [];
          one = record { is = λ s. ap (λ y. (x (some true) ∷ [], tape s false y)) (k true z) };
          two = record { is = λ s. ap (λ y. (x (some false) ∷ [], tape s false y)) (k false z) };
          differ = rw first apart;
        }
    go (b ∷ l) z j e = absurd (not_both e)

-- ---- the walk
-- a test asks for a bit, or is known to be open
undecided_tested : (p : ℕ) (xs : List ℤ) (f : Decodes (List ℤ)) → 0 < length xs → Undecided xs f → Undecided xs (Decoder.then (test_set Decoder p xs) (opened Decoder xs f))
undecided_tested p xs f there U = go (reaches (2 ^ suc p) xs) refl
  where
    go : (b : Bool) → reaches (2 ^ suc p) xs ≡ b → Undecided xs (Decoder.then (test_set Decoder p xs) (opened Decoder xs f))
    go true e = rw (test_known Decoder p xs e) U
    go false e = rw (test_asks Decoder p xs e) (undecided_asked xs f there U)

-- a number gets one more bit, or a first one and its sign
pub undecided_number : (p : ℕ) (x : ℤ) → Undecided (x ∷ []) (walk_number Decoder p x)
unfolding refined begun
undecided_number p x = go (leb (2 ^ suc p) (nat_abs x)) refl
  where
    -- one more bit settles how large, a sign on which side
    larger : refined Decoder p x (some true) ≡ refined Decoder p x (some false) → ⊥
    larger e = omega (arith, pow_pos p, sym (nat_abs_signed (negative x) (nat_abs x + 2 ^ p)) ∙ ap nat_abs e ∙ nat_abs_signed (negative x) (nat_abs x + 0))

    other_side : begun Decoder p x (some true) ≡ begun Decoder p x (some false) → ⊥
    other_side e =
        let t : ◌≡◌ {A = Bool} true false = sym (negative_signed true (2 ^ p) (pow_pos p)) ∙ ap negative e ∙ negative_signed false (2 ^ p) (pow_pos p) in
        let y : ◌≡◌ {A = ℕ} 0 1 = cc in
        omega arith

    go : (b : Bool) → leb (2 ^ suc p) (nat_abs x) ≡ b → Undecided (x ∷ []) (walk_number Decoder p x)
    go true e = rw (number_known Decoder p x e) (undecided_last Due.more (λ b z. refl) (refined Decoder p x) larger)
    go false e = rw (number_asks Decoder p x e) (undecided_asked (x ∷ []) _ (omega arith) (undecided_last Due.sign (λ b z. refl) (begun Decoder p x) other_side))

-- no number, and numbers in order
pub undecided_nothing : Undecided [] (λ t. ([], t))
undecided_nothing = record { dry = λ m z. refl; ways = λ l z j e. absurd (not_both e) }

-- so with every walk over a plane
module _ (p : ℕ) where
  abbrev UndecidedOver : Walk → List ℤ → Type 0
  UndecidedOver w xs = Moves (length xs) (w Decoder xs) × Undecided xs (w Decoder xs)

  pub undecided_behind : (w : Walk) (xs : List ℤ) → 0 < length xs → UndecidedOver w xs → UndecidedOver (tested p w) xs
  undecided_behind w xs there U = (moves_tested p xs _ there U.0, undecided_tested p xs _ there U.1)

-- ---- the planes
-- r runs in a plane that s and t have finished, with different numbers where r has its place
abbrev pub Apart : (r s t : (List ℤ × ℕ) × Tape) → Type 0
Apart r s t = (s.0.1 ≡ r.0.1 - 1) × (t.0.1 ≡ r.0.1 - 1) × (at s.0.0 r.1.place ≡ at t.0.0 r.1.place → ⊥)

-- ---- decoding
-- The number at the place is open: the bits r₁ and r₂ both finish the running plane, and leave different numbers there.
pub record Open (k L n : ℕ) (l : List Bool) : Type 0 where
  pub r₁ : List Bool
  pub r₂ : List Bool
  pub one : (decode_of k L n (l ++ r₁)).unfinished ≡ (decode_of k L n l).unfinished - 1
  pub two : (decode_of k L n (l ++ r₂)).unfinished ≡ (decode_of k L n l).unfinished - 1
  pub differ : let place = (decode_of k L n l).place in at (decode_of k L n (l ++ r₁)).numbers place ≡ at (decode_of k L n (l ++ r₂)).numbers place → ⊥
