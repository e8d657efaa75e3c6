-- The coder's walk and the decoder's walk over one plane go together. Before plane p the decoder holds the truth with its
-- low p + 1 bits cleared, after it the truth with its low p bits cleared, and in between a front part is settled.
use Rattle.std.specs.Prelude.{◌≡◌, refl, ◌⊎◌, Bool, ℕ, zero, suc, ◌+◌, ◌≤◌, ℤ}
use Rattle.std.proofs.Common.{sym, ◌∙◌, inl, inr, add-zero, arith}
use Rattle.std.proofs.Math.Path.{ap}
use Rattle.std.proofs.Math.Bool.{true, false}
use mathlib.Core.List.{List, [], ◌∷◌, ◌++◌, map, append-nil, append_assoc}
use lib.ListN.{length, length-append}
use Rattle.paper.specs.Walk.{Coder, Decoder, Tape, ◌next◌}
use Rattle.list_laws.specs.Mapped.{map_append}
use Rattle.walk_laws.specs.Cleared.{cleared}

abbrev pub tape : List Bool → Bool → ℕ → Tape
tape l m z = record { left = l; missed = m; place = z }

-- what a decoder makes of the bits on its tape
abbrev pub Decodes : Type 0 → Type 0
Decodes A = Tape → A × Tape

-- ---- a front part settled
-- the first j numbers as plane p leaves them, the others as it found them
unfoldable pub settled : ℕ → ℕ → List ℤ → List ℤ
settled p j [] = []
settled p zero (x ∷ xs) = cleared (suc p) x ∷ settled p zero xs
settled p (suc j) (x ∷ xs) = cleared p x ∷ settled p j xs

pub settled_none : (p : ℕ) (xs : List ℤ) → settled p 0 xs ≡ map (cleared (suc p)) xs
unfolding settled
settled_none p [] = refl
settled_none p (x ∷ xs) = ap (λ l. cleared (suc p) x ∷ l) (settled_none p xs)

-- the first part settles up to j, the second not at all
settled_first : (p j : ℕ) (xs ys : List ℤ) → j ≤ length xs → settled p j xs ++ map (cleared (suc p)) ys ≡ settled p j (xs ++ ys)
unfolding settled
settled_first p zero [] ys h = sym (settled_none p ys)
settled_first p (suc j) [] ys h = absurd (omega arith)
settled_first p zero (x ∷ xs) ys h = ap (λ l. cleared (suc p) x ∷ l) (settled_first p zero xs ys (omega arith))
settled_first p (suc j) (x ∷ xs) ys h = ap (λ l. cleared p x ∷ l) (settled_first p j xs ys (omega arith))

-- the first part is settled, the second up to j
settled_second : (p j : ℕ) (xs ys : List ℤ) → map (cleared p) xs ++ settled p j ys ≡ settled p (j + length xs) (xs ++ ys)
unfolding settled
settled_second p j [] ys = ap (λ k. settled p k ys) (let e : j ≡ j + 0 = omega arith in e)
settled_second p j (x ∷ xs) ys =
    ap (λ l. cleared p x ∷ l) (settled_second p j xs ys) ∙ ap (λ k. settled p k (x ∷ (xs ++ ys))) (let e : suc (j + length xs) ≡ j + suc (length xs) = omega arith in e)

-- ---- what goes together
-- from the place z on, the bits are out, and the first j numbers of xs are settled
abbrev pub Stops : ℕ → List ℤ → ℕ → ℕ → List ℤ × Tape → Type 0
Stops p xs z j r = (j ≤ length xs) × (r ≡ (settled p j xs, tape [] true (z + j)))

pub stops_unsettled : (p : ℕ) (xs : List ℤ) (z : ℕ) {r : List ℤ × Tape} → r ≡ (map (cleared (suc p)) xs, tape [] true z) → Stops p xs z 0 r
stops_unsettled p xs z e = (omega arith, e ∙ (λ i. (sym (settled_none p xs) i, tape [] true (sym (add-zero z) i))))

-- two first parts of the bits, the second not shorter: it settles no fewer numbers
pub record Grows (p : ℕ) (xs : List ℤ) (z : ℕ) (r s : List ℤ × Tape) : Type 0 where
  pub j : ℕ
  pub i : ℕ
  pub grows : j ≤ i
  pub fewer : Stops p xs z j r
  pub more : Stops p xs z i s

-- The coder's walk c and the decoder's walk f over the numbers xs in plane p, from any place z on.
pub record Together (p : ℕ) (xs : List ℤ) (c : List ℤ × List Bool) (f : Decodes (List ℤ)) : Type 0 where
  pub held : c.0 ≡ xs
  pub full : (r : List Bool) (z : ℕ) → f (tape (c.1 ++ r) false z) ≡ (map (cleared p) xs, tape r false (z + length xs))
  pub over : (z : ℕ) → f (tape [] true z) ≡ (map (cleared (suc p)) xs, tape [] true z)
  pub part : (l k : List Bool) (b : Bool) (m : List Bool) → (l ++ k) ++ b ∷ m ≡ c.1 → (z : ℕ) → Grows p xs z (f (tape l false z)) (f (tape (l ++ k) false z))

-- a first part of B ++ C ends in B, or it is B and a first part of C
abbrev pub Ends : List Bool → List Bool → Type 0
Ends l B = (b : Bool) × (m : List Bool) × (l ++ b ∷ m ≡ B)

abbrev pub Goes : List Bool → List Bool → List Bool → List Bool → Type 0
Goes l k B C = (l' : List Bool) × (l ≡ B ++ l') × (l' ++ k ≡ C)

pub first_part_splits : (B C l k : List Bool) → l ++ k ≡ B ++ C → Ends l B ⊎ Goes l k B C
first_part_splits [] C l k e = inr (l, refl, e)
first_part_splits (x ∷ B) C [] k e = inl (x, B, refl)
first_part_splits (x ∷ B) C (y ∷ l) k e = step (first_part_splits B C l k (cc))
  where
    step : Ends l B ⊎ Goes l k B C → Ends (y ∷ l) (x ∷ B) ⊎ Goes (y ∷ l) k (x ∷ B) C
    step (inl h) = inl (h.0, h.1, (let t = h.2 in cc))
    step (inr h) = inr (h.0, (let t = h.1 in cc), h.2)

pub nothing_after : (l : List Bool) (b : Bool) (m : List Bool) → l ++ b ∷ m ≡ [] → ⊥
nothing_after [] b m h = let z : ◌≡◌ {A = ℕ} 0 1 = cc in omega arith
nothing_after (x ∷ l) b m h = let z : ◌≡◌ {A = ℕ} 0 1 = cc in omega arith

pub tail_of : {x y : Bool} {l m : List Bool} → x ∷ l ≡ y ∷ m → l ≡ m
tail_of h = cc

-- ---- one part, then the next
pub decode_next : (f g : Decodes (List ℤ)) {t t' t'' : Tape} {a b : List ℤ} → f t ≡ (a, t') → g t' ≡ (b, t'') → ◌next◌ Decoder f g t ≡ (a ++ b, t'')
unfolding ◌next◌
decode_next f g {a = a} h k = ap (λ q. let s = g q.1 in (q.0 ++ s.0, s.1)) h ∙ ap (λ s. (a ++ s.0, s.1)) k

module _ {p : ℕ} {xs ys : List ℤ} {c e : List ℤ × List Bool} {f g : Decodes (List ℤ)} (G : Together p xs c f) (H : Together p ys e g) where
  -- the bits end in the first part
  stops_first : (t : Tape) (z j : ℕ) → Stops p xs z j (f t) → Stops p (xs ++ ys) z j (◌next◌ Decoder f g t)
  stops_first t z j S = (simp lib.ListN.length-append (omega (arith, S.0)), decode_next f g S.1 (H.over (z + j)) ∙ ap (λ l. (l, tape [] true (z + j))) (settled_first p j xs ys S.0))

  -- they end in the second
  stops_second : (l l' : List Bool) (z j : ℕ) → l ≡ c.1 ++ l' → Stops p ys (z + length xs) j (g (tape l' false (z + length xs)))
      → Stops p (xs ++ ys) z (j + length xs) (◌next◌ Decoder f g (tape l false z))
  stops_second l l' z j h S = (
    simp lib.ListN.length-append (omega (arith, S.0)),
    decode_next f g (ap (λ l. f (tape l false z)) h ∙ G.full l' z) S.1
        ∙ (λ i. (settled_second p j xs ys i, tape [] true ((let e : z + length xs + j ≡ z + (j + length xs) = omega arith in e) i))),
  )

  abbrev both : Decodes (List ℤ)
  both = ◌next◌ Decoder f g

  grows_next : (l k : List Bool) (b : Bool) (m : List Bool) → (l ++ k) ++ b ∷ m ≡ c.1 ++ e.1 → (z : ℕ) → Grows p (xs ++ ys) z (both (tape l false z)) (both (tape (l ++ k) false z))
  grows_next l k b m h z = go (first_part_splits c.1 e.1 (l ++ k) (b ∷ m) h)
    where
      Goal : Type 0
      Goal = Grows p (xs ++ ys) z (both (tape l false z)) (both (tape (l ++ k) false z))

      on : (h : Goes (l ++ k) (b ∷ m) c.1 e.1) → Ends l c.1 ⊎ Goes l k c.1 h.0 → Goal
      on h (inl i) =
          let P = G.part l [] i.0 i.1 (ap (λ l. l ++ i.0 ∷ i.1) (append-nil l) ∙ i.2) z in
          let Q = H.part h.0 [] b m (ap (λ l. l ++ b ∷ m) (append-nil h.0) ∙ h.2) (z + length xs) in
          record {
            j = P.j;
            i = Q.j + length xs;
            grows = omega (arith, P.fewer.0);
            fewer = stops_first (tape l false z) z P.j P.fewer;
            more = stops_second (l ++ k) h.0 z Q.j h.1 Q.fewer;
          }
      on h (inr i) =
          let Q = H.part i.0 k b m (ap (λ l. l ++ b ∷ m) i.2 ∙ h.2) (z + length xs) in
          record {
            j = Q.j + length xs;
            i = Q.i + length xs;
            grows = omega (arith, Q.grows);
            fewer = stops_second l i.0 z Q.j i.1 Q.fewer;
            more = stops_second (l ++ k) (i.0 ++ k) z Q.i (h.1 ∙ ap (λ l. c.1 ++ l) (sym i.2)) Q.more;
          }

      go : Ends (l ++ k) c.1 ⊎ Goes (l ++ k) (b ∷ m) c.1 e.1 → Goal
      go (inl h) =
          let Q = G.part l k h.0 h.1 h.2 z in
          record {
            j = Q.j;
            i = Q.i;
            grows = Q.grows;
            fewer = stops_first (tape l false z) z Q.j Q.fewer;
            more = stops_first (tape (l ++ k) false z) z Q.i Q.more;
          }
      go (inr h) = on h (first_part_splits c.1 h.0 l k h.1)

  pub together_next : Together p (xs ++ ys) (◌next◌ Coder c e) (◌next◌ Decoder f g)
  unfolding ◌next◌
  together_next = record {
    held = λ i. G.held i ++ H.held i;
    full = λ r z.
        ap (λ l. ◌next◌ Decoder f g (tape l false z)) (append_assoc c.1 (e.1 ++ []) r ∙ ap (λ l. c.1 ++ (l ++ r)) (append-nil e.1))
        ∙ decode_next f g (G.full (e.1 ++ r) z) (H.full r (z + length xs))
        ∙ (λ i. (sym (map_append (cleared p) xs ys) i, tape r false ((let s : z + length xs + length ys ≡ z + length (xs ++ ys) = omega (arith, length-append xs ys) in s) i)));
    over = λ z. decode_next f g (G.over z) (H.over z) ∙ ap (λ l. (l, tape [] true z)) (sym (map_append (cleared (suc p)) xs ys));
    part = λ l k b m h. grows_next l k b m (h ∙ ap (λ l. c.1 ++ l) (append-nil e.1));
  }
