-- The parts of a block as they come into place. Assumes nothing.
use Prim.Native.Nat.{ℕ, ◌+◌, ◌/◌, ◌%◌, ◌≤◌}
use mathlib.Core.Path.{◌≡◌, refl, ap, ◌∙◌, sym}
use mathlib.Core.List.{List, [], ◌∷◌, ◌++◌, append_assoc, append-nil}
use native.Mathlib.Omega.{arith}
use lib.ListN.{length, take, drop, set, length-append, take-append-drop}
use lib.Seq.{drop-drop, drop-length, length-take-le, sets-eq, take_at}
use borrow.Author.Tests.{eq-eqb, ne_eqb}
use borrow.Rule.Slice.PartMut.{put_mid}
use Rattle.paper.specs.Block.{Origin, block_bytes, header_bytes, checks_start, start_of, payload_bytes, check_a, check_b, two_bytes, three_bytes, header, named, sealed}
use Rattle.paper.specs.Record.{made_block}
use Rattle.list_laws.specs.Over.{laid_behind}
use Rattle.list_laws.specs.Parts.{behind_part}
use Rattle.block.proofs.Editions.{start_most, named_length}
use Rattle.block.proofs.Blocks.{header_length}

-- a part put behind a front, over what stood there
put_behind : {A : Type 0} (front part out old : List A) (a u : ℕ) → length front ≡ a → out ≡ front ++ drop a old → put_mid a u out part ≡ (front ++ part) ++ drop (a + u) old
put_behind front part out old a u h e = ap (λ r. take a out ++ (part ++ r)) (drop-drop u a out) ∙ laid_behind front part out old a u h e

behind : {A : Type 0} (s t p q : List A) → ((s ++ t) ++ p) ++ q ≡ s ++ (t ++ (p ++ q))
behind s t p q = simp append_assoc

-- the header: four single bytes, the label, and two numbers of two bytes
pub header_in : (e k L n : ℕ) (label : List ℕ) (number count : ℕ) (l t p q : List ℕ) → header_bytes ≤ length l → length label ≡ 8 → t ≡ label → p ≡ two_bytes number → q ≡ two_bytes count
    → put_mid 14 2 (put_mid 12 2 (put_mid 4 8 (set (set (set (set l 0 e) 1 k) 2 L) 3 n) t) p) q ≡ header e k L n label number count ++ drop header_bytes l
unfolding header
header_in e k L n label number count l t p q long eight et ep eq =
    let singles : List ℕ = e ∷ k ∷ L ∷ n ∷ [] in
    let with_label = put_behind singles t _ l 4 8 refl (sets-eq singles l 0 (omega arith)) in
    let with_number = put_behind (singles ++ t) p _ l 12 2 (rw et (omega arith)) with_label in
    let with_count = put_behind ((singles ++ t) ++ p) q _ l 14 2 (simp length-append (rw (et, ep) (omega arith))) with_number in
    with_count ∙ ap (λ f. f ++ drop header_bytes l) (behind singles t p q) ∙ rw (et, ep, eq)

pub payload_in : (start : ℕ) (l p ys : List ℕ) → start ≤ checks_start → ys ≡ p
    → take start l ++ (ys ++ drop (payload_bytes start) (drop start l)) ≡ take start l ++ (p ++ drop checks_start l)
payload_in start l p ys h e = rw (e, behind_part start checks_start l)

pub checks_in : (l p q : List ℕ) (a b : ℕ) → length l ≡ block_bytes → p ≡ two_bytes a → q ≡ two_bytes b → a ≡ check_a (take checks_start l) → b ≡ check_b (take checks_start l)
    → put_mid 510 2 (put_mid 508 2 l p) q ≡ sealed (take checks_start l)
unfolding sealed
checks_in l p q a b h ep eq ea eb =
    let body : List ℕ = take checks_start l in
    let before : length body ≡ checks_start = length-take-le checks_start l (omega arith) in
    let with_a = put_behind body p l l 508 2 before (sym (take-append-drop checks_start l)) in
    let with_b = put_behind (body ++ p) q _ l 510 2 (simp length-append (rw (before, ep) refl)) with_a in
    let none : drop 512 l ≡ [] = ap (λ (n : ℕ). drop n l) (sym h) ∙ drop-length l in
    with_b ∙ rw (none, append-nil, append_assoc, ep, eq, ea, eb)

-- what names the origin, behind the header
module _ (o : Origin) (l : List ℕ) where
  pub no_origin_in : o.edition ≡ 1 → l ≡ take header_bytes l ++ (named o ++ drop (start_of o.edition) l)
  unfolding start_of named
  no_origin_in h = rw (eq-eqb o.edition 1 h) (sym (take-append-drop header_bytes l))

  -- byte by byte
  pub origin_in_lem : (o.edition ≡ 1 → ⊥) → header_bytes + 4 ≤ length l
      → set (set (set (set l header_bytes o.arm) (header_bytes + 1) (o.mount / 65536 % 256)) (header_bytes + 2) (o.mount / 256 % 256)) (header_bytes + 3) (o.mount % 256) ≡ take header_bytes l ++ (named o ++ drop (start_of o.edition) l)
  unfolding start_of named
  origin_in_lem h long = rw (ne_eqb o.edition 1 h) (sets-eq (o.arm ∷ three_bytes o.mount) l header_bytes (omega arith) ∙ append_assoc (take header_bytes l) (o.arm ∷ three_bytes o.mount) _)

  -- the mount number as one part
  pub mount_in : (t : List ℕ) → (o.edition ≡ 1 → ⊥) → header_bytes + 4 ≤ length l → t ≡ three_bytes o.mount
      → put_mid 17 3 (set l 16 o.arm) t ≡ take header_bytes l ++ (named o ++ drop (start_of o.edition) l)
  unfolding start_of named
  mount_in t h long e =
      let before : length (take header_bytes l ++ o.arm ∷ []) ≡ 17 = simp length-append (rw (length-take-le header_bytes l (omega arith)) refl) in
      rw (ne_eqb o.edition 1 h) (put_behind (take header_bytes l ++ o.arm ∷ []) t _ l 17 3 before (sets-eq (o.arm ∷ []) l header_bytes (omega arith)) ∙ rw e (simp append_assoc))

-- header, origin, payload and checks, each put in its place
pub made_in : (o : Origin) (k L n : ℕ) (label : List ℕ) (number count : ℕ) (p rest h f w r : List ℕ) → length label ≡ 8 → length p ≡ payload_bytes (start_of o.edition)
    → h ≡ header o.edition k L n label number count ++ rest
    → f ≡ take header_bytes h ++ (named o ++ drop (start_of o.edition) h)
    → w ≡ take (start_of o.edition) f ++ (p ++ drop checks_start f)
    → r ≡ sealed (take checks_start w) → r ≡ made_block o k L n label number count p
unfolding made_block
made_in o k L n label number count p rest h f w r eight whole eh ef ew er =
    let start = start_of o.edition in
    let front = header o.edition k L n label number count in
    let headed : take header_bytes h ≡ front = ap (take header_bytes) eh ∙ take_at front _ header_bytes (header_length o.edition k L n label number count eight) in
    let named_there : take start f ≡ front ++ named o =
    ap (take start) (ef ∙ ap (λ (x : List ℕ). x ++ (named o ++ drop start h)) headed ∙ sym (append_assoc front (named o) (drop start h)))
    ∙ take_at (front ++ named o) (drop start h) start (length-append front (named o) ∙ omega (arith, header_length o.edition k L n label number count eight, named_length o)) in
    let body : w ≡ (front ++ (named o ++ p)) ++ drop checks_start f = ew ∙ ap (λ (x : List ℕ). x ++ (p ++ drop checks_start f)) named_there ∙ simp append_assoc in
    er
    ∙ ap (λ (x : List ℕ). sealed (take checks_start x)) body
    ∙ ap sealed (take_at (front ++ (named o ++ p)) (drop checks_start f) checks_start (length-append front (named o ++ p) ∙ omega (arith, header_length o.edition k L n label number count eight, length-append (named o) p, named_length o, start_most o.edition)))
