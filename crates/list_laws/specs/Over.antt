-- A list laid over the front of another, one place at a time or at once, and a part laid behind a front.
use Rattle.std.specs.Prelude.{◌≡◌, List, ◌++◌, ℕ, suc, ◌+◌, ◌<◌, length, take, drop, get_or, set}
use Rattle.std.proofs.Common.{ap, ◌∙◌, sym, append_assoc, append-nil, le_of_lt, add-one, drop-cons, take-suc, length-take-le, drop-drop, take_at, drop_at}
use Rattle.std.proofs.lemmas.List.{set_at}
use Rattle.std.proofs.Math.Seq.{take-length, drop-length}
use Rattle.paper.specs.Lists.{over}

-- ---- a copy over the front
pub over_more : (s d : List ℕ) (i : ℕ) → i < length s → i < length d
    → set (take i s ++ drop i d) i (get_or s i 0) ≡ take (i + 1) s ++ drop (i + 1) d
over_more s d i hs hd =
    ap (λ (r : List ℕ). set (take i s ++ r) i (get_or s i 0)) (drop-cons d i 0 hd)
    ∙ set_at (take i s) (get_or d i 0) (drop (suc i) d) (get_or s i 0) i (length-take-le i s (le_of_lt hs))
    ∙ rw (add-one, take-suc s i 0, append_assoc)

pub over_end : (s d : List ℕ) (i : ℕ) → i ≡ length s → take i s ++ drop i d ≡ over s d
over_end s d i e = rw (e, take-length)

pub over_whole : (s d : List ℕ) → length s ≡ length d → over s d ≡ s
over_whole s d e = rw (e, drop-length, append-nil)

-- ---- behind a front
-- a list stands at the front, and a part is laid behind it
pub laid_behind : {A : Type 0} (front part out old : List A) (a u : ℕ) → length front ≡ a → out ≡ front ++ drop a old
    → take a out ++ (part ++ drop (a + u) out) ≡ (front ++ part) ++ drop (a + u) old
laid_behind front part out old a u h e =
    let before : take a out ≡ front = ap (take a) e ∙ take_at front (drop a old) a h in
    let behind : drop (a + u) out ≡ drop (a + u) old = sym (drop-drop u a out) ∙ ap (λ o. drop u (drop a o)) e ∙ ap (drop u) (drop_at front (drop a old) a h) ∙ drop-drop u a old in
    (λ t. before t ++ (part ++ behind t)) ∙ sym (append_assoc front part (drop (a + u) old))
