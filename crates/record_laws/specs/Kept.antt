-- What a reader keeps, of any bytes at all: the longest run of blocks that pass, all full but possibly the last. Of any edition's
-- reader: `refusal` is what it judges of each block in its turn, `start` where it takes the payload to start.
use Rattle.std.specs.Prelude.{◌≡◌, Bool, List}
use Rattle.std.proofs.Math.Path.{refl}
use Rattle.std.proofs.Common.{sym, ap, ◌∙◌, subst, zero-add, arith}
use Rattle.std.proofs.Math.Bool.{true, false}
use Prim.Native.Nat.{ℕ, zero, suc, ◌+◌, ◌<◌, ◌≤◌}
use Rattle.std.proofs.Math.Decide.{dec_lt}
use Rattle.paper.specs.Record.{whole_blocks, block_at, is_full, Run, run_from}

-- of the blocks from i on the last kept one, if there is one, is full
abbrev pub LastFull : ℕ → List ℕ → ℕ → ℕ → Type 0
LastFull start s i kept = (j : ℕ) → i ≤ j → suc j ≡ kept → is_full start (block_at s j) ≡ true

-- a run from block i on, where `left` whole blocks are left: what it keeps, and why it ends
pub record Longest (start : ℕ) (refusal : ℕ → ℕ) (s : List ℕ) (left i : ℕ) (run : Run) : Type 0 where
  pub from : i ≤ run.kept
  pub to : run.kept ≤ i + left
  -- nothing is kept of a block that fails, and a short block is kept only as the last
  pub passes : (j : ℕ) → i ≤ j → j < run.kept → refusal j ≡ 0
  pub full : (j : ℕ) → i ≤ j → suc j < run.kept → is_full start (block_at s j) ≡ true
  -- a whole block is left out behind a full one only if it fails, and its number is given
  pub next : run.kept < i + left → LastFull start s i run.kept → refusal run.kept ≡ run.ended
  pub fails : run.kept < i + left → LastFull start s i run.kept → run.ended ≡ 0 → ⊥
  -- 0 if no block ended the run or if a short block ended it
  pub none : run.kept ≡ i + left → run.ended ≡ 0
  pub short : (j : ℕ) → i ≤ j → suc j ≡ run.kept → is_full start (block_at s j) ≡ false → run.ended ≡ 0

module _ (start : ℕ) (refusal : ℕ → ℕ) (s : List ℕ) where
  below : {i j : ℕ} → i ≤ j → j < i → ⊥
  below h k = omega arith

  -- block i, or one behind it
  at_or_behind : (P : ℕ → Type 0) {i : ℕ} → P i → (j : ℕ) → i ≤ j → (suc i ≤ j → P j) → P j
  at_or_behind P {i} p j h f = elim (dec_lt i j) [ yes k ↦ f k | no k ↦ let e : i ≡ j = omega arith in subst P e p ]

  never : {A : Type 0} {b : Bool} → b ≡ true → b ≡ false → A
  never p q = let z : ◌≡◌ {A = ℕ} 0 1 = cc in absurd (omega arith)

  -- a block that passes and is full goes before a run
  behind : (left i : ℕ) (run : Run) → refusal i ≡ 0 → is_full start (block_at s i) ≡ true → Longest start refusal s left (suc i) run → Longest start refusal s (suc left) i run
  behind left i run e f g = record {
    from = omega (arith, g.from);
    to = omega (arith, g.to);
    passes = λ j h k. at_or_behind (λ j. refusal j ≡ 0) e j h (λ m. g.passes j m k);
    full = λ j h k. at_or_behind (λ j. is_full start (block_at s j) ≡ true) f j h (λ m. g.full j m k);
    next = λ h a. g.next (omega arith) (λ j m k. a j (omega arith) k);
    fails = λ h a. g.fails (omega arith) (λ j m k. a j (omega arith) k);
    none = λ h. g.none (omega arith);
    short = λ j h k. at_or_behind (λ j. is_full start (block_at s j) ≡ false → run.ended ≡ 0) (never f) j h (λ m. g.short j m k);
  }

  -- a short block ends the run
  stops : (left i : ℕ) → refusal i ≡ 0 → is_full start (block_at s i) ≡ false → Longest start refusal s (suc left) i (record { kept = suc i; ended = 0 })
  stops left i e f = record {
    from = omega arith;
    to = omega arith;
    passes = λ j h k. at_or_behind (λ j. refusal j ≡ 0) e j h (λ m. absurd (below m k));
    full = λ j h k. absurd (below h (omega arith));
    next = λ h a. never (a i (omega arith) refl) f;
    fails = λ h a. never (a i (omega arith) refl) f;
    none = λ h. refl;
    short = λ j h k m. refl;
  }

  -- a block that fails is not in it, and gives its number
  refuses : (left i r : ℕ) → refusal i ≡ suc r → Longest start refusal s (suc left) i (record { kept = i; ended = suc r })
  refuses left i r e = record {
    from = omega arith;
    to = omega arith;
    passes = λ j h k. absurd (below h k);
    full = λ j h k. absurd (below h (omega arith));
    next = λ h a. e;
    fails = λ h a m. omega arith;
    none = λ h. absurd (below {i = i + 1} {j = i} (omega arith) (omega arith));
    short = λ j h k m. absurd (below h (omega arith));
  }

  pub run_longest : (left i : ℕ) → Longest start refusal s left i (run_from start refusal s left i)
  unfolding run_from
  run_longest zero i = record {
    from = omega arith;
    to = omega arith;
    passes = λ j h k. absurd (below h k);
    full = λ j h k. absurd (below h (omega arith));
    next = λ h a. absurd (below {i = i} {j = i} (omega arith) (omega arith));
    fails = λ h a m. absurd (below {i = i} {j = i} (omega arith) (omega arith));
    none = λ e. refl;
    short = λ j h k e. refl;
  }
  run_longest (suc left) i = go (refusal i) refl (is_full start (block_at s i)) refl (run_longest left (suc i))
    where
      go : (r : ℕ) → refusal i ≡ r → (f : Bool) → is_full start (block_at s i) ≡ f → Longest start refusal s left (suc i) (run_from start refusal s left (suc i))
          → Longest start refusal s (suc left) i (elim r [
            | zero ↦ elim f [ true ↦ run_from start refusal s left (suc i) | false ↦ record { kept = suc i; ended = 0 } ]
            | suc r ↦ record { kept = i; ended = suc r }
          ])
      go zero e true f g = behind left i (run_from start refusal s left (suc i)) e f g
      go zero e false f g = stops left i e f
      go (suc r) e f' f g = refuses left i r e

  -- where every block passes, and each but the last is full, all are kept
  all_kept : (left i : ℕ) → ((j : ℕ) → j < i + left → refusal j ≡ 0) → ((j : ℕ) → suc j < i + left → is_full start (block_at s j) ≡ true) → run_from start refusal s left i ≡ record { kept = i + left; ended = 0 }
  all_kept left i pass full =
      let g = run_longest left i in
      let run = run_from start refusal s left i in
      let e : run.kept ≡ i + left = elim (dec_lt run.kept (i + left)) [
        | yes h ↦ let a : LastFull start s i run.kept = λ j m k. full j (omega arith) in absurd (g.fails h a (sym (g.next h a) ∙ pass run.kept h))
        | no h ↦ omega (arith, g.to)
      ] in
      λ t. record { kept = e t; ended = g.none e t }

  pub whole_kept : (count : ℕ) → whole_blocks s ≡ count → ((j : ℕ) → j < count → refusal j ≡ 0) → ((j : ℕ) → suc j < count → is_full start (block_at s j) ≡ true) → run_from start refusal s (whole_blocks s) 0 ≡ record { kept = count; ended = 0 }
  whole_kept count e pass full =
      ap (λ left. run_from start refusal s left 0) e
      ∙ all_kept count 0 (λ j h. pass j (omega arith)) (λ j h. full j (omega arith))
      ∙ ap (λ kept. record { kept = kept; ended = 0 }) (zero-add count)

  -- a block that fails is not kept, whatever the others are
  pub fails_not_kept : (left i r : ℕ) → refusal i ≡ suc r → (run_from start refusal s left 0).kept ≤ i
  fails_not_kept left i r e = elim (dec_lt i (run_from start refusal s left 0).kept) [
    | yes h ↦ absurd (let z : suc r ≡ 0 = sym e ∙ (run_longest left 0).passes i (omega arith) h in omega arith)
    | no h ↦ omega arith
  ]

  -- where the run comes to it, since each before it passes and is full, it ends the run and gives its number
  pub fails_ends : (left i r : ℕ) → i < left → refusal i ≡ suc r → ((j : ℕ) → j < i → refusal j ≡ 0) → ((j : ℕ) → j < i → is_full start (block_at s j) ≡ true) → run_from start refusal s left 0 ≡ record { kept = i; ended = suc r }
  fails_ends left i r h e pass full =
      let g = run_longest left 0 in
      let kept = (run_from start refusal s left 0).kept in
      let most = fails_not_kept left i r e in
      let more : kept < 0 + left = omega (arith, most) in
      let last : LastFull start s 0 kept = λ j _ k. full j (omega (arith, most)) in
      let here : kept ≡ i = elim (dec_lt kept i) [
        | yes m ↦ absurd (g.fails more last (sym (g.next more last) ∙ pass kept m))
        | no m ↦ omega (arith, most)
      ] in
      let number = sym (g.next more last) ∙ ap refusal here ∙ e in
      λ z. record { kept = here z; ended = number z }
