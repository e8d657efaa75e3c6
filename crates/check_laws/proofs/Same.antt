-- A block that passes, with one or two of its bytes changed, is the same block if it passes still. Where the bytes stand decides why:
--   both in the body, bytes 0 to 507: A is right only if one rose as far as the other fell, and B then moved by that difference times
--   the way between them, at most 507 times 255, which is no multiple of the prime 65,521 unless it is 0;
--   one in the body, one in the checks: a byte of the body moves both sums, and one byte of the checks stands for only one of them;
--   both in the checks: the sums are as they were, and they say all four bytes.
use Rattle.std.specs.Prelude.{◌≡◌, List, [], ◌∷◌, ◌++◌, ◌≢◌, ℕ, ◌+◌, ◌*◌, ◌-◌, ◌%◌, ◌<◌, ◌≤◌, eqb, length, take, drop, set}
use Rattle.std.proofs.Common.{sym, ap, ◌∙◌, add-mul, mul-add, arith, length-set, length-drop, take-append-drop, get_or-drop, get_or-set_other}
use Rattle.std.proofs.Math.Bool.{and-eq-true_iff}
use Rattle.std.proofs.Math.Decide.{dec_lt}
use Rattle.std.proofs.lemmas.List.{set-get_or, take-set-le}
use borrow.Author.Tests.{eqb-true}
use Rattle.paper.specs.Block.{block_bytes, checks_start, modulus, plain_sum, weighed_sum, check_a, check_b, byte_at, pair_at, checks_right}
use Rattle.list_laws.specs.Parts.{four_places}
use Rattle.check_laws.specs.Prime.{in_a, in_b}
use Rattle.check_laws.proofs.Prime.{moved_back}
use Rattle.check_laws.specs.Sums.{sum_a, sum_b, a_moved, b_moved}
use Rattle.check_laws.specs.Damage.{Passes}

-- ---- A and B stand in the last four bytes
module _ (block : List ℕ) (p : Passes block) where
  both : (pair_at block checks_start ≡ check_a (take checks_start block)) × (pair_at block (checks_start + 2) ≡ check_b (take checks_start block))
  unfolding checks_right
  both =
      let (a, b) = (and-eq-true_iff (eqb (pair_at block checks_start) (check_a (take checks_start block))) (eqb (pair_at block (checks_start + 2)) (check_b (take checks_start block)))).0 p.right in
      (eqb-true _ _ a, eqb-true _ _ b)

  a_stands : pair_at block checks_start ≡ sum_a block % modulus
  a_stands = both.0

  b_stands : pair_at block (checks_start + 2) ≡ sum_b block % modulus
  b_stands = both.1

-- one of them, in two blocks that pass: `sum` stands at x
module _ (sum : List ℕ → ℕ) (x : ℕ) (stands : (block : List ℕ) → Passes block → pair_at block x ≡ sum (take checks_start block) % modulus) (s t : List ℕ) (p : Passes s) (q : Passes t) where
  leaves : pair_at t x ≡ pair_at s x → sum (take checks_start t) % modulus ≡ sum (take checks_start s) % modulus
  leaves e = sym (stands t q) ∙ e ∙ stands s p

  -- two bytes say a number below 65,536
  same_pair : take checks_start t ≡ take checks_start s → (byte_at t x ≡ byte_at s x) × (byte_at t (x + 1) ≡ byte_at s (x + 1))
  same_pair body =
      let e : pair_at t x ≡ pair_at s x = stands t q ∙ ap (λ body. sum body % modulus) body ∙ sym (stands s p) in
      (omega (arith, e, p.bytes (x + 1), q.bytes (x + 1)), omega (arith, e, p.bytes (x + 1), q.bytes (x + 1)))

four_last : (block : List ℕ) → length block ≡ block_bytes → byte_at block 508 ∷ byte_at block 509 ∷ byte_at block 510 ∷ byte_at block 511 ∷ [] ≡ drop checks_start block
four_last block long =
    (λ z. sym (get_or-drop 508 block 0 0) z ∷ sym (get_or-drop 508 block 1 0) z ∷ sym (get_or-drop 508 block 2 0) z ∷ sym (get_or-drop 508 block 3 0) z ∷ [])
    ∙ four_places 0 (drop checks_start block) (omega (arith, length-drop checks_start block, long))

-- of one body there is one block that passes
module _ (s t : List ℕ) (p : Passes s) (q : Passes t) where
  leaves_a : pair_at t checks_start ≡ pair_at s checks_start → sum_a t % modulus ≡ sum_a s % modulus
  leaves_a = leaves plain_sum checks_start a_stands s t p q

  leaves_b : pair_at t (checks_start + 2) ≡ pair_at s (checks_start + 2) → sum_b t % modulus ≡ sum_b s % modulus
  leaves_b = leaves (weighed_sum 0) (checks_start + 2) b_stands s t p q

  same_block : take checks_start t ≡ take checks_start s → t ≡ s
  same_block body =
      let a = same_pair plain_sum checks_start a_stands s t p q body in
      let b = same_pair (weighed_sum 0) (checks_start + 2) b_stands s t p q body in
      let checks : drop checks_start t ≡ drop checks_start s = sym (four_last t q.long) ∙ (λ z. a.0 z ∷ a.1 z ∷ b.0 z ∷ b.1 z ∷ []) ∙ four_last s p.long in
      sym (take-append-drop checks_start t) ∙ (λ z. body z ++ checks z) ∙ take-append-drop checks_start s

-- ---- one byte
-- a byte made what it was before
unchanged : (s : List ℕ) (i v : ℕ) → v ≡ byte_at s i → set s i v ≡ s
unchanged s i v e = ap (set s i) e ∙ set-get_or s i 0

module _ (s : List ℕ) (p : Passes s) (i v : ℕ) (small : v < 256) where
  -- in the body: either sum finds it alone
  module _ (h : i < checks_start) where
    a_finds : sum_a (set s i v) % modulus ≡ sum_a s % modulus → v ≡ byte_at s i
    a_finds = moved_back (sum_a s) (sum_a (set s i v)) 1 (byte_at s i) v in_a (omega (arith, p.bytes i)) (omega arith) (omega (arith, a_moved s p.long i v h))

    b_finds : sum_b (set s i v) % modulus ≡ sum_b s % modulus → v ≡ byte_at s i
    b_finds = moved_back (sum_b s) (sum_b (set s i v)) (i + 1) (byte_at s i) v (in_b (i + 1) (omega arith) (omega arith)) (omega (arith, p.bytes i)) (omega arith) (b_moved s p.long i v h)

  pub one_same : Passes (set s i v) → set s i v ≡ s
  one_same q = elim (dec_lt i checks_start) [
    | yes h ↦
        let e508 = get_or-set_other s i 508 v 0 (λ e. omega arith) in
        let e509 = get_or-set_other s i 509 v 0 (λ e. omega arith) in
        unchanged s i v (a_finds h (leaves_a s (set s i v) p q (omega arith)))
    | no h ↦ same_block s (set s i v) p q (take-set-le checks_start s i v (omega arith))
  ]

-- ---- two bytes, i before j
module _ (s : List ℕ) (p : Passes s) (i j v w : ℕ) (order : i < j) (small-v : v < 256) (small-w : w < 256) where
  abbrev once : List ℕ
  once = set s i v

  abbrev twice : List ℕ
  twice = set once j w

  elsewhere : (x : ℕ) → x ≢ i → x ≢ j → byte_at twice x ≡ byte_at s x
  elsewhere x a b = get_or-set_other once j x w 0 b ∙ get_or-set_other s i x v 0 a

  -- a pair behind place i, of which neither byte is at place j
  untouched : (x : ℕ) → i < x → ((y : ℕ) → x ≤ y → y ≤ x + 1 → y ≢ j) → pair_at twice x ≡ pair_at s x
  untouched x h off = omega (arith, elsewhere x (λ e. omega arith) (off x (omega arith) (omega arith)), elsewhere (x + 1) (λ e. omega arith) (off (x + 1) (omega arith) (omega arith)))

  -- the weight of place j is that of place i and the way between them
  further : (x : ℕ) → (j + 1) * x ≡ (i + 1) * x + (j - i) * x
  further x = ap (λ n. n * x) (let e : j + 1 ≡ i + 1 + (j - i) = omega arith in e) ∙ add-mul (i + 1) (j - i) x

  module _ (q : Passes twice) where
    -- both in the body
    in_body : j < checks_start → twice ≡ s
    in_body h =
        let there : byte_at once j ≡ byte_at s j = get_or-set_other s i j v 0 (λ e. omega arith) in
        let long : length once ≡ block_bytes = length-set s i v ∙ p.long in
        let even : v + w ≡ byte_at s i + byte_at s j = moved_back (sum_a s) (sum_a twice) 1 (byte_at s i + byte_at s j) (v + w) in_a (omega (arith, p.bytes i, p.bytes j)) (omega arith) (omega (arith, a_moved s p.long i v (omega arith), a_moved once long j w h, there)) (leaves_a s twice p q (untouched checks_start (omega arith) (λ y a b e. omega arith))) in
        let alike : (i + 1) * v + (i + 1) * w ≡ (i + 1) * byte_at s i + (i + 1) * byte_at s j = sym (mul-add (i + 1) v w) ∙ ap (λ n. (i + 1) * n) even ∙ mul-add (i + 1) (byte_at s i) (byte_at s j) in
        let moved : sum_b twice + (j - i) * byte_at s j ≡ sum_b s + (j - i) * w = omega (arith, b_moved s p.long i v (omega arith), b_moved once long j w h, ap (λ x. (j + 1) * x) there, alike, further (byte_at s j), further w) in
        let second : w ≡ byte_at s j = moved_back (sum_b s) (sum_b twice) (j - i) (byte_at s j) w (in_b (j - i) (omega arith) (omega arith)) (omega (arith, p.bytes j)) (omega arith) moved (leaves_b s twice p q (untouched (checks_start + 2) (omega arith) (λ y a b e. omega arith))) in
        let first : v ≡ byte_at s i = omega arith in
        ap (λ l. set l j w) (unchanged s i v first) ∙ unchanged s j w second

    -- one in the body, one in the checks: the sum that j is not in finds it
    across : i < checks_start → checks_start ≤ j → twice ≡ s
    across h k =
        let still : take checks_start twice ≡ take checks_start once = take-set-le checks_start once j w k in
        let first : v ≡ byte_at s i = elim (dec_lt j (checks_start + 2)) [
          | yes m ↦ b_finds s p i v small-v h (ap (λ body. weighed_sum 0 body % modulus) (sym still) ∙ leaves_b s twice p q (untouched (checks_start + 2) (omega arith) (λ y a b e. omega arith)))
          | no m ↦ a_finds s p i v small-v h (ap (λ body. plain_sum body % modulus) (sym still) ∙ leaves_a s twice p q (untouched checks_start h (λ y a b e. omega arith)))
        ] in
        same_block s twice p q (still ∙ ap (take checks_start) (unchanged s i v first))

    -- both in the checks
    in_checks : checks_start ≤ i → twice ≡ s
    in_checks h = same_block s twice p q (take-set-le checks_start once j w (omega arith) ∙ take-set-le checks_start s i v h)

    pub ordered_same : twice ≡ s
    ordered_same = elim (dec_lt j checks_start) [
      | yes h ↦ in_body h
      | no h ↦ elim (dec_lt i checks_start) [ yes k ↦ across k (omega arith) | no k ↦ in_checks (omega arith) ]
    ]
