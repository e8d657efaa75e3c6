-- A block that was made reads back as it was put together, and passes the single-block check: of every edition, over the place where
-- its payload starts. Assumes nothing.
use Prim.Native.Nat.{ℕ, suc, ◌+◌, ◌-◌, ◌/◌, ◌%◌, ◌<◌, ◌≤◌}
use mathlib.Core.Path.{◌≡◌, refl, sym, ap, ◌∙◌}
use mathlib.Core.Bool.{Bool, true, false, ◌&&◌, and-eq-true_iff, and_assoc}
use mathlib.Core.List.{List, [], ◌∷◌, ◌++◌, append_assoc}
use native.Mathlib.Omega.{arith}
use lib.Dec.{eqb, leb}
use lib.ListN.{length, take, drop, length-append}
use lib.Seq.{take_at, drop_at, get_or_at, get_or-append-add}
use borrow.Author.Tests.{eq-eqb, eqb-true, le-leb, leb-true}
use Rattle.paper.specs.Sizes.{unless, size_in, levels_in, planes_in}
use Rattle.paper.specs.Bits.{bits, all_zero}
use Rattle.paper.specs.Block.{is_label, label_characters, same_bytes, Origin, edition_in, origin_in, block_bytes, header_bytes, checks_start, numbered_blocks, start_of, header, named, sealed, two_bytes, check_a, check_b, byte_at, pair_at, edition_of, label_of, number_of, count_of, named_of, payload_bytes, payload_bits, payload_of, checks_right, origin_right, fields_right, contents_right, block_refusal}
use Rattle.paper.specs.Record.{made_block, said}
use Rattle.block.proofs.Editions.{start_most, named_length, arm_right}

-- two bytes that stand behind `front` read back as one number
pair_in : (front back : List ℕ) (v i : ℕ) → length front ≡ i → v < numbered_blocks → pair_at (front ++ (two_bytes v ++ back)) i ≡ v
pair_in front back v i h small =
    let high : byte_at (front ++ (two_bytes v ++ back)) i ≡ v / 256 % 256 = get_or_at front (v / 256 % 256) (v % 256 ∷ back) 0 i h in
    let low : byte_at (front ++ (two_bytes v ++ back)) (i + 1) ≡ v % 256 = rw (← h) (get_or-append-add front (two_bytes v ++ back) 1 0) in
    omega arith

pub label_length : (label : List ℕ) → is_label label ≡ true → length label ≡ 8
unfolding is_label
label_length label h = eqb-true _ _ ((and-eq-true_iff (eqb (length label) 8) (label_characters label)).0 h).0

-- ---- the fields, one by one
pub record Fields (start : ℕ) (block : List ℕ) : Type 0 where
  pub its_size : size_in (byte_at block 1) ≡ true
  pub its_levels : levels_in (byte_at block 1) (byte_at block 2) ≡ true
  pub its_planes : planes_in (byte_at block 3) ≡ true
  pub its_label : is_label (label_of block) ≡ true
  pub its_count : count_of block ≤ payload_bits start
  pub its_unused : all_zero (drop (count_of block) (bits (payload_of start block))) ≡ true

pub fields_right_lem : (start : ℕ) (block : List ℕ) → Fields start block → fields_right start block ≡ true
unfolding fields_right
fields_right_lem start block f =
    rw (f.its_size, f.its_levels, f.its_planes, f.its_label, le-leb (count_of block) (payload_bits start) f.its_count) f.its_unused

pub fields_split : (start : ℕ) (block : List ℕ) → fields_right start block ≡ true → Fields start block
unfolding fields_right
fields_split start block right =
    let b = size_in (byte_at block 1) in
    let c = levels_in (byte_at block 1) (byte_at block 2) in
    let d = planes_in (byte_at block 3) in
    let e = is_label (label_of block) in
    let f = leb (count_of block) (payload_bits start) in
    let g = all_zero (drop (count_of block) (bits (payload_of start block))) in
    let fg = (and-eq-true_iff (b && c && d && e && f) g).0 right in
    let ef = (and-eq-true_iff (b && c && d && e) f).0 fg.0 in
    let de = (and-eq-true_iff (b && c && d) e).0 ef.0 in
    let cd = (and-eq-true_iff (b && c) d).0 de.0 in
    let bc = (and-eq-true_iff b c).0 cd.0 in
    record {
      its_size = bc.0;
      its_levels = bc.1;
      its_planes = cd.1;
      its_label = de.1;
      its_count = leb-true _ _ ef.1;
      its_unused = fg.1;
    }

-- ---- bytes 0 to 507 with their checks
module _ (body : List ℕ) where
  pub sealed_length : length (sealed body) ≡ length body + 4
  unfolding sealed
  sealed_length = length-append body _

  module _ (whole : length body ≡ checks_start) where
    pub body_of_sealed : take checks_start (sealed body) ≡ body
    unfolding sealed
    body_of_sealed = take_at body _ checks_start whole

    a_of_sealed : pair_at (sealed body) checks_start ≡ check_a body
    unfolding sealed
    a_of_sealed = pair_in body (two_bytes (check_b body)) (check_a body) checks_start whole (omega arith)

    b_of_sealed : pair_at (sealed body) (checks_start + 2) ≡ check_b body
    unfolding sealed
    b_of_sealed =
        rw (← append_assoc body (two_bytes (check_a body)) (two_bytes (check_b body)))
        (pair_in (body ++ two_bytes (check_a body)) [] (check_b body) (checks_start + 2) (length-append body (two_bytes (check_a body)) ∙ omega arith) (omega arith))

    pub checks_of_sealed : checks_right (sealed body) ≡ true
    unfolding checks_right
    checks_of_sealed = rw (body_of_sealed, eq-eqb _ _ a_of_sealed, eq-eqb _ _ b_of_sealed)

-- ---- header, what stands behind it, and checks
pub header_length : (e k L n : ℕ) (label : List ℕ) (number count : ℕ) → length label ≡ 8 → length (header e k L n label number count) ≡ header_bytes
unfolding header
header_length e k L n label number count eight = simp length-append (omega arith)

module _ (e k L n : ℕ) (label : List ℕ) (number count : ℕ) (rest : List ℕ) where
  abbrev made : List ℕ
  made = sealed (header e k L n label number count ++ rest)

  edition_of_lem : edition_of made ≡ e
  unfolding sealed header
  edition_of_lem = refl

  k_of : byte_at made 1 ≡ k
  unfolding sealed header
  k_of = refl

  levels_of : byte_at made 2 ≡ L
  unfolding sealed header
  levels_of = refl

  planes_of : byte_at made 3 ≡ n
  unfolding sealed header
  planes_of = refl

  module _ (eight : length label ≡ 8) where
    label_of_lem : label_of made ≡ label
    unfolding sealed header
    label_of_lem = simp append_assoc (take_at label _ 8 eight)

    -- bytes 0 to 11
    front_of : take 12 made ≡ e ∷ k ∷ L ∷ n ∷ label
    unfolding sealed header
    front_of = ap (λ (t : List ℕ). e ∷ k ∷ L ∷ n ∷ t) label_of_lem

    number_of_lem : number < numbered_blocks → number_of made ≡ number
    unfolding sealed header
    number_of_lem small = simp append_assoc (pair_in (e ∷ k ∷ L ∷ n ∷ label) _ number 12 (omega arith) small)

    count_of_lem : count < numbered_blocks → count_of made ≡ count
    unfolding sealed header
    count_of_lem small =
        let body = header e k L n label number count ++ rest in
        let h = pair_in (e ∷ k ∷ L ∷ n ∷ (label ++ two_bytes number)) (rest ++ (two_bytes (check_a body) ++ two_bytes (check_b body))) count 14 (simp length-append (omega arith)) small in
        simp append_assoc (simp append_assoc at h)

    module _ (whole : header_bytes + length rest ≡ checks_start) where
      body_length : length (header e k L n label number count ++ rest) ≡ checks_start
      body_length = rw (length-append, header_length e k L n label number count eight, whole)

-- ---- arm and mount, and the payload at its start
module _ (o : Origin) (k L n : ℕ) (label : List ℕ) (number count : ℕ) (payload : List ℕ) (eight : length label ≡ 8) (whole : length payload ≡ payload_bytes (start_of o.edition)) where
  abbrev block : List ℕ
  block = made_block o k L n label number count payload

  abbrev front : List ℕ
  front = header o.edition k L n label number count

  abbrev start : ℕ
  start = start_of o.edition

  rest_length : header_bytes + length (named o ++ payload) ≡ checks_start
  rest_length = omega (arith, length-append (named o) payload, named_length o, start_most o.edition)

  pub made_length : length block ≡ block_bytes
  unfolding made_block
  made_length = rw (sealed_length, body_length o.edition k L n label number count (named o ++ payload) eight rest_length)

  pub edition_of_made : edition_of block ≡ o.edition
  unfolding made_block
  edition_of_made = edition_of_lem o.edition k L n label number count (named o ++ payload)

  pub label_of_made : label_of block ≡ label
  unfolding made_block
  label_of_made = label_of_lem o.edition k L n label number count (named o ++ payload) eight

  pub number_of_made : number < numbered_blocks → number_of block ≡ number
  unfolding made_block
  number_of_made = number_of_lem o.edition k L n label number count (named o ++ payload) eight

  pub count_of_made : count < numbered_blocks → count_of block ≡ count
  unfolding made_block
  count_of_made = count_of_lem o.edition k L n label number count (named o ++ payload) eight

  pub named_of_made : named_of block ≡ named o
  unfolding made_block sealed named_of
  named_of_made =
      ap (λ e. take (start_of e - header_bytes) (drop header_bytes block)) edition_of_made
      ∙ rw (append_assoc front (named o ++ payload), drop_at front _ header_bytes (header_length o.edition k L n label number count eight), append_assoc (named o) payload)
      (take_at (named o) _ (start - header_bytes) (omega (arith, named_length o)))

  pub front_of_made : take 12 block ≡ o.edition ∷ k ∷ L ∷ n ∷ label
  unfolding made_block
  front_of_made = front_of o.edition k L n label number count (named o ++ payload) eight

  -- what the blocks of a record agree in
  pub said_of_made : said block ≡ (o.edition ∷ k ∷ L ∷ n ∷ label) ++ named o
  unfolding said
  said_of_made = λ z. front_of_made z ++ named_of_made z

  pub payload_of_made : payload_of start block ≡ payload
  unfolding made_block sealed payload_of
  payload_of_made =
      let reached : length (front ++ named o) ≡ start = length-append front (named o) ∙ omega (arith, header_length o.edition k L n label number count eight, named_length o) in
      rw (← append_assoc front (named o) payload, append_assoc (front ++ named o) payload, drop_at (front ++ named o) _ start reached) (take_at payload _ (payload_bytes start) whole)

  k_of_made : byte_at block 1 ≡ k
  unfolding made_block
  k_of_made = k_of o.edition k L n label number count (named o ++ payload)

  levels_of_made : byte_at block 2 ≡ L
  unfolding made_block
  levels_of_made = levels_of o.edition k L n label number count (named o ++ payload)

  planes_of_made : byte_at block 3 ≡ n
  unfolding made_block
  planes_of_made = planes_of o.edition k L n label number count (named o ++ payload)

  checks_of_made : checks_right block ≡ true
  unfolding made_block
  checks_of_made = checks_of_sealed (front ++ (named o ++ payload)) (body_length o.edition k L n label number count (named o ++ payload) eight rest_length)

  -- a block that was made from fields in range, with its unused bits 0, passes
  pub made_passes : edition_in o.edition ≡ true → origin_in o ≡ true → size_in k ≡ true → levels_in k L ≡ true → planes_in n ≡ true → is_label label ≡ true → count ≤ payload_bits start
      → all_zero (drop count (bits payload)) ≡ true → block_refusal block ≡ 0
  unfolding block_refusal origin_right
  made_passes known origin size levels planes characters most unused =
      let counted : count_of block ≡ count = count_of_made (omega (arith, start_most o.edition)) in
      let fields : Fields start block = record {
        its_size = ap size_in k_of_made ∙ size;
        its_levels = (λ z. levels_in (k_of_made z) (levels_of_made z)) ∙ levels;
        its_planes = ap planes_in planes_of_made ∙ planes;
        its_label = ap is_label label_of_made ∙ characters;
        its_count = rw counted most;
        its_unused = rw (counted, payload_of_made) unused;
      } in
      rw (made_length, checks_of_made, edition_of_made, known, named_of_made, arm_right o origin, fields_right_lem start block fields)

-- ---- what a block that passes is
row_passed : (r : ℕ) (b : Bool) (later : ℕ) → unless (suc r) b later ≡ 0 → (b ≡ true) × (later ≡ 0)
row_passed r true later h = (refl, h)
row_passed r false later h = (cc, cc)

module _ (block : List ℕ) (passes : block_refusal block ≡ 0) where
  rows : (eqb (length block) block_bytes ≡ true) × ((checks_right block ≡ true) × (contents_right block ≡ true))
  unfolding block_refusal
  rows =
      let nine = unless 9 (contents_right block) 0 in
      let first = row_passed 5 (eqb (length block) block_bytes) (unless 8 (checks_right block) nine) passes in
      let second = row_passed 7 (checks_right block) nine first.1 in
      (first.0, (second.0, (row_passed 8 (contents_right block) 0 second.1).0))

  pub length_of_passed : length block ≡ block_bytes
  length_of_passed = eqb-true _ _ rows.0

  pub checks_of_passed : checks_right block ≡ true
  checks_of_passed = rows.1.0

  pub fields_of_passed : Fields (start_of (edition_of block)) block
  fields_of_passed = fields_split (start_of (edition_of block)) block ((and-eq-true_iff (origin_right block) (fields_right (start_of (edition_of block)) block)).0 rows.1.1).1

-- ---- the same bytes
pub same_bytes_refl : (s : List ℕ) → same_bytes s s ≡ true
unfolding same_bytes
same_bytes_refl [] = refl
same_bytes_refl (v ∷ s) = rw (eq-eqb v v refl) (same_bytes_refl s)

pub same_bytes_equal : (s t : List ℕ) → same_bytes s t ≡ true → s ≡ t
unfolding same_bytes
same_bytes_equal [] [] h = refl
same_bytes_equal [] (w ∷ t) h = cc
same_bytes_equal (v ∷ s) [] h = cc
same_bytes_equal (v ∷ s) (w ∷ t) h =
    let parts = (and-eq-true_iff (eqb v w) (same_bytes s t)).0 h in
    let first : v ≡ w = eqb-true v w parts.0 in
    let rest : s ≡ t = same_bytes_equal s t parts.1 in
    cc

-- of two parts: as long as the front is
pub same_bytes_parts : (s t u v : List ℕ) → length s ≡ length t → same_bytes (s ++ u) (t ++ v) ≡ (same_bytes s t && same_bytes u v)
unfolding same_bytes
same_bytes_parts [] [] u v h = refl
same_bytes_parts [] (w ∷ t) u v h = absurd (omega arith)
same_bytes_parts (a ∷ s) [] u v h = absurd (omega arith)
same_bytes_parts (a ∷ s) (w ∷ t) u v h = rw (same_bytes_parts s t u v (omega arith)) (sym (and_assoc (eqb a w) (same_bytes s t) (same_bytes u v)))
