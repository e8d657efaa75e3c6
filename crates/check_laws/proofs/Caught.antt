-- What the check catches, of any block that passes it, whatever its fields say and wherever its payload starts: one byte changed, two
-- unequal bytes exchanged, and more than either, any two bytes changed.
use Rattle.std.specs.Prelude.{◌≡◌, refl, Bool, true, false, List, ◌≢◌, ℕ, ◌<◌, length, set}
use Rattle.std.proofs.Common.{sym, ap, ◌∙◌, subst, arith, length-set, get_or-set_same, get_or-set_other, set-set, eq-eqb}
use Rattle.std.proofs.Math.Decide.{dec_lt, ℕ_discrete}
use Rattle.std.proofs.lemmas.List.{set_comm}
use Rattle.paper.specs.Lists.{Bytes}
use Rattle.paper.specs.Block.{block_bytes, byte_at, checks_right, block_refusal}
use Rattle.check_laws.specs.Damage.{Passes, Caught, changed, exchanged}
use Rattle.check_laws.proofs.Same.{one_same, ordered_same}

-- ---- a block that passes no more
-- A and B are judged before the fields
caught : (t : List ℕ) → length t ≡ block_bytes → (checks_right t ≡ true → ⊥) → Caught t
unfolding block_refusal
caught t long not = record { long = long; wrong = wrong (checks_right t) not; refused = rw (eq-eqb _ _ long, wrong (checks_right t) not) }
  where
    wrong : (c : Bool) → (c ≡ true → ⊥) → c ≡ false
    wrong true not = absurd (not refl)
    wrong false not = refl

bytes_set : (s : List ℕ) (i v : ℕ) → i < length s → v < 256 → Bytes s → Bytes (set s i v)
bytes_set s i v h small bytes x = elim (ℕ_discrete x i) [
  | yes e ↦ rw (e, get_or-set_same s i v 0 h) small
  | no e ↦ rw (get_or-set_other s i x v 0 e) (bytes x)
]

module _ (block : List ℕ) (p : Passes block) where
  -- Two bytes changed, to anything that makes it another block.
  pub two_bytes_changed : (i j v w : ℕ) → i < block_bytes → j < block_bytes → v < 256 → w < 256 → changed j w (changed i v block) ≢ block → Caught (changed j w (changed i v block))
  two_bytes_changed i j v w h k small-v small-w other =
      let once : length (changed i v block) ≡ block_bytes = length-set block i v ∙ p.long in
      let twice : length (changed j w (changed i v block)) ≡ block_bytes = length-set (changed i v block) j w ∙ once in
      let bytes = bytes_set (changed i v block) j w (omega arith) small-w (bytes_set block i v (omega (arith, p.long)) small-v p.bytes) in
      caught (changed j w (changed i v block)) twice (λ right. other (same (record { long = twice; bytes = bytes; right = right })))
    where
      same : Passes (changed j w (changed i v block)) → changed j w (changed i v block) ≡ block
      same q = elim (dec_lt i j) [
        | yes before ↦ ordered_same block p i j v w before small-v small-w q
        | no after ↦ elim (dec_lt j i) [
          | yes before ↦ let turned = set_comm block i j v w (λ e. omega arith) in turned ∙ ordered_same block p j i w v before small-w small-v (subst Passes turned q)
          | no not ↦
              let e : j ≡ i = omega arith in
              let one : changed j w (changed i v block) ≡ changed i w block = ap (λ j. set (set block i v) j w) e ∙ set-set block i v w in
              one ∙ one_same block p i w small-w (subst Passes one q)
        ]
      ]

  -- One byte changed.
  pub one_byte_changed : (i v : ℕ) → i < block_bytes → v < 256 → v ≢ byte_at block i → Caught (changed i v block)
  one_byte_changed i v h small other =
      let there : byte_at (changed i v (changed i v block)) i ≡ v = get_or-set_same (changed i v block) i v 0 (omega (arith, length-set block i v, p.long)) in
      subst Caught (set-set block i v v) (two_bytes_changed i i v v h h small small (λ same. other (sym there ∙ ap (λ s. byte_at s i) same)))

  -- Two unequal bytes exchanged.
  pub two_bytes_exchanged : (i j : ℕ) → i < block_bytes → j < block_bytes → byte_at block i ≢ byte_at block j → Caught (exchanged i j block)
  two_bytes_exchanged i j h k unequal =
      let once : byte_at (changed i (byte_at block j) block) i ≡ byte_at block j = get_or-set_same block i (byte_at block j) 0 (omega (arith, p.long)) in
      let there : byte_at (exchanged i j block) i ≡ byte_at block j = get_or-set_other (changed i (byte_at block j) block) j i (byte_at block i) 0 (λ e. unequal (ap (byte_at block) e)) ∙ once in
      two_bytes_changed i j (byte_at block j) (byte_at block i) h k (p.bytes j) (p.bytes i) (λ same. unequal (ap (λ s. byte_at s i) (sym same) ∙ there))
