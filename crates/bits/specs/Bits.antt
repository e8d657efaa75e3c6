-- What the contracts of this crate cite: one bit put into packed bytes, and the next of the first b bits of bytes.
use Rattle.std.specs.Prelude.{Bool, false, List, [], ◌∷◌, ℕ, zero, suc, ◌+◌, ◌*◌, ◌-◌, ◌/◌, ◌%◌, ◌^◌, ltb, take, drop, get_or}
use Rattle.std.proofs.Math.ListN as ListN
use Rattle.paper.specs.Lists.{pick}
use Rattle.paper.specs.Walk.{Tape, worth}
use Rattle.paper.specs.Bits.{bits}
use Rattle.bits.specs.declared.Answer.{Answer}

-- ---- bits put
-- a byte's first k bits, then zeros; of no bits nothing is kept, whatever the byte held
abbrev pub kept : ℕ → ℕ → ℕ
kept zero v = 0
kept (suc k) v = v / 2 ^ (7 - k) * 2 ^ (7 - k)

-- a byte's first k bits, then the bit b, then zeros
unfoldable pub with_bit : ℕ → Bool → ℕ → ℕ
with_bit k b v = kept k v + worth b (7 - k)

-- bytes, and the place of the next bit
abbrev pub Sink : Type 0
Sink = List ℕ × ℕ

-- one bit put at its place; nothing at the limit
unfoldable pub put1 : ℕ → Bool → Sink → Sink
put1 limit b s = pick (ltb s.1 limit) (ListN.set s.0 (s.1 / 8) (with_bit (s.1 % 8) b (get_or s.0 (s.1 / 8) 0)), s.1 + 1) s

-- many bits, one behind the other
unfoldable pub wrote : ℕ → List Bool → Sink → Sink
wrote limit [] s = s
wrote limit (b ∷ l) s = wrote limit l (put1 limit b s)

-- ---- bits read
-- the first b bits of bytes, from bit `at` on, which is b + 1 once a bit was missed; the plane is settled up to `place`
unfoldable pub tape_of : List ℕ → ℕ → ℕ → ℕ → Tape
tape_of src b at place = record { left = drop at (take b (bits src)); missed = ltb b at; place = place }

-- the next of the first b bits and where the one behind it is; a bit that is missed is answered as 0, and that is b + 1
unfoldable pub next_at : List ℕ → ℕ → ℕ → Answer
next_at src b at = pick (ltb at b) (record { one = get_or (bits src) at false; at = at + 1 }) (record { one = false; at = b + 1 })
