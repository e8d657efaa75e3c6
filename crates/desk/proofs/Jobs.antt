-- What is made at the front of longer buffers, and where one is too short.
use mathlib.Core.Path.{◌≡◌, refl}
use mathlib.Core.List.{List, ◌++◌}
use Prim.Native.Nat.{ℕ, ◌+◌, ◌-◌, ◌<◌, ◌≤◌}
use native.Mathlib.Omega.{arith}
use lib.IntN.{ℤ}
use lib.ListN.{length, take, drop}
use borrow.Author.Tests.{le-leb, lt-leb}
use Rattle.std.specs.Prelude.{Option, Some, None, Result, Ok, Err}
use Rattle.refusals.specs.declared.Refusal.{Refusal}
use Rattle.refusals.specs.Numbers.{number_of}
use Rattle.decoding.specs.declared.Settled.{Settled}
use Rattle.paper.specs.Block.{Origin}
use Rattle.desk.specs.declared.Unshown.{Unshown}
use Rattle.desk.specs.declared.Wanted.{Wanted}
use Rattle.desk.specs.Answers.{encoding_answer, settled_answer, rebuilding_answer}
use Rattle.desk.specs.Desk.{area_of, Encoding, encoding_of, encoding_in, halvings_of, Rebuilding, rebuilding_of, rebuilding_in}

-- what an answer is, where the buffers are longer
pub encoded_held : (r : Result ℕ Refusal) (numbers more : List ℤ) (bytes room : List ℕ) →
    let e = encoding_answer r numbers bytes room in
    record { refusal = e.refusal; blocks = e.blocks; numbers = e.numbers ++ more; bytes = e.bytes; room = e.room } ≡ encoding_answer r (numbers ++ more) bytes room
encoded_held (Ok blocks) numbers more bytes room = refl
encoded_held (Err r) numbers more bytes room = refl

settled_held : (refusal : ℕ) (s : Option Settled) (numbers numbers_more : List ℤ) (picture picture_more : List ℕ) (room room_more : List ℤ) →
    let q = settled_answer refusal s numbers picture room in
    record { refusal = q.refusal; unfinished = q.unfinished; read = q.read; place = q.place; numbers = q.numbers ++ numbers_more; picture = q.picture ++ picture_more; room = q.room ++ room_more } ≡ settled_answer refusal s (numbers ++ numbers_more) (picture ++ picture_more) (room ++ room_more)
settled_held refusal None numbers numbers_more picture picture_more room room_more = refl
settled_held refusal (Some s) numbers numbers_more picture picture_more room room_more = refl

pub rebuilt_held : (r : Result Settled Unshown) (numbers numbers_more : List ℤ) (picture picture_more : List ℕ) (room room_more : List ℤ) →
    let q = rebuilding_answer r numbers picture room in
    record { refusal = q.refusal; unfinished = q.unfinished; read = q.read; place = q.place; numbers = q.numbers ++ numbers_more; picture = q.picture ++ picture_more; room = q.room ++ room_more } ≡ rebuilding_answer r (numbers ++ numbers_more) (picture ++ picture_more) (room ++ room_more)
rebuilt_held (Ok s) numbers numbers_more picture picture_more room room_more = refl
rebuilt_held (Err u) numbers numbers_more picture picture_more room room_more = settled_held (number_of u.refusal) u.settled numbers numbers_more picture picture_more room room_more

module _ (k L : ℕ) (o : Origin) (input : List ℕ) (start : ℕ) (label : List ℕ) (limit : ℕ) (numbers : List ℤ) (bytes room : List ℕ) (area : ℕ) (a : area ≡ area_of k) where
  abbrev short : Encoding
  short = record { refusal = 3; blocks = 0; numbers = numbers; bytes = bytes; room = room }

  pub input_short : length input < start + area → encoding_in k L o input start label limit numbers bytes room ≡ short
  unfolding encoding_in
  input_short h = rw (← a, lt-leb (start + area) (length input) h)

  pub numbers_short : start + area ≤ length input → length numbers < area → encoding_in k L o input start label limit numbers bytes room ≡ short
  unfolding encoding_in
  numbers_short l h = rw (← a, le-leb (start + area) (length input) l, lt-leb area (length numbers) h)

  pub encoded_front : (e : Encoding) → start + area ≤ length input → area ≤ length numbers
      → encoding_of k L o (take (start + area - start) (drop start input)) label limit (take area numbers) bytes room ≡ e
      → encoding_in k L o input start label limit numbers bytes room ≡ record { refusal = e.refusal; blocks = e.blocks; numbers = e.numbers ++ drop area numbers; bytes = e.bytes; room = e.room }
  unfolding encoding_in
  encoded_front e l h f =
      let s : start + area - start ≡ area = omega arith in
      rw (← a, le-leb (start + area) (length input) l, le-leb area (length numbers) h, rw s at f)

module _ (wanted : Wanted) (k L n : ℕ) (bytes : List ℕ) (b : ℕ) (numbers : List ℤ) (picture : List ℕ) (room : List ℤ) (area shown : ℕ) (a : area ≡ area_of k) (s : shown ≡ area_of (k - halvings_of wanted)) where
  abbrev none : Rebuilding
  none = record { refusal = 3; unfinished = 0; read = 0; place = 0; numbers = numbers; picture = picture; room = room }

  pub no_numbers : length numbers < area → rebuilding_in wanted k L n bytes b numbers picture room ≡ none
  unfolding rebuilding_in
  no_numbers h = rw (← a, lt-leb area (length numbers) h)

  pub no_picture : area ≤ length numbers → length picture < shown → rebuilding_in wanted k L n bytes b numbers picture room ≡ none
  unfolding rebuilding_in
  no_picture l h = rw (← a, ← s, le-leb area (length numbers) l, lt-leb shown (length picture) h)

  pub no_working : area ≤ length numbers → shown ≤ length picture → length room < shown → rebuilding_in wanted k L n bytes b numbers picture room ≡ none
  unfolding rebuilding_in
  no_working l p h = rw (← a, ← s, le-leb area (length numbers) l, le-leb shown (length picture) p, lt-leb shown (length room) h)

  pub rebuilt_front : (r : Rebuilding) → area ≤ length numbers → shown ≤ length picture → shown ≤ length room
      → rebuilding_of wanted k L n bytes b (take area numbers) (take shown picture) (take shown room) ≡ r
      → rebuilding_in wanted k L n bytes b numbers picture room ≡ record { refusal = r.refusal; unfinished = r.unfinished; read = r.read; place = r.place; numbers = r.numbers ++ drop area numbers; picture = r.picture ++ drop shown picture; room = r.room ++ drop shown room }
  unfolding rebuilding_in
  rebuilt_front r l p q f = rw (← a, ← s, le-leb area (length numbers) l, le-leb shown (length picture) p, le-leb shown (length room) q, f)
