-- `payload` is what `fill` makes of as many zero bytes.
use Prim.Native.Nat.{ℕ, ◌*◌, ◌-◌}
use mathlib.Core.Path.{◌≡◌, ap, ◌∙◌}
use mathlib.Core.List.{List, ◌++◌}
use native.Mathlib.Omega.{arith}
use lib.ListN.{length, take, drop, replicate}
use lib.Seq.{length-take-le}
use Rattle.paper.specs.Bits.{bits, packed}
use Rattle.paper.specs.Jobs.{room_bytes}
use Rattle.writer.proofs.Bytes.{zeros_left}
use Rattle.writer.proofs.payload.Goals as goal

pub returns : goal.returns
returns c =
    let a = c.args in
    let zeros : List ℕ = replicate room_bytes 0 in
    let all : a.size - 0 ≡ a.size = omega arith in
    let place : length (take (a.size - 0) zeros) ≡ a.size = ap (λ n. length (take n zeros)) all ∙ length-take-le a.size zeros (omega arith) in
    let filled = c.fill.ensures ∙ ap (λ (n : ℕ). packed n (drop (8 * (a.size * a.i)) (take a.b (bits a.bytes.now)))) place in
    (λ t. filled t ++ (ap (λ (n : ℕ). drop n zeros) all ∙ zeros_left a.size room_bytes) t)
