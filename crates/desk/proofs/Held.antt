-- The programs' arrays hold every record of a picture that is held: it has no more than 27 blocks, in any edition.
use mathlib.Core.Bool.{Bool, true, false}
use Prim.Native.Nat.{ℕ, ◌+◌, ◌≤◌}
use native.Mathlib.Omega.{arith}
use Rattle.paper.specs.Lists.{pick}
use Rattle.paper.specs.Sizes.{most_planes, most_bits}
use Rattle.paper.specs.Block.{unnamed, header_bytes, start_of}
use Rattle.paper.specs.Record.{blocks_of, blocks_for}
use Rattle.sizes.proofs.Ranges.{most_bits_grow}
use Rattle.square_pgm.specs.Sides.{most_held}

pub blocks_held : (e k n b : ℕ) → k ≤ most_held → n ≤ most_planes → b ≤ most_bits k n → blocks_for e b ≤ 27
unfolding start_of most_bits
blocks_held e k n b held planes bits = go (unnamed e) (omega (arith, most_bits_grow k n most_held most_planes held planes))
  where
    go : (one : Bool) → b ≤ most_bits most_held most_planes → blocks_of (pick one header_bytes (header_bytes + 4)) b ≤ 27
    go true few = omega arith
    go false few = omega arith
