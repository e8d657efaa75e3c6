-- What the coder's contracts cite: what the walk answers, and where its bits are put.
use Rattle.std.specs.Prelude.{◌≡◌, Bool, List}
use Rattle.bits.specs.Bits.{Sink, wrote}
use Rattle.bits.specs.declared.BitSink.{BitSink}

-- the bytes of a sink, and the place of its next bit
abbrev pub stands : BitSink → Sink
stands s = (s.bytes.now, s.place)

-- the walk c answers a, and its bits are put behind those at `entry`, up to its limit; limit and bytes lent stay the same
pub record Coded {A : Type 0} (c : A × List Bool) (entry : BitSink) (a : A) (exit : BitSink) : Type 0 where
  pub held : c.0 ≡ a
  pub put : stands exit ≡ wrote entry.limit c.1 (stands entry)
  pub limit : exit.limit ≡ entry.limit
  pub same : exit.bytes.ghost_name ≡ entry.bytes.ghost_name
