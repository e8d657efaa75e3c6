-- The first set and the rest are parts of the numbers.
use Prim.Native.Nat.{suc}
use native.Mathlib.Omega.{arith}
use Rattle.list_laws.specs.Parts.{first_long, rest_long}
use Rattle.walk_laws.specs.Place.{moves_set}
use Rattle.set_decoder.proofs.Run.{reached}
use Rattle.shapes.proofs.Cuts.{first_fits, square_set, square_rest}
use Rattle.plane_decoder.proofs.Plane.{first_room, rest_room, plane_read}
use Rattle.plane_decoder.proofs.read_plane.Goals as goal

pub slice_bounds-read_set-end : goal.slice_bounds-read_set-end
slice_bounds-read_set-end c = first_fits c.requires.square

pub read_set-requires : goal.read_set-requires
read_set-requires c =
    let xs = c.args.numbers.now in
    let q = c.args.first in
    let n = first_fits c.requires.square in
    record { room = first_room (suc c.args.plane) q xs c.requires.room; fits = omega (arith, n, first_long q xs n); set = square_set c.requires.square (first_long q xs n) }

pub read_rest-requires : goal.read_rest-requires
read_rest-requires c =
    let xs = c.args.numbers.now in
    let q = c.args.first in
    let n = first_fits c.requires.square in
    let z1 = c.read_set.new.numbers in
    let k1 = c.read_set.auto.numbers in
    let A = square_set c.requires.square (first_long q xs n) in
    let r = reached (moves_set c.args.plane A.d _ A.is) (c.read_set.ensures A) in
    record {
      room = rest_room (suc c.args.plane) q xs c.requires.room n z1 k1;
      fits = omega (arith, n, first_long q xs n, rest_long q xs n z1 k1);
      rest = square_rest c.requires.square (rest_long q xs n z1 k1);
    }

pub returns : goal.returns
returns c = plane_read _ c.args.numbers.now c.read_set.new.numbers c.read_set.auto.numbers c.read_rest.new.numbers c.read_set.ensures c.read_rest.ensures
