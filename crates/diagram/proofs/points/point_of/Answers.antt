use Prim.Native.Nat.{◌^◌}
use mathlib.Core.Path.{refl}
use native.Mathlib.Omega.{arith}
use lib.Dec.{le→leb}
use lib.Ieee.{in_float, of_int}
use Rattle.rules.specs.Diagram.{double, record_of}
use Rattle.diagram.proofs.Doubles.{double-number}
use Rattle.diagram.proofs.points.point_of.Goals as goal

pub int_to_float-result : goal.int_to_float-result
unfolding in_float
int_to_float-result c = le→leb c.args.arrival (2 ^ 53) (omega (arith, c.requires))

pub returns : goal.returns
unfolding of_int double record_of
returns c =
    let p = c.from.ensures in
    let s = c.from-2.ensures in
    rw (p, s) (
      refl,
      record {
        position = double-number c.args.position (omega arith);
        speed = double-number c.args.speed (omega arith);
        arrival = double-number c.args.arrival c.requires;
      },
    )
