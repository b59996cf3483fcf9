use Prim.Native.Nat.{◌≤◌}
use mathlib.Core.Path.{◌≡◌}
use lib.ListN.{length}
use Rattle.stops.specs.Stops.{Behind, point_of}
use Rattle.forward.specs.Stretch.{SweptTo}
use Rattle.forward.proofs.stretch.write_stretch.Given as goal

abbrev pub invariant-loop-i : goal.invariant-loop-i
invariant-loop-i l =
    (length l.speeds ≡ length l.initial.speeds)
    × Behind l.stops l.stop l.i
    × (l.drawn.w.0 ≤ 900000000)
    × (l.stop_point ≡ point_of l.stop l.end)
    × SweptTo l.bands l.stops l.lowest l.from l.i l.end l.initial.drawn.w.0 l.drawn.w.0 l.initial.speeds l.speeds
