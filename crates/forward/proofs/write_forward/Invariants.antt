use Prim.Native.Nat.{◌-◌, ◌≤◌}
use Rattle.rules.specs.Line.{Line}
use Rattle.rules.specs.Run.{forward}
use Rattle.rules.proofs.Fill.{Filled}
use Rattle.values.specs.Values.{as_train}
use Rattle.stops.specs.Stops.{Behind}
use Rattle.caps.proofs.Walk.{Nearing}
use Rattle.forward.specs.Stretch.{Before}
use Rattle.forward.proofs.Sweeping.{OnCourse}
use Rattle.forward.proofs.write_forward.Given as goal

abbrev pub invariant-loop-i : goal.invariant-loop-i
invariant-loop-i l =
    (l.i ≤ l.end)
    × Behind l.stops l.swept.stop l.i
    × (l.swept.drawn.w.0 ≤ 900000000)
    × ((line : Line) → OnCourse line (as_train l.fn.on.train) l.course l.bands l.end →
    Nearing line (as_train l.fn.on.train) l.i l.covered
    × Before line (as_train l.fn.on.train) l.i l.swept.drawn.w.0
    × Filled (forward line (as_train l.fn.on.train)) 0 l.i l.initial.speeds l.speeds)

abbrev pub decreases-loop-i : goal.decreases-loop-i
decreases-loop-i l =
    l.end - l.i
