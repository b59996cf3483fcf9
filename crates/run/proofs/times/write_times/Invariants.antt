use Rattle.std.proofs.Common.{◌≡◌}
use Rattle.values.specs.Values.{as_line, as_train}
use Rattle.stops.specs.Stops.{point_of, dwell_here}
use Rattle.run.proofs.Arriving.{Arrived}
use Rattle.run.proofs.times.write_times.Given as goal

abbrev pub invariant-loop-i : goal.invariant-loop-i
invariant-loop-i l =
    Arrived (as_line l.fn.on.line) (as_train l.fn.on.train) l.initial.times l.i l.stop l.time l.here.squared.0 l.times × (l.cells.step ≡ l.fn.on.line.step)
    × (l.stop_point ≡ point_of l.stop l.last)
    × (l.stop_dwell ≡ dwell_here (as_train l.fn.on.train).dwells l.stop l.stop_point)
