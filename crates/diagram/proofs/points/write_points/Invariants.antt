use Rattle.std.proofs.Common.{◌≤◌, length}
use Rattle.diagram.proofs.Drawing.{Drawn}
use Rattle.diagram.proofs.points.write_points.Given as goal

abbrev pub invariant-loop-speed : goal.invariant-loop-speed
invariant-loop-speed l =
    Drawn (length l.speeds) l.step l.speeds l.times l.initial.bytes (length l.yielded) l.position l.at l.bytes × (l.here.speed.0 ≤ 65535)
