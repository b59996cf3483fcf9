use Rattle.hold.proofs.Nearing.{Nearing}
use Rattle.hold.proofs.approach.approach_point.Given as goal

abbrev pub invariant-loop-i : goal.invariant-loop-i
invariant-loop-i l = Nearing l.speeds l.loss l.from l.b l.i
