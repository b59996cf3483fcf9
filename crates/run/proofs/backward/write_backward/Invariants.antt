use Rattle.rules.specs.Count.{entry}
use Rattle.rules.specs.Run.{backward_sweep}
use Rattle.rules.proofs.Fill.{Filled}
use Rattle.run.proofs.backward.write_backward.Given as goal

abbrev pub invariant-loop-i : goal.invariant-loop-i
invariant-loop-i l = Filled (backward_sweep (entry l.initial.speeds) l.loss l.points) l.i l.points l.initial.speeds l.speeds
