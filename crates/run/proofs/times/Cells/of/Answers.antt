use Rattle.std.proofs.Common.{arith}
use Rattle.rules.specs.Count.{ceil_div}
use Rattle.run.proofs.times.Cells.of.Goals as goal

pub invariant_of-result : goal.invariant_of-result
unfolding ceil_div
invariant_of-result c = record { timed = omega (arith, c.from.ensures) }
