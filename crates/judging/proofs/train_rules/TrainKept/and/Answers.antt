use native.Mathlib.Omega.{arith}
use Rattle.rules.specs.Count.{◌and◌}
use Rattle.judging.proofs.train_rules.TrainKept.and.Goals as goal

pub returns-then-self-4 : goal.returns-then-self-4
unfolding ◌and◌
returns-then-self-4 c = grind arith

pub returns-else-self-4 : goal.returns-else-self-4
unfolding ◌and◌
returns-else-self-4 c = grind arith
