use native.Mathlib.Omega.{arith}
use Rattle.rules.specs.Count.{◌and◌}
use Rattle.judging.proofs.train_rules.train_sizes.Goals as goal

pub returns-then-is_within-3 : goal.returns-then-is_within-3
unfolding ◌and◌
returns-then-is_within-3 c = grind arith

pub returns-else-is_within-3 : goal.returns-else-is_within-3
unfolding ◌and◌
returns-else-is_within-3 c = grind arith
