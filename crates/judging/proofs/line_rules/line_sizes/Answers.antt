use native.Mathlib.Omega.{arith}
use Rattle.rules.specs.Count.{◌and◌}
use Rattle.judging.proofs.line_rules.line_sizes.Goals as goal

pub returns-then-is_within-5 : goal.returns-then-is_within-5
unfolding ◌and◌
returns-then-is_within-5 c = grind arith

pub returns-else-is_within-5 : goal.returns-else-is_within-5
unfolding ◌and◌
returns-else-is_within-5 c = grind arith
