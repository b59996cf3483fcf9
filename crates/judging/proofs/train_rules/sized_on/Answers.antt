use mathlib.Core.Path.{sym, ◌∙◌}
use Rattle.rules.specs.Count.{◌and◌}
use Rattle.judging.proofs.Rules.{train-numbers}
use Rattle.judging.proofs.train_rules.sized_on.Goals as goal

pub returns-then-line_sized : goal.returns-then-line_sized
unfolding ◌and◌
returns-then-line_sized c =
    rw (sym c.line_sized.ensures ∙ c.if-line_sized.true, train-numbers, ← c.from.ensures, ← c.from-then-line_sized.ensures) c.train_sizes.ensures

pub returns-else-line_sized : goal.returns-else-line_sized
unfolding ◌and◌
returns-else-line_sized c = rw (sym c.line_sized.ensures ∙ c.if-line_sized.false) c.if-line_sized.false
