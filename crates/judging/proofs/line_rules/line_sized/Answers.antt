use Rattle.judging.proofs.Rules.{line_numbers_lem}
use Rattle.judging.proofs.line_rules.line_sized.Goals as goal

pub returns : goal.returns
returns c = rw (line_numbers_lem, ← c.from.ensures, ← c.from-2.ensures) c.line_sizes.ensures
