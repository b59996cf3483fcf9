-- `percentage`.
use mathlib.Core.Path.{refl}
use Rattle.rules.specs.Period as periods
use Rattle.sheet.proofs.pattern.percentage.Goals as goal

pub returns : goal.returns
unfolding periods.percentage
returns c = refl
