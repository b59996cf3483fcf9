-- `fresh`.
use mathlib.Core.Path.{refl}
use Rattle.rules.specs.Sheet as sheets
use Rattle.sheet.proofs.fresh.Goals as goal

pub returns : goal.returns
unfolding sheets.fresh
returns c = refl
