use mathlib.Core.Path.{sym, ◌∙◌}
use native.Mathlib.Omega.{arith}
use Rattle.forward.proofs.Traction.{last_of_row}
use Rattle.forward.proofs.bands.last_top.Goals as goal

pub returns : goal.returns
returns c = c.from.ensures ∙ sym (last_of_row _ _ (omega arith))
