use native.Mathlib.Nat.{div-zero}
use native.Mathlib.Omega.{arith}
use mathlib.Core.Path.{sym, ap₂, ◌∙◌}
use Rattle.chains.proofs.Rounding.{ceil_div_is}
use Rattle.rules.specs.Run.{train_cells}
use Rattle.rules.specs.Count.{ceil_div}
use Rattle.values.proofs.motion.train_cells.Goals as goal

pub returns-then-step-eq0 : goal.returns-then-step-eq0
unfolding train_cells ceil_div
returns-then-step-eq0 c = rw (sym c.from-step.ensures ∙ c.if-step-eq0.true, div-zero)

pub returns : goal.returns
unfolding train_cells
returns c = c.div_ceil.ensures ∙ (ceil_div_is _ _ (omega arith) ∙ ap₂ ceil_div c.from.ensures c.from-step.ensures)
