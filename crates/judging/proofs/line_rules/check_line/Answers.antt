use mathlib.Core.Path.{sym, ◌∙◌}
use Rattle.refusals.specs.declared.Refusal.TheVariants as refusals
use Rattle.refusals.proofs.Passing.{passes}
use Rattle.judging.proofs.Checks.{line_sized}
use Rattle.judging.proofs.Order.{broken_here, kept_here}
use Rattle.judging.proofs.line_rules.check_line.Goals as goal

pub returns-in_err-unless : goal.returns-in_err-unless
returns-in_err-unless c = broken_here refusals.Sizes _ c.line_sized.ensures _ _ c.from_residual.ensures.1 c.in_err-unless.ensures

pub check_sized-requires : goal.check_sized-requires
check_sized-requires c = line_sized _ _ (sym c.line_sized.ensures ∙ passes _ _ c.in_ok-unless.ensures)

pub returns : goal.returns
returns c = kept_here refusals.Sizes _ c.line_sized.ensures c.in_ok-unless.ensures _ c.check_sized.ensures
