use Rattle.std.proofs.Common.{◌∙◌}
use Rattle.vellumrill.proofs.Told.{rows_are}
use Rattle.vellumrill.proofs.vr_rows.Goals as goal

pub returns-clause-answer : goal.returns-clause-answer
returns-clause-answer c = c.into.ensures ∙ rows_are _ _ _ c.rows.ensures.refusal c.rows.ensures.trains
