use Rattle.std.proofs.Common.{◌∙◌}
use Rattle.vellumrill.proofs.Told.{write_is}
use Rattle.vellumrill.proofs.vr_diagram.Goals as goal

pub returns-clause-answer : goal.returns-clause-answer
returns-clause-answer c = c.into.ensures ∙ write_is _ _ _ c.diagram.ensures.refusal c.diagram.ensures.count
