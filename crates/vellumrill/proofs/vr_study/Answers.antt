use Rattle.std.proofs.Common.{◌∙◌}
use Rattle.vellumrill.proofs.Told.{write_is}
use Rattle.vellumrill.proofs.vr_study.Goals as goal

pub returns-clause-answer : goal.returns-clause-answer
returns-clause-answer c = c.into.ensures ∙ write_is _ _ _ c.study.ensures.refusal c.study.ensures.count
