use Rattle.std.proofs.Common.{◌∙◌}
use Rattle.vellumrill.proofs.Told.{sizes_are}
use Rattle.vellumrill.proofs.vr_sizes.Goals as goal

pub returns : goal.returns
returns c = c.into.ensures ∙ sizes_are _ _ c.open_file.ensures.refusal c.open_file.ensures.opened
