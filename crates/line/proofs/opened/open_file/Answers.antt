use mathlib.Core.Path.{sym, ◌∙◌}
use Rattle.rules.proofs.Accepted.{file_cut}
use Rattle.refusals.proofs.Passing.{passed_on, numbered}
use Rattle.line.proofs.opened.open_file.Goals as goal

pub returns-in_err-check_length-clause-refusal : goal.returns-in_err-check_length-clause-refusal
returns-in_err-check_length-clause-refusal c =
    let cut = c.in_err-check_length.ensures in
    passed_on _ _ c.from_residual.ensures.1 ∙ cut ∙ sym (file_cut _ (λ z. numbered _ (cut ∙ z)))
