use mathlib.Core.Path.{refl, ◌∙◌}
use Rattle.rules.proofs.Accepted.{announced_there}
use Rattle.refusals.proofs.Passing.{passed_on, refuses, passes, numbered}
use Rattle.line.proofs.Judging.{line_here, by_sizes, by_line, by_trains}
use Rattle.line.proofs.judge.judge.Goals as goal

pub trains_kept-kept-requires : goal.trains_kept-kept-requires
trains_kept-kept-requires c = (announced_there _ c.requires.0, c.requires.1)

pub returns-in_err-unless : goal.returns-in_err-unless
returns-in_err-unless c =
    let (broken, own) = refuses _ _ _ c.in_err-unless.ensures in
    passed_on _ _ c.from_residual.ensures.1 ∙ own ∙ by_sizes _ c.requires.0 c.trains_kept-kept.ensures broken

pub returns-in_err-check_line : goal.returns-in_err-check_line
returns-in_err-check_line c =
    let kept = passes _ _ c.in_ok-unless.ensures in
    let line = line_here _ c.requires.1 c.in_err-check_line.ensures in
    passed_on _ _ c.from_residual-in_err-check_line.ensures.1 ∙ by_line _ c.requires.0 c.trains_kept-kept.ensures kept line (numbered _)

pub returns : goal.returns
returns c =
    let kept = passes _ _ c.in_ok-unless.ensures in
    let line = line_here _ c.requires.1 c.in_ok-check_line.ensures in
    by_trains _ c.requires.0 c.trains_kept-kept.ensures kept line refl c.check.ensures
