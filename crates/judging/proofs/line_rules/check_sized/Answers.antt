use Rattle.refusals.specs.declared.Refusal.TheVariants as refusals
use Rattle.judging.proofs.Order.{broken_here, kept_here, tested_last}
use Rattle.judging.proofs.line_rules.check_sized.Goals as goal

pub returns-in_err-unless : goal.returns-in_err-unless
returns-in_err-unless c = broken_here refusals.LimitPoints _ c.limit_points_kept.ensures _ _ c.from_residual.ensures.1 c.in_err-unless.ensures

pub returns-in_err-unless-2 : goal.returns-in_err-unless-2
returns-in_err-unless-2 c =
    kept_here refusals.LimitPoints _ c.limit_points_kept.ensures c.in_ok-unless.ensures _
    (broken_here refusals.Limits _ c.limits_kept.ensures _ _ c.from_residual-in_err-unless-2.ensures.1 c.in_err-unless-2.ensures)

pub returns-in_err-unless-3 : goal.returns-in_err-unless-3
returns-in_err-unless-3 c =
    kept_here refusals.LimitPoints _ c.limit_points_kept.ensures c.in_ok-unless.ensures _
    (kept_here refusals.Limits _ c.limits_kept.ensures c.in_ok-unless-2.ensures _
    (broken_here refusals.Blocks _ c.blocks_kept.ensures _ _ c.from_residual-in_err-unless-3.ensures.1 c.in_err-unless-3.ensures))

pub returns : goal.returns
returns c =
    kept_here refusals.LimitPoints _ c.limit_points_kept.ensures c.in_ok-unless.ensures _
    (kept_here refusals.Limits _ c.limits_kept.ensures c.in_ok-unless-2.ensures _
    (kept_here refusals.Blocks _ c.blocks_kept.ensures c.in_ok-unless-3.ensures _
    (tested_last refusals.Balises c.balises_kept.ensures _ c.unless-4.ensures)))
