-- `open_sheet`. That an opened sheet meets the third demand is the law `opened_demand`.
use Rattle.std.proofs.Common.{◌∙◌, sym, ap}
use Rattle.rules.specs.Calls.{Opening, opened}
use Rattle.rules.specs.Demand.{ThirdDemand}
use Rattle.rules.proofs.Demand.{opened-fresh, opened-refused, opened_demand}
use Rattle.refusals.proofs.Passing.{refuses, passes}
use Rattle.sheet.proofs.Refused.{passed_as}
use Rattle.sheet.proofs.open_sheet.Goals as goal

pub returns-in_err-unless-clause-sheet : goal.returns-in_err-unless-clause-sheet
returns-in_err-unless-clause-sheet c =
    let (broken, own) = refuses _ _ _ c.in_err-unless.ensures in
    rw (passed_as _ _ c.from_residual.ensures.1, own, opened-refused c.args.blocks (sym c.count_kept.ensures ∙ broken))

pub returns-clause-sheet : goal.returns-clause-sheet
returns-clause-sheet c = rw (c.fresh.ensures, opened-fresh c.args.blocks (sym c.count_kept.ensures ∙ passes _ _ c.in_ok-unless.ensures))

pub returns-clause-demand : goal.returns-clause-demand
returns-clause-demand c =
    let blocks = c.args.blocks in
    let e = opened-fresh blocks (sym c.count_kept.ensures ∙ passes _ _ c.in_ok-unless.ensures) in
    let d : ThirdDemand blocks (opened blocks).sheet = opened_demand blocks (ap (λ (r : Opening). r.number) e) in
    rw c.fresh.ensures (rw e at d)
