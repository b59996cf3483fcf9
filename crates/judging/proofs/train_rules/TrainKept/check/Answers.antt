use mathlib.Core.Path.{refl}
use Rattle.refusals.specs.declared.Refusal.TheVariants as refusals
use Rattle.judging.proofs.Order.{broken_here, kept_here, tested_last}
use Rattle.judging.proofs.train_rules.TrainKept.check.Goals as goal

pub returns-in_err-unless : goal.returns-in_err-unless
returns-in_err-unless c = broken_here refusals.Bands _ refl _ _ c.from_residual.ensures.1 c.in_err-unless.ensures

pub returns-in_err-unless-2 : goal.returns-in_err-unless-2
returns-in_err-unless-2 c =
    kept_here refusals.Bands _ refl c.in_ok-unless.ensures _
    (broken_here refusals.Stops _ refl _ _ c.from_residual-in_err-unless-2.ensures.1 c.in_err-unless-2.ensures)

pub returns : goal.returns
returns c =
    kept_here refusals.Bands _ refl c.in_ok-unless.ensures _
    (kept_here refusals.Stops _ refl c.in_ok-unless-2.ensures _ (tested_last refusals.LastBlock refl _ c.unless-3.ensures))
