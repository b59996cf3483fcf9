use Rattle.std.proofs.Common.{sym, ◌∙◌, arith}
use Rattle.hold.proofs.Nearing.{near_first, near_on, near_there, near_end}
use Rattle.hold.proofs.approach.approach_point.Goals as goal

pub loop-i-init : goal.loop-i-init
loop-i-init c = near_first c.requires.loss_bound.3 c.requires.from_bound

pub brakes_within-requires : goal.brakes_within-requires
brakes_within-requires c = (c.requires.loss_bound.0, omega (arith, c.requires.loss_bound.1))

pub loop-i-preserved : goal.loop-i-preserved
loop-i-preserved c = near_on c.loop-i.invariant (omega arith) (sym c.brakes_within.ensures ∙ c.if-not-brakes_within.false)

pub returns-then-not-brakes_within : goal.returns-then-not-brakes_within
returns-then-not-brakes_within c =
    near_there c.loop-i.invariant c.requires.by_index (omega arith) (sym c.brakes_within.ensures ∙ c.if-not-brakes_within.true)

pub returns : goal.returns
returns c = near_end c.loop-i.invariant (omega arith)
