use Rattle.std.proofs.Common.{◌*◌, sym, ap, ◌∙◌}
use Rattle.rules.specs.Count.{ceil_div}
use Rattle.rules.specs.Time.{cell_time}
use Rattle.run.proofs.times.Cells.time_between.Goals as goal

pub returns-then-sum-self-clause-time : goal.returns-then-sum-self-clause-time
unfolding cell_time
returns-then-sum-self-clause-time c = c.args.self.now.timed ∙ ap (ceil_div (720000000 * c.args.self.now.step)) (sym c.if-sum-self.true)

pub returns-clause-time : goal.returns-clause-time
unfolding cell_time
returns-clause-time c = c.cell_time-time.ensures
