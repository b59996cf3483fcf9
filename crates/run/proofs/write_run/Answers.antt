use Rattle.std.proofs.Common.{◌≡◌, arith}
use Rattle.judging.proofs.Admitting.{admitted}
use Rattle.rules.specs.Calls.{written}
use Rattle.rules.specs.Run.{run_row}
use Rattle.rules.proofs.Run.{length_run}
use Rattle.rules.proofs.Step.{loss_most}
use Rattle.rules.proofs.Written.{written_long, written_entries}
use Rattle.values.specs.Values.{as_line, as_train}
use Rattle.run.proofs.Compose.{loss_narrow, forward-most, sweeps_run}
use Rattle.run.proofs.write_run.Goals as goal
use Rattle.run.proofs.write_run.Goals.{After-write_backward}

pub write_backward-requires : goal.write_backward-requires
write_backward-requires c =
    let loss = loss_narrow _ _ (admitted c.args.on) c.braking_loss.ensures c.narrow-loss.ensures in
    record {
      le_points = (
        omega (arith, (admitted c.args.on).rule3_line.points-least, c.from.ensures),
        omega (arith, c.requires.points_in_bounds.0, c.from.ensures),
        omega (arith, loss_most _ _ (admitted c.args.on), loss),
      );
      by_index = λ k h. forward-most _ _ c.args.speeds.now c.requires.by_index (admitted c.args.on) k (omega (arith, c.from.ensures));
    }

module _ (c : After-write_backward) where
  run_made : c.write_backward.new.speeds ≡ written c.args.speeds.now 0 (run_row (as_line c.args.on.line) (as_train c.args.on.train))
  run_made =
      sweeps_run (as_line c.args.on.line) (as_train c.args.on.train) c.args.speeds.now c.requires.by_index
      (rw (c.from.ensures, loss_narrow _ _ (admitted c.args.on) c.braking_loss.ensures c.narrow-loss.ensures) at c.write_backward.ensures)

pub write_times-requires : goal.write_times-requires
write_times-requires c =
    let made = run_made (goal.at.write_times-requires c).After-write_backward in
    let n = length_run (as_line c.args.on.line) (as_train c.args.on.train) in
    let long = written_long c.args.speeds.now _ made (rw n c.requires.points_in_bounds.0) in
    record {
      points_in_bounds = (omega (arith, long, c.requires.points_in_bounds.0), c.requires.points_in_bounds.1);
      by_index = λ k h. written_entries c.args.speeds.now _ made k (rw n h);
    }

pub returns : goal.returns
returns c = (run_made (goal.at.returns c).After-write_backward, c.write_times.ensures)
