use Rattle.std.proofs.Common.{◌∙◌, ap, sym, arith, length-take-le}
use Rattle.refusals.proofs.Passing.{accepted}
use Rattle.rules.specs.Admitted.{Admitted}
use Rattle.rules.specs.Calls.{written}
use Rattle.rules.proofs.Accepted.{on_admitted}
use Rattle.values.specs.Values.{as_line, as_train}
use Rattle.values.proofs.Parallel.{decoded_parallel}
use Rattle.diagram.proofs.Rows.{long, ran, times_small, points_run}
use Rattle.diagram.proofs.write_diagram.Goals as goal

pub unwrap-requires : goal.unwrap-requires
unwrap-requires c =
    let admitted : Admitted (as_line c.args.line) (as_train c.args.train) = on_admitted _ _ c.requires.0 (decoded_parallel c.args.line c.args.train) in
    accepted _ (c.run_train.ensures.refusal ∙ ran _ _ admitted c.requires.0)

pub write_points-requires : goal.write_points-requires
write_points-requires c =
    let admitted : Admitted (as_line c.args.line) (as_train c.args.train) = on_admitted _ _ c.requires.0 (decoded_parallel c.args.line c.args.train) in
    let run = c.run_train.ensures in
    let rows = long _ _ admitted c.requires.0 c.from-points.ensures run.speeds run.times in
    let speeds = length-take-le _ _ rows.0 in
    let times = length-take-le _ _ rows.1 in
    record {
      points_bound = (omega (arith, speeds, c.from-points.ensures, admitted.rule3_line.points-most), times ∙ sym speeds, omega (arith, c.from.ensures));
      small = λ i h. times_small _ _ admitted c.requires.0 c.from-points.ensures run.speeds run.times i (rw speeds at h);
      points_in_bounds = rw speeds (omega (arith, c.from-points.ensures, c.requires.1));
    }

pub returns : goal.returns
returns c =
    let admitted : Admitted (as_line c.args.line) (as_train c.args.train) = on_admitted _ _ c.requires.0 (decoded_parallel c.args.line c.args.train) in
    let run = c.run_train.ensures in
    let rows = long _ _ admitted c.requires.0 c.from-points.ensures run.speeds run.times in
    let drawn = points_run _ _ admitted c.requires.0 c.from-points.ensures run.speeds run.times c.from.ensures in
    c.write_points.ensures ∙ ap (written c.args.bytes.now 0) (rw (length-take-le _ _ rows.0) drawn)
