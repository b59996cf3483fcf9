use Rattle.std.proofs.Common.{◌≡◌, ◌≤◌, sym, ◌∙◌, arith, length, min}
use Rattle.refusals.proofs.Passing.{passed_on, numbered}
use Rattle.rules.specs.Admitted.{Admitted}
use Rattle.rules.specs.Calls.{written}
use Rattle.rules.specs.Count.{row}
use Rattle.rules.specs.Refusal.{refusal, rules_on}
use Rattle.rules.specs.Run.{forward}
use Rattle.rules.proofs.Accepted.{on_admitted}
use Rattle.rules.proofs.Count.{length-row}
use Rattle.rules.proofs.Written.{written_long}
use Rattle.values.specs.Values.{as_line, as_train}
use Rattle.values.proofs.Parallel.{decoded_parallel}
use Rattle.forward.proofs.Answers.{not_swept, whole_line}
use Rattle.run.proofs.Answers.{refused, too_short, run_written, first-points}
use Rattle.run.proofs.Compose.{forward_entries, run_over}
use Rattle.run.proofs.run_train.Goals as goal
use Rattle.run.proofs.run_train.Goals.{In_ok-sweep_to}

pub returns-in_err-check_on : goal.returns-in_err-check_on
returns-in_err-check_on c =
    let out = passed_on _ _ c.from_residual.ensures.1 in
    let answered = refused _ _ c.args.speeds.now c.args.times.now (out ∙ c.in_err-check_on.ensures) (λ z. numbered _ (sym out ∙ z)) in
    record {
      refusal = answered.number;
      speeds = answered.speeds_left;
      times = answered.times_left;
      fastest = λ z. absurd (numbered _ (sym out ∙ z));
    }

pub returns-then-min-from : goal.returns-then-min-from
returns-then-min-from c =
    let answered = too_short _ _ c.args.speeds.now c.args.times.now (sym c.in_ok-check_on.ensures) (omega arith) in
    record {
      refusal = answered.number;
      speeds = answered.speeds_left;
      times = answered.times_left;
      fastest = λ z. absurd (omega arith);
    }

pub returns-in_err-sweep_to : goal.returns-in_err-sweep_to
returns-in_err-sweep_to c =
    let out = passed_on _ _ c.from_residual-in_err-sweep_to.ensures.1 in
    let swept = c.in_err-sweep_to.ensures in
    let answered = refused _ _ c.args.speeds.now c.args.times.now (out ∙ swept.number) (λ z. numbered _ (sym out ∙ z)) in
    let left = swept.speeds ∙ sym (not_swept _ _ c.args.line.points c.args.speeds.now (λ z. numbered _ (swept.number ∙ z))) in
    record {
      refusal = answered.number;
      speeds = left ∙ answered.speeds_left;
      times = answered.times_left;
      fastest = λ z. absurd (numbered _ (sym out ∙ z));
    }

-- the whole line is swept
module _ (c : In_ok-sweep_to) where
  kept : refusal (rules_on (as_line c.args.line) (as_train c.args.train)) ≡ 0
  kept = sym c.in_ok-sweep_to.ensures.number

  room : c.args.line.points ≤ min (length c.args.speeds.now) (length c.args.times.now)
  room = omega (arith, c.if-min-from.false, c.from.ensures, c.min.ensures)

  admitted : Admitted (as_line c.args.line) (as_train c.args.train)
  admitted = on_admitted _ _ kept (decoded_parallel c.args.line c.args.train)

  forward_row : c.sweep_to.new.speeds ≡ written c.args.speeds.now 0 (row (forward (as_line c.args.line) (as_train c.args.train)) c.args.line.points)
  forward_row = whole_line (as_line c.args.line) (as_train c.args.train) c.args.speeds.now kept (omega (arith, room)) c.in_ok-sweep_to.ensures.speeds

pub invariant_of-write_run : goal.invariant_of-write_run
invariant_of-write_run c = record { keeps = kept (goal.at.invariant_of-write_run c).In_ok-sweep_to }

pub write_run-requires : goal.write_run-requires
write_run-requires c =
    let swept = (goal.at.write_run-requires c).In_ok-sweep_to in
    let long = written_long c.args.speeds.now _ (forward_row swept) (rw length-row (omega (arith, room swept))) in
    record {
      points_in_bounds = (omega (arith, long, room swept), omega (arith, room swept));
      by_index = forward_entries _ _ c.args.speeds.now (forward_row swept);
    }

pub returns : goal.returns
returns c =
    let swept = (goal.at.returns c).In_ok-sweep_to in
    let run = c.write_run.ensures in
    let speeds = run_over _ _ c.args.speeds.now (forward_row swept) run.0 in
    let answered = run_written _ _ c.args.speeds.now c.args.times.now (kept swept) (room swept) speeds run.1 in
    record {
      refusal = answered.number;
      speeds = answered.speeds_left;
      times = answered.times_left;
      fastest = λ y. first-points _ _ (admitted swept) c.args.speeds.now c.args.times.now speeds run.1;
    }
