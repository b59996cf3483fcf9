use Rattle.std.proofs.Common.{sym}
use Rattle.hold.proofs.Answers.{held-refused, held-accepted, accepted_on, run_done}
use Rattle.hold.proofs.hold_train.Goals as goal

pub returns-in_err-run_train-clause-answer : goal.returns-in_err-run_train-clause-answer
returns-in_err-run_train-clause-answer c = held-refused _ _ _ _ _ _ c.from_residual.ensures.1 c.in_err-run_train.ensures.refusal

pub invariant_of-hold_record : goal.invariant_of-hold_record
invariant_of-hold_record c = record { keeps = (accepted_on _ _ _ _ (sym c.in_ok-run_train.ensures.refusal)).0 }

pub hold_record-requires : goal.hold_record-requires
hold_record-requires c =
    let run = c.in_ok-run_train.ensures in
    let done = run_done _ _ c.args.speeds.now c.args.times.now (sym run.refusal) run.speeds run.times in
    record {
      points_in_bounds = done.0;
      by_index = done.1;
      by_index_2 = done.2;
    }

pub returns-clause-answer : goal.returns-clause-answer
returns-clause-answer c = held-accepted _ _ _ _ (sym c.in_ok-run_train.ensures.refusal) c.hold_record.ensures
