use Rattle.std.proofs.Common.{rules, ◌≡◌, sym, refl, ◌∙◌}
use Rattle.std.specs.Prelude.{Ok}
use Rattle.refusals.specs.Number.{number, refused_by}
use Rattle.refusals.proofs.Passing.{numbered}
use Rattle.line.proofs.Opening.{opened_line, opened-train}
use Rattle.run.proofs.Answers.{not_run, as_run}
use Rattle.hold.proofs.Answers.{file_refused, file_held}
use Rattle.hold.proofs.hold.Goals as goal

pub returns-in_err-opened : goal.returns-in_err-opened
returns-in_err-opened c =
    let told : number c.in_err-opened.field-0.0 ≡ refused_by c.open_train.result = Prim.search rules in
    let kept = not_run _ _ c.args.speeds.now c.args.times.now (told ∙ c.open_train.ensures.refusal) (numbered _) in
    record {
      answer = file_refused _ _ c.args.speeds.now c.args.times.now _ _ c.from_residual.ensures.1 kept.0;
      speeds = kept.1;
      times = kept.2;
    }

pub returns : goal.returns
returns c =
    let told : c.open_train.result ≡ Ok c.in_ok-opened.opened = Prim.search rules in
    let ok = sym (rw told at c.open_train.ensures.refusal) in
    let opened = rw told at c.open_train.ensures.opened in
    let line = opened_line _ _ ok opened in
    let train = opened-train _ _ ok opened in
    let held = c.hold_train.ensures in
    let all = as_run _ _ ok line train c.args.speeds.now c.args.times.now refl held.speeds held.times in
    record {
      answer = file_held _ _ c.args.speeds.now c.args.times.now ok line train held.answer;
      speeds = all.1;
      times = all.2;
    }
