use Rattle.std.proofs.Common.{rules, ◌≡◌, sym, ◌∙◌}
use Rattle.std.specs.Prelude.{Ok}
use Rattle.refusals.specs.Number.{refused_by}
use Rattle.refusals.proofs.Passing.{passed_on, numbered}
use Rattle.line.proofs.Opening.{opened_line, opened-train}
use Rattle.run.proofs.Answers.{not_run, as_run, as_fastest}
use Rattle.run.proofs.run.Goals as goal

pub returns-in_err-opened : goal.returns-in_err-opened
returns-in_err-opened c =
    let out = passed_on _ _ c.from_residual.ensures.1 in
    let told : refused_by c.from_residual.result ≡ refused_by c.open_train.result = Prim.search rules in
    let kept = not_run _ _ c.args.speeds.now c.args.times.now (told ∙ c.open_train.ensures.refusal) (λ z. numbered _ (sym out ∙ z)) in
    record {
      refusal = kept.0;
      speeds = kept.1;
      times = kept.2;
      fastest = λ z. absurd (numbered _ (sym out ∙ z));
    }

pub returns : goal.returns
returns c =
    let told : c.open_train.result ≡ Ok c.in_ok-opened.opened = Prim.search rules in
    let ok = sym (rw told at c.open_train.ensures.refusal) in
    let opened = rw told at c.open_train.ensures.opened in
    let line = opened_line _ _ ok opened in
    let train = opened-train _ _ ok opened in
    let r = c.run_train.ensures in
    let all = as_run _ _ ok line train c.args.speeds.now c.args.times.now r.refusal r.speeds r.times in
    record {
      refusal = all.0;
      speeds = all.1;
      times = all.2;
      fastest = λ y. as_fastest _ _ ok line train _ _ (r.fastest y);
    }
