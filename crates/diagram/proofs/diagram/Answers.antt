use Rattle.std.proofs.Common.{◌≡◌, ◌∙◌, ap, sym, length, arith}
use Rattle.std.proofs.lemmas.Bool.{leb-true, leb-false}
use Rattle.std.proofs.lemmas.Result.{IfOk-from_err}
use Rattle.refusals.specs.Number.{number}
use Rattle.refusals.proofs.Passing.{passed_on, refuses, passes, numbered}
use Rattle.rules.specs.Diagram.{diagram_refusal}
use Rattle.rules.specs.Line.{Line, line_of}
use Rattle.rules.specs.Refusal.{refusal, rules_on}
use Rattle.values.specs.Values.{as_line, as_train}
use Rattle.rules.proofs.Accepted.{on_kept, train-admitted}
use Rattle.line.proofs.Opening.{opened_line, opened-train}
use Rattle.diagram.proofs.Answers.{left, written-whole}
use Rattle.diagram.proofs.Numbers.{train_refuses, few_bytes, enough-bytes}
use Rattle.diagram.proofs.diagram.Goals as goal

pub returns-in_err-opened : goal.returns-in_err-opened
returns-in_err-opened c =
    let a = c.args in
    let r = c.in_err-opened.field-0.0 in
    let told : number r ≡ diagram_refusal a.file.now a.k (length a.bytes.now)
    = train_refuses a.file.now a.k (length a.bytes.now) c.in_err-opened.ensures.refusal (numbered r) in
    record {
      refusal = passed_on _ _ c.from_residual.ensures.1 ∙ told;
      count = IfOk-from_err _ _ c.from_residual.ensures.0;
      bytes = left _ _ _ r told;
      figures = IfOk-from_err _ _ c.from_residual.ensures.0;
    }

pub returns-in_err-unless : goal.returns-in_err-unless
returns-in_err-unless c =
    let a = c.args in
    let r = c.in_err-unless.field-0.0 in
    let asked = sym c.in_ok-opened.ensures.refusal in
    let points : c.from-count.result ≡ (line_of a.file.now).points
    = c.from-count.ensures ∙ ap (λ (l : Line). l.points) (opened_line a.file.now a.k asked c.in_ok-opened.ensures.opened) in
    let (broken, own) = refuses _ _ _ c.in_err-unless.ensures in
    let told : number r ≡ diagram_refusal a.file.now a.k (length a.bytes.now)
    = own ∙ few_bytes a.file.now a.k asked (length a.bytes.now) (omega (arith, points, leb-false _ _ broken)) in
    record {
      refusal = passed_on _ _ c.from_residual-in_err-unless.ensures.1 ∙ told;
      count = IfOk-from_err _ _ c.from_residual-in_err-unless.ensures.0;
      bytes = left _ _ _ r told;
      figures = IfOk-from_err _ _ c.from_residual-in_err-unless.ensures.0;
    }

pub write_diagram-requires : goal.write_diagram-requires
write_diagram-requires c =
    let a = c.args in
    let asked = sym c.in_ok-opened.ensures.refusal in
    let line_is = opened_line a.file.now a.k asked c.in_ok-opened.ensures.opened in
    let train_is = opened-train a.file.now a.k asked c.in_ok-opened.ensures.opened in
    let kept : refusal (rules_on (as_line c.in_ok-opened.opened.line) (as_train c.in_ok-opened.opened.train)) ≡ 0
    = rw (line_is, train_is) (on_kept _ _ (train-admitted _ _ asked)) in
    (kept, omega (arith, c.from-count.ensures, leb-true _ _ (passes _ _ c.in_ok-unless.ensures)))

pub returns : goal.returns
returns c =
    let a = c.args in
    let asked = sym c.in_ok-opened.ensures.refusal in
    let line_is = opened_line a.file.now a.k asked c.in_ok-opened.ensures.opened in
    let train_is = opened-train a.file.now a.k asked c.in_ok-opened.ensures.opened in
    let points : c.from-count.result ≡ (line_of a.file.now).points = c.from-count.ensures ∙ ap (λ (l : Line). l.points) line_is in
    let told = enough-bytes a.file.now a.k asked (length a.bytes.now) (omega (arith, points, leb-true _ _ (passes _ _ c.in_ok-unless.ensures))) in
    let whole = written-whole a.file.now a.k asked a.bytes.now told points (rw (line_is, train_is) at c.write_diagram.ensures) in
    record { refusal = told; count = whole.0; bytes = whole.1.0; figures = whole.1.1 }
