use mathlib.Core.Path.{sym, ap, ◌∙◌}
use native.Mathlib.Omega.{arith}
use borrow.Author.Tests.{ltb-true, ltb-false}
use Rattle.rules.proofs.Accepted.{train-refused, train_missing, train-there}
use Rattle.refusals.proofs.Passing.{passed_on, refuses, passes, numbered}
use Rattle.reading.specs.declared.decode.DecodedFile.{DecodedFile}
use Rattle.line.proofs.find.find_train.Goals as goal

pub returns-in_err-opened-clause-refusal : goal.returns-in_err-opened-clause-refusal
returns-in_err-opened-clause-refusal c =
    let file = c.in_err-opened.ensures.refusal in
    passed_on _ _ c.from_residual.ensures.1 ∙ file ∙ sym (train-refused _ _ (λ z. numbered _ (file ∙ z)))

pub returns-in_err-unless-clause-refusal : goal.returns-in_err-unless-clause-refusal
returns-in_err-unless-clause-refusal c =
    let (broken, own) = refuses _ _ _ c.in_err-unless.ensures in
    let trains = ap (λ (d : DecodedFile). d.trains) c.in_ok-opened.ensures.opened in
    let missing = train_missing _ _ (sym c.in_ok-opened.ensures.refusal) (omega (arith, trains, ltb-false _ _ broken)) in
    passed_on _ _ c.from_residual-in_err-unless.ensures.1 ∙ own ∙ sym missing

pub returns-clause-refusal : goal.returns-clause-refusal
returns-clause-refusal c =
    let trains = ap (λ (d : DecodedFile). d.trains) c.in_ok-opened.ensures.opened in
    let there = ltb-true _ _ (passes _ _ c.in_ok-unless.ensures) in
    sym (train-there _ _ (sym c.in_ok-opened.ensures.refusal) (omega (arith, trains, there)))
