use mathlib.Core.Bool.{true}
use mathlib.Core.Path.{◌≡◌, sym, ap, ◌∙◌}
use Rattle.rules.specs.Refusal.{sizes_on}
use Rattle.rules.proofs.Accepted.{line_broken, line_passed}
use Rattle.refusals.specs.declared.Refusal.TheVariants as refusals
use Rattle.refusals.proofs.Passing.{passed_on, passes, numbered}
use Rattle.values.specs.Values.{as_line, as_train}
use Rattle.judging.specs.declared.train_rules.TrainKept.{TrainKept}
use Rattle.judging.proofs.Checks.{both_sized, sized_kept}
use Rattle.judging.proofs.Order.{broken_here}
use Rattle.judging.proofs.on_line.check_on.Goals as goal

pub returns-in_err-unless : goal.returns-in_err-unless
returns-in_err-unless c =
    broken_here refusals.Sizes _ (ap (λ (k : TrainKept). k.sizes) c.train_kept-kept.ensures) _ _ c.from_residual.ensures.1 c.in_err-unless.ensures

pub check_sized-requires : goal.check_sized-requires
check_sized-requires c =
    let sized : sizes_on (as_line c.args.line) (as_train c.args.train) ≡ true =
    sym (ap (λ (k : TrainKept). k.sizes) c.train_kept-kept.ensures) ∙ passes _ _ c.in_ok-unless.ensures in
    (both_sized c.args.line c.args.train sized).0

pub returns-in_err-check_sized : goal.returns-in_err-check_sized
returns-in_err-check_sized c =
    let sized : sizes_on (as_line c.args.line) (as_train c.args.train) ≡ true =
    sym (ap (λ (k : TrainKept). k.sizes) c.train_kept-kept.ensures) ∙ passes _ _ c.in_ok-unless.ensures in
    let number = c.in_err-check_sized.ensures in
    passed_on _ _ c.from_residual-in_err-check_sized.ensures.1 ∙ number ∙ sym (line_broken _ _ _ sized (λ z. numbered _ (number ∙ z)))

pub returns : goal.returns
returns c =
    let sized : sizes_on (as_line c.args.line) (as_train c.args.train) ≡ true =
    sym (ap (λ (k : TrainKept). k.sizes) c.train_kept-kept.ensures) ∙ passes _ _ c.in_ok-unless.ensures in
    let passed = line_passed _ _ _ sized (sym c.in_ok-check_sized.ensures) in
    c.check.ensures ∙ rw (c.train_kept-kept.ensures ∙ sized_kept _ _ sized) (sym passed)
