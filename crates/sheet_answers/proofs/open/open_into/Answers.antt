-- `open_into`: an opened sheet is left, or the one that was there.
use borrow.Author.Tests.{ne_eqb}
use Rattle.refusals.specs.Number.{number}
use Rattle.refusals.proofs.Passing.{numbered}
use Rattle.sheet_answers.specs.Answers.{opened_into}
use Rattle.sheet_answers.proofs.open.open_into.Goals as goal

pub returns-in_err-sheet-clause-sheet : goal.returns-in_err-sheet-clause-sheet
unfolding opened_into
returns-in_err-sheet-clause-sheet c = let r = c.in_err-sheet.field-0.0 in rw (← c.in_err-sheet.ensures.sheet, ne_eqb (number r) 0 (numbered r))

pub returns-clause-sheet : goal.returns-clause-sheet
unfolding opened_into
returns-clause-sheet c = rw (← c.in_ok-sheet.ensures.sheet)
