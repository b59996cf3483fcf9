-- `program_text` meets its contract: a refusal's text, or the sheet's.
use Rattle.std.proofs.Common.{◌∙◌, ℕ, sym, ap, length, arith}
use lib.ListN.{length-replicate}
use Rattle.rules.specs.Count.{padded}
use Rattle.rules.proofs.Room.{program_most}
use Rattle.study_text.proofs.Texts.{printed, long_printed, refused_printed, sheet_printed}
use Rattle.study_text.proofs.program_text.Goals as goal

pub returns-then-input-gt-MOST_INPUT-clause-text : goal.returns-then-input-gt-MOST_INPUT-clause-text
returns-then-input-gt-MOST_INPUT-clause-text c =
    c.refusal_printed.ensures.0 ∙ ap (padded 2390) (long_printed c.args.input.now (omega arith))

pub returns-then-input-gt-MOST_INPUT-clause-bytes : goal.returns-then-input-gt-MOST_INPUT-clause-bytes
returns-then-input-gt-MOST_INPUT-clause-bytes c =
    let input = c.args.input.now in
    let same = long_printed input (omega arith) in
    let e = c.refusal_printed.ensures in
    (e.1 ∙ ap length same, omega (arith, e.1, ap length same, program_most input))

pub returns-in-Ok-clause-text : goal.returns-in-Ok-clause-text
returns-in-Ok-clause-text c =
    let e = c.in-Ok.ensures in
    let sheet = sheet_printed c.args.input.now (omega arith) _ (omega (arith, length-replicate {A = ℕ} 2390 0)) e.refusal in
    printed _ 2390 sheet.0 (sym e.refusal) e.text ∙ ap (padded 2390) sheet.1

pub returns-in-Ok-clause-bytes : goal.returns-in-Ok-clause-bytes
returns-in-Ok-clause-bytes c =
    let e = c.in-Ok.ensures in
    let sheet = sheet_printed c.args.input.now (omega arith) _ (omega (arith, length-replicate {A = ℕ} 2390 0)) e.refusal in
    (e.count ∙ ap length sheet.1, omega (arith, e.count, sheet.0))

pub returns-in-Err-clause-text : goal.returns-in-Err-clause-text
returns-in-Err-clause-text c =
    let same = refused_printed c.args.input.now (omega arith) _ (omega (arith, length-replicate {A = ℕ} 2390 0)) _ c.in-Err.ensures.refusal in
    c.refusal_printed-in-Err.ensures.0 ∙ ap (padded 2390) same

pub returns-in-Err-clause-bytes : goal.returns-in-Err-clause-bytes
returns-in-Err-clause-bytes c =
    let input = c.args.input.now in
    let same = refused_printed input (omega arith) _ (omega (arith, length-replicate {A = ℕ} 2390 0)) _ c.in-Err.ensures.refusal in
    let e = c.refusal_printed-in-Err.ensures in
    (e.1 ∙ ap length same, omega (arith, e.1, ap length same, program_most input))
