-- `open_by_number`: the number 0 is that of an opened sheet.
use Rattle.std.proofs.Common.{◌≡◌, ◌∙◌, sym, Result, Ok, Err, OnOk}
use Rattle.refusals.specs.declared.Refusal.{Refusal}
use Rattle.refusals.specs.Number.{refused_by}
use Rattle.refusals.proofs.Passing.{numbered}
use Rattle.sheet_answers.proofs.open.open_by_number.Goals as goal

of_accepted : (r : Result Unit Refusal) {P : Type 0} → refused_by r ≡ 0 → OnOk r P → P
of_accepted (Ok x) e p = p
of_accepted (Err r) e p = absurd (numbered r e)

pub returns-clause-demand : goal.returns-clause-demand
returns-clause-demand c = λ z. of_accepted _ (sym c.number_of.ensures ∙ z) c.open_into.ensures.demand
