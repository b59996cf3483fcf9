-- What the answers stand for in the rules, by number: 0 means accepted, and a refusal has 0 for each other value.
use Rattle.std.specs.Prelude.{ℕ, cond, eqb}
use Rattle.rules.specs.Calls as calls
use Rattle.rules.specs.Period as periods
use Rattle.rules.specs.Sheet.{Sheet}
use Rattle.sheet_answers.specs.declared.add.AddAnswer.{AddAnswer}
use Rattle.sheet_answers.specs.declared.headway.HeadwayAnswer.{HeadwayAnswer}
use Rattle.sheet_answers.specs.declared.period.PeriodAnswer.{PeriodAnswer}

-- the lent sheet after the opening call: a fresh one, or as it came where the block count is refused
unfoldable pub opened_into : ℕ → Sheet → Sheet
opened_into blocks before = cond (eqb (calls.opened blocks).number 0) (calls.opened blocks).sheet before

abbrev pub added_by_number : calls.Answer → AddAnswer
added_by_number (calls.accepted start block) = record { number = 0; start = start; block = block }
added_by_number (calls.refused number) = record { number = number; start = 0; block = 0 }

abbrev pub headway_by_number : calls.HeadwayAnswer → HeadwayAnswer
headway_by_number (calls.headway_of time) = record { number = 0; headway = time }
headway_by_number (calls.no_headway number) = record { number = number; headway = 0 }

abbrev pub as_period_answer : PeriodAnswer → periods.PeriodAnswer
as_period_answer r = record { number = r.number; period = r.period; percent = r.percent }
