-- What the answers stand for in the rules: the same numbers and lists, and for each refusal its number.
use Rattle.std.specs.Prelude.{ℕ, Result, Ok, Err}
use Rattle.rules.specs.Sheet as sheets
use Rattle.rules.specs.Calls as calls
use Rattle.rules.specs.Period as periods
use Rattle.refusals.specs.declared.Refusal.{Refusal}
use Rattle.refusals.specs.Number.{number}
use Rattle.holds.specs.declared.Sheet.{Sheet}
use Rattle.holds.specs.Values.{as_sheet}
use Rattle.sheet.specs.declared.Added.{Added}
use Rattle.sheet.specs.declared.Addition.{Addition}
use Rattle.sheet.specs.declared.SheetPeriod.{SheetPeriod}

-- a refusal stands with a sheet of no blocks
abbrev pub as_opening : Result Sheet Refusal → calls.Opening
as_opening (Ok sheet) = record { number = 0; sheet = as_sheet sheet }
as_opening (Err r) = record { number = number r; sheet = sheets.fresh 0 }

abbrev pub as_answer : Result Added Refusal → calls.Answer
as_answer (Ok added) = calls.accepted added.start added.block
as_answer (Err r) = calls.refused (number r)

-- an answer, with the sheet that the call left
abbrev pub answered : Result Added Refusal → Sheet → calls.Addition
answered r s = record { answer = as_answer r; sheet = as_sheet s }

abbrev pub as_addition : Addition → calls.Addition
as_addition r = answered r.answer r.sheet

abbrev pub as_headway_answer : Result ℕ Refusal → calls.HeadwayAnswer
as_headway_answer (Ok time) = calls.headway_of time
as_headway_answer (Err r) = calls.no_headway (number r)

-- a refusal stands with the period 0 and the percentage 0
abbrev pub as_period_answer : Result SheetPeriod Refusal → periods.PeriodAnswer
as_period_answer (Ok p) = record { number = 0; period = p.period; percent = p.percent }
as_period_answer (Err r) = record { number = number r; period = 0; percent = 0 }
