-- What the hold calls answer, and what their answer stands for in the rules.
use Rattle.std.specs.Prelude.{ℕ, cond, eqb, Result, Ok, Err}
use Rattle.rules.specs.Line.{Line, Train}
use Rattle.rules.specs.Hold.{empty_hold, hold_of}
use Rattle.rules.specs.Calls as calls
use Rattle.run.specs.Calls.{run_refusal_on}
use Rattle.refusals.specs.declared.Refusal.{Refusal}
use Rattle.refusals.specs.Number.{number}
use Rattle.holds.specs.declared.HoldRecord.{HoldRecord}
use Rattle.holds.specs.Values.{as_hold}

-- the number 0 and the hold; or the number of refusal and the record of no blocks
abbrev pub as_hold_answer : Result HoldRecord Refusal → calls.HoldAnswer
as_hold_answer (Ok h) = record { number = 0; hold = as_hold h }
as_hold_answer (Err r) = record { number = number r; hold = empty_hold }

-- the hold of a decoded line and train, by the lengths of the lent buffers
unfoldable pub held_on : Line → Train → ℕ → ℕ → calls.HoldAnswer
held_on l t speeds times =
    cond (eqb (run_refusal_on l t speeds times) 0) (record { number = 0; hold = hold_of l t })
    (record { number = run_refusal_on l t speeds times; hold = empty_hold })
