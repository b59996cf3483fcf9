-- What the answers by number stand for in the rules: 0 means accepted, and a refusal has 0 for each other value.
use Rattle.std.specs.Prelude.{ℕ, cond, List, eqb, length, Result, Ok, Err}
use Rattle.refusals.specs.declared.Refusal.{Refusal}
use Rattle.refusals.specs.Number.{number}
use Rattle.rules.specs.Calls as calls
use Rattle.rules.specs.File.{point_count, step_length, block_count, train_count}
use Rattle.rules.specs.Path as paths
use Rattle.holds.specs.Values.{as_hold}
use Rattle.reading.specs.declared.decode.DecodedFile.{DecodedFile}
use Rattle.vellumrill.specs.declared.answers.RecordPlace.{RecordPlace}
use Rattle.vellumrill.specs.declared.answers.Sizes.{Sizes}
use Rattle.vellumrill.specs.declared.answers.HoldAnswer.{HoldAnswer}
use Rattle.vellumrill.specs.declared.answers.PathAnswer.{PathAnswer}
use Rattle.vellumrill.specs.declared.answers.RowsAnswer.{RowsAnswer}
use Rattle.vellumrill.specs.declared.answers.WriteAnswer.{WriteAnswer}

-- ---- answers that the rules have too

abbrev pub as_record_place : RecordPlace → calls.RecordPlace
as_record_place r = record { number = r.number; start = r.start; length = r.length }

abbrev pub as_hold_answer : HoldAnswer → calls.HoldAnswer
as_hold_answer r = record { number = r.number; hold = as_hold r.hold }

abbrev pub as_path_answer : PathAnswer → paths.PathAnswer
as_path_answer r = record { number = r.number; start = r.start; before = r.before }

-- ---- P, L, B and T of an accepted file

unfoldable pub file_sizes : List ℕ → Sizes
file_sizes file =
    cond (eqb (calls.file_refusal file) 0)
    (record { number = 0; points = point_count file; step = step_length file; blocks = block_count file; trains = train_count file })
    (record { number = calls.file_refusal file; points = 0; step = 0; blocks = 0; trains = 0 })

-- of a file as it was opened, or refused
abbrev pub sizes_told : Result DecodedFile Refusal → Sizes
sizes_told (Ok file) = record { number = 0; points = file.line.points; step = file.line.step; blocks = file.line.block_count; trains = file.trains }
sizes_told (Err r) = record { number = number r; points = 0; step = 0; blocks = 0; trains = 0 }

-- ---- the columns of a file: how many trains it has

-- the answer of a call that has this number of refusal, or 0, and this many trains
unfoldable pub rows_answer : ℕ → ℕ → RowsAnswer
rows_answer number trains = cond (eqb number 0) (record { number = 0; trains = trains }) (record { number = number; trains = 0 })

abbrev pub rows_told : Result ℕ Refusal → RowsAnswer
rows_told (Ok trains) = record { number = 0; trains = trains }
rows_told (Err r) = record { number = number r; trains = 0 }

-- ---- calls that write bytes: how many are written

-- the answer of a call that has this number of refusal, or 0, and this text to write
unfoldable pub write_answer : ℕ → List ℕ → WriteAnswer
write_answer number text = cond (eqb number 0) (record { number = 0; bytes = length text }) (record { number = number; bytes = 0 })

abbrev pub write_told : Result ℕ Refusal → WriteAnswer
write_told (Ok bytes) = record { number = 0; bytes = bytes }
write_told (Err r) = record { number = number r; bytes = 0 }
