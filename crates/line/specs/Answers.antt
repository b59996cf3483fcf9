-- What the calls answer, whole.
use Rattle.std.specs.Prelude.{ℕ, List, drop, Result, Ok, Err}
use Rattle.refusals.specs.declared.Refusal.{Refusal}
use Rattle.refusals.specs.Number.{number}
use Rattle.rules.specs.Calls as calls
use Rattle.rules.specs.File.{record_at}
use Rattle.reading.specs.Decoded.{decoded_line, decoded_train}
use Rattle.line.specs.declared.RecordPlace.{RecordPlace}
use Rattle.line.specs.declared.find.Found.{Found}
use Rattle.line.specs.declared.opened.OpenedTrain.{OpenedTrain}

-- the number 0 and where the record stands; or the number of refusal and zeros
abbrev pub as_record_place : Result RecordPlace Refusal → calls.RecordPlace
as_record_place (Ok p) = record { number = 0; start = p.start; length = p.length }
as_record_place (Err r) = record { number = number r; start = 0; length = 0 }

-- the line of an accepted file, and train k
abbrev pub opened_train : List ℕ → ℕ → OpenedTrain
opened_train file k = record { line = decoded_line file; train = decoded_train (drop (record_at file k) file) }

-- the line of an accepted file, and the place of the record of train k
abbrev pub found_for : List ℕ → ℕ → Found
found_for file k = record { line = decoded_line file; at = record_at file k }
