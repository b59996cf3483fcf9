-- A sheet and a hold record from their fields. Where a function reads only some, the others are 0 and [].
use Rattle.std.specs.Prelude.{ℕ, List}
use Rattle.rules.specs.Hold.{Hold}
use Rattle.rules.specs.Sheet.{Sheet}

abbrev pub sheet_from : ℕ → ℕ → List ℕ → List ℕ → Sheet
sheet_from blocks trains free first = record { blocks = blocks; trains = trains; free = free; first = first }

abbrev pub hold_from : ℕ → List ℕ → List ℕ → Hold
hold_from blocks begins ends = record { blocks = blocks; begins = begins; ends = ends }
