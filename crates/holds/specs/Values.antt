-- What a hold record and a sheet stand for in the rules: the same numbers and lists.
use Rattle.rules.specs.Hold as holds
use Rattle.rules.specs.Sheet as sheets
use Rattle.holds.specs.declared.HoldRecord.{HoldRecord}
use Rattle.holds.specs.declared.Sheet.{Sheet}

abbrev pub as_hold : HoldRecord → holds.Hold
as_hold h = record { blocks = h.blocks; begins = h.begins; ends = h.ends }

abbrev pub as_sheet : Sheet → sheets.Sheet
as_sheet s = record { blocks = s.blocks; trains = s.trains; free = s.free; first = s.first }
