-- The line of a sheet's row.
use Rattle.std.specs.Prelude.{ℕ, List}
use Rattle.rules.specs.Text.{train_line}
use Rattle.text.specs.declared.row.Row.{Row}

abbrev pub line_of : Row → List ℕ
line_of r = train_line r.train r.start r.run r.block
