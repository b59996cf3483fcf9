-- The lines of a sheet from its columns.
use Rattle.std.specs.Prelude.{ℕ, List}
use Rattle.text.specs.declared.columns.Columns.{Columns}
use Rattle.text.specs.Text as text

abbrev pub lines_of : Columns → List ℕ
lines_of c = text.lines_text c.starts.now c.runs.now c.blocks.now
