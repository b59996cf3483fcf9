-- The total is the length of the lines passed, at most 84 bytes each.
use Rattle.std.proofs.Common.{◌≡◌, ◌*◌, ◌≤◌, length}
use Rattle.rules.specs.Text.{joined}
use Rattle.text.specs.Text.{line_at}
use Rattle.text.proofs.columns.Columns.text_length.Given as goal

abbrev pub invariant-loop-k : goal.invariant-loop-k
invariant-loop-k l =
    (l.total ≡ length (joined (line_at l.self.starts.now l.self.runs.now l.self.blocks.now) l.k)) × (l.total ≤ 84 * l.k)
