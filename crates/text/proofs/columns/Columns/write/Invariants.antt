-- The lines passed stand in the buffer.
use Rattle.std.proofs.Common.{◌≡◌, length}
use Rattle.rules.specs.Text.{joined}
use Rattle.text.specs.Text.{Placed, line_at}
use Rattle.text.proofs.columns.Columns.write.Given as goal

abbrev pub invariant-loop-k : goal.invariant-loop-k
invariant-loop-k l =
    (length l.buf ≡ length l.initial.buf)
    × Placed l.initial.buf l.at (joined (line_at l.self.starts.now l.self.runs.now l.self.blocks.now) l.k) l.next l.buf
