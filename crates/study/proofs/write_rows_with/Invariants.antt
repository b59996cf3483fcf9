use Rattle.std.proofs.Common.{◌≡◌, length}
use Rattle.rules.specs.Text.{running_time}
use Rattle.rules.proofs.Fill.{Filled}
use Rattle.holds.specs.Values.{as_sheet}
use Rattle.study.specs.Rows.{start_at, block_at}
use Rattle.study.proofs.Through.{Through}
use Rattle.study.proofs.write_rows_with.Given as goal

abbrev pub invariant-loop-k : goal.invariant-loop-k
invariant-loop-k l =
    Through l.file (as_sheet l.sheet) l.at l.k
    × ((length l.speeds ≡ length l.initial.speeds) × (length l.times ≡ length l.initial.times))
    × (Filled (start_at l.file) 0 l.k l.initial.starts l.starts × Filled (running_time l.file) 0 l.k l.initial.runs l.runs × Filled (block_at l.file) 0 l.k l.initial.blocks l.blocks)
