use Prim.Native.Nat.{◌≤◌}
use mathlib.Core.Path.{◌≡◌}
use lib.ListN.{length}
use Rattle.rules.specs.File.{record_at}
use Rattle.line.specs.Judged.{all_kept, kept_of}
use Rattle.line.proofs.judge.trains_kept.Given as goal

abbrev pub invariant-loop : goal.invariant-loop
invariant-loop l = (l.at ≡ record_at l.file l.counter) × (l.at ≤ length l.file) × (l.kept ≡ all_kept (kept_of l.file) l.counter)
