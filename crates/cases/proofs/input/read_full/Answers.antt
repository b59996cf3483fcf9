use Rattle.std.proofs.Common.{rules}
use Rattle.cases.proofs.Filling.{Consumes-filled}
use Rattle.cases.proofs.input.read_full.Goals as goal

pub loop-done-preserved : goal.loop-done-preserved
loop-done-preserved g c =
    let before = c.loop-done.invariant in
    (search rules, search rules, Consumes-filled _ _ _ _ _ _ _ _ before.1 c.in_ok-n.ensures.bound.0 before.2 c.in_ok-n.ensures.bytes.0)
