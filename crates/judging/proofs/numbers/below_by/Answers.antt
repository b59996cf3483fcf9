use Rattle.std.proofs.Common.{◌↔◌, ◌≤◌, ◌<◌, ◌+◌, ℕ, IsTrue, length, min, slice_index, rules}
use Rattle.chains.proofs.Every.{every_at_most}
use Rattle.judging.proofs.numbers.below_by.Goals as goal

pub returns : goal.returns
returns c =
    let xs = c.args.numbers.now in
    let ys = c.args.others.now in
    let each : IsTrue c.all.result ↔ ((k : ℕ) → k < min (length xs) (length ys) → slice_index xs k + c.args.gap ≤ slice_index ys k) = Prim.search rules in
    every_at_most _ _ _ each
