-- `all_at_most`: each time is at most the bound.
use Rattle.std.proofs.Common.{◌↔◌, ◌≤◌, IsTrue, EachIndex, slice_index, rules}
use Rattle.chains.proofs.Every.{every_at_most}
use Rattle.sheet_judging.proofs.all_at_most.Goals as goal

pub returns : goal.returns
returns c =
    let each : IsTrue c.all.result ↔ EachIndex c.args.times.now (λ b. slice_index c.args.times.now b ≤ c.args.bound) = Prim.search rules in
    every_at_most _ _ _ each
