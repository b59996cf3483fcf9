use Rattle.std.proofs.Common.{◌↔◌, ◌≤◌, IsTrue, EachIndex, slice_index, rules}
use Rattle.chains.proofs.Every.{every_within}
use Rattle.judging.proofs.numbers.all_within.Goals as goal

pub returns : goal.returns
returns c =
    let a = c.args in
    let each : IsTrue c.all.result ↔ EachIndex a.numbers.now (λ k. (a.low ≤ slice_index a.numbers.now k) × (slice_index a.numbers.now k ≤ a.high)) = Prim.search rules in
    every_within _ _ _ _ each
