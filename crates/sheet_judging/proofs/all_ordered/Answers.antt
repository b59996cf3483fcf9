-- `all_ordered`: each beginning is below the end beside it.
use Rattle.std.proofs.Common.{◌↔◌, ◌<◌, ℕ, min, length, IsTrue, slice_index, rules}
use Rattle.chains.proofs.Every.{every_below}
use Rattle.sheet_judging.proofs.all_ordered.Goals as goal

pub returns : goal.returns
returns c =
    let begins = c.args.begins.now in
    let ends = c.args.ends.now in
    let each : IsTrue c.all.result ↔ ((b : ℕ) → b < min (length begins) (length ends) → slice_index begins b < slice_index ends b) = Prim.search rules in
    every_below _ _ _ each
