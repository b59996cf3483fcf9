-- `clear_of`: in each block the train ahead has left before the one behind comes.
use Rattle.std.proofs.Common.{◌↔◌, ◌≤◌, ◌<◌, ◌+◌, ℕ, min, length, IsTrue, slice_index, rules}
use Rattle.chains.proofs.Every.{every_at_most}
use Rattle.order.specs.Clear.{clear_of}
use Rattle.order.proofs.clear_of.Goals as goal

pub returns : goal.returns
unfolding clear_of
returns c =
    let a = c.args in
    let ends = a.ends.now in
    let begins = a.begins.now in
    let each : IsTrue c.all.result ↔ ((b : ℕ) → b < min (length ends) (length begins) → a.ahead + slice_index ends b ≤ a.behind + slice_index begins b)
    = Prim.search rules in
    every_at_most _ _ _ each
