use Rattle.std.proofs.Common.{◌-◌, min, arith}
use Rattle.caps.specs.Caps.{lowest_limit}
use Rattle.caps.proofs.Lowest.{lowest_folded}
use Rattle.caps.proofs.Course.lowest_limit.Goals as goal

pub returns : goal.returns
unfolding lowest_limit
returns c =
    let s = c.args.self.now in
    rw (c.lowest_of.ensures, c.min-first.ensures, c.saturating_sub.ensures, c.min.ensures)
    (lowest_folded s.limits s.top (c.args.tail - 1) (min c.args.head 64) (omega arith))
