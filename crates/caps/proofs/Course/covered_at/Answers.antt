use Rattle.std.proofs.Common.{arith, ◌≡◌, ◌*◌}
use Rattle.caps.specs.Caps.{covered_at}
use Rattle.caps.proofs.Course.covered_at.Goals as goal

pub returns : goal.returns
unfolding covered_at
returns c = let a = c.args in
    let x : c.place_of-x.result ≡ a.point * a.self.now.step = omega (arith, c.place_of-x.ensures.0) in
    rw (← x, ← c.passed-balises.ensures, ← c.last_of.ensures, ← c.rear_at-rear.ensures, ← c.passed-head.ensures, ← c.passed-tail.ensures)
    c.cover.ensures
