use Rattle.std.proofs.Common.{◌≤◌, arith}
use Rattle.caps.proofs.Past.{past_found, past_none}
use Rattle.caps.proofs.places.Places.passed.Goals as goal

pub returns-then-reach-places : goal.returns-then-reach-places
returns-then-reach-places c =
    let from : c.args.k ≤ c.loop-i.i = c.loop-i.auto.i in
    past_found c.args.self.now.at c.args.k c.args.reach (omega arith) c.in_use-places.ensures from c.loop-i-test.true c.loop-i.invariant c.if-reach-places.true

pub returns : goal.returns
returns c =
    past_none c.args.self.now.at c.args.k c.args.reach (omega arith) c.in_use-places.ensures c.max.ensures
    (λ j g l. c.loop-i.invariant j g (omega (arith, c.loop-i-test.false)))
