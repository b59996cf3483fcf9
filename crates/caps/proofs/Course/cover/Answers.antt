use Rattle.caps.specs.Caps.{covering}
use Rattle.caps.proofs.Course.cover.Goals as goal

pub returns : goal.returns
unfolding covering
returns c = rw (
  c.point_at.ensures,
  c.min-2.ensures,
  c.min.ensures,
  c.lowest_limit.ensures,
  c.ahead-by_balise.ensures,
  c.head_for-by_tail.ensures,
  c.ahead.ensures,
  c.ahead-by_head.ensures,
  c.last_of-from.ensures,
)
