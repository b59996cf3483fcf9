use mathlib.Core.Path.{sym, ◌∙◌}
use Rattle.judging.proofs.Checks.{both_sized, none_kept, sized_kept}
use Rattle.judging.proofs.train_rules.train_kept.Goals as goal

pub returns-then-not-sized_on : goal.returns-then-not-sized_on
returns-then-not-sized_on c = sym (none_kept _ _ (sym c.sized_on.ensures ∙ c.if-not-sized_on.true))

pub bands_kept-requires : goal.bands_kept-requires
bands_kept-requires c = (both_sized _ _ (sym c.sized_on.ensures ∙ c.if-not-sized_on.false)).1

pub stops_kept-requires : goal.stops_kept-requires
stops_kept-requires c = both_sized _ _ (sym c.sized_on.ensures ∙ c.if-not-sized_on.false)

pub last_block_kept-requires : goal.last_block_kept-requires
last_block_kept-requires c = (both_sized _ _ (sym c.sized_on.ensures ∙ c.if-not-sized_on.false)).0

pub returns : goal.returns
returns c = rw (sized_kept _ _ (sym c.sized_on.ensures ∙ c.if-not-sized_on.false), c.bands_kept.ensures, c.stops_kept.ensures, c.last_block_kept.ensures)
