use Rattle.forward.specs.Calls.{entries_to}
use borrow.Author.Rules.{rules}
use Rattle.forward.proofs.entries_to.Goals as goal

pub returns : goal.returns
unfolding entries_to
returns c = search rules
