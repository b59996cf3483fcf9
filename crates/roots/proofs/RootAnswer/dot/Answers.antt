use Rattle.std.proofs.Common.{rules}
use Rattle.rules.specs.Diagram.{dot}
use Rattle.roots.proofs.RootAnswer.dot.Goals as goal

pub returns : goal.returns
unfolding dot
returns c = search rules
