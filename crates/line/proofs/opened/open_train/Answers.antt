use mathlib.Core.Path.{ap}
use Rattle.line.specs.declared.find.Found.{Found}
use Rattle.line.proofs.Opening.{train_read}
use Rattle.line.proofs.opened.open_train.Goals as goal

pub returns-clause-opened : goal.returns-clause-opened
returns-clause-opened c =
    let line = ap (λ (f : Found). f.line) c.in_ok-found.ensures.found in
    let train = train_read _ _ (ap (λ (f : Found). f.at) c.in_ok-found.ensures.found) c.decode_train-train.ensures in
    rw (line, train)
