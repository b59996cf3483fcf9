-- A line and a train that keep the rules together are admitted. Assumes nothing.
use Rattle.rules.specs.Admitted.{Admitted}
use Rattle.rules.proofs.Accepted.{on_admitted}
use Rattle.values.specs.Values.{as_line, as_train}
use Rattle.values.proofs.Parallel.{decoded_parallel}
use Rattle.judging.specs.declared.on_line.OnLine.{OnLine}

pub admitted : (on : OnLine) → Admitted (as_line on.line) (as_train on.train)
admitted on = on_admitted _ _ on.keeps (decoded_parallel on.line on.train)
