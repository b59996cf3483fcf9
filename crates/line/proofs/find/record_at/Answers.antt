use mathlib.Core.Path.{sym, ◌∙◌}
use native.Mathlib.Omega.{arith}
use Rattle.rules.proofs.Accepted.{file_there}
use Rattle.rules.proofs.File.{record_first, trains-within, part_next, part_inside}
use Rattle.line.proofs.find.record_at.Goals as goal

pub loop-init : goal.loop-init
loop-init c = let f = c.args.file.now in
    (c.requires.2 ∙ sym (record_first f), omega (arith, c.requires.2, trains-within f, file_there f c.requires.0))

pub loop-preserved : goal.loop-preserved
loop-preserved c = let o = c.loop in
    let f = c.args.file.now in
    let size = c.record_size-at.ensures.0 in (
      part_next f o.counter o.at o.invariant.0 size,
      omega (arith, part_inside f o.counter o.at o.invariant.0 size (omega (arith, c.loop-test.true)), file_there f c.requires.0),
    )
