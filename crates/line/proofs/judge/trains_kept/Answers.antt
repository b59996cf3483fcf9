use Prim.Native.Nat.{◌<◌}
use mathlib.Core.Path.{sym, ap, ◌∙◌}
use native.Mathlib.Omega.{arith}
use Rattle.rules.specs.File.{train_count}
use Rattle.rules.proofs.File.{record_first, trains-within, part_next, part_inside}
use Rattle.reading.specs.declared.decode.DecodedFile.{DecodedFile}
use Rattle.line.specs.Judged.{kept_of}
use Rattle.line.proofs.Judging.{kept-none, kept_more, kept_here}
use Rattle.line.proofs.judge.trains_kept.Goals as goal

pub loop-init : goal.loop-init
loop-init c = let f = c.args.file.now in
    let first = ap (λ (d : DecodedFile). d.at) c.requires.1 in
    (first ∙ sym (record_first f), omega (arith, first, trains-within f, c.requires.0), kept-none _)

pub loop-preserved : goal.loop-preserved
loop-preserved c =
    let on_file : c.loop.counter < train_count c.args.file.now = (omega (arith, ap (λ (d : DecodedFile). d.trains) c.requires.1, c.loop-test.true)) in
    let o = c.loop in
    let f = c.args.file.now in
    let line = ap (λ (d : DecodedFile). d.line) c.requires.1 in
    let here = kept_here f o.counter o.at o.invariant.0 line c.decode_train.ensures c.train_kept.ensures in
    let size = c.record_size-at.ensures.0 in (
      part_next f o.counter o.at o.invariant.0 size,
      omega (arith, part_inside f o.counter o.at o.invariant.0 size on_file, c.requires.0),
      kept_more (kept_of f) o.counter o.invariant.2 here c.and-kept.ensures,
    )
