use Rattle.std.proofs.Common.{◌≡◌, ◌+◌, ◌-◌, arith, refl, sym}
use Rattle.rules.specs.Count.{entry}
use Rattle.rules.proofs.Fill.{fill_one, fill_down}
use Rattle.rules.proofs.Written.{fill_written}
use Rattle.rules.proofs.Sweep.{backward_last, backward_next, backward_le}
use Rattle.run.proofs.backward.write_backward.Goals as goal

pub loop-i-init : goal.loop-i-init
loop-i-init c = fill_one (omega arith) (sym (backward_last _ _ _ _ (omega arith)))

pub overflow_add-most-in-loop-i : goal.overflow_add-most-in-loop-i
overflow_add-most-in-loop-i c = let i = c.loop-i.i in
    let here : i - 1 + 1 ≡ i = omega arith in
    rw here (omega (
      arith,
      c.loop-i.invariant.inside i (omega arith) (omega arith),
      backward_le (entry c.args.speeds.now) c.args.loss c.args.points i,
      c.requires.by_index i (omega arith),
    ))

pub loop-i-preserved : goal.loop-i-preserved
loop-i-preserved c = let o = c.loop-i in
    let here : o.i - 1 + 1 ≡ o.i = omega arith in
    fill_down o.invariant (omega arith) (omega arith) (omega arith)
    (omega (
      arith,
      rw here at c.at_most.ensures,
      o.invariant.under (o.i - 1) (omega arith),
      o.invariant.inside o.i (omega arith) (omega arith),
      backward_next (entry c.args.speeds.now) c.args.loss c.args.points (o.i - 1) o.i (omega arith) (omega arith),
    ))

pub returns : goal.returns
returns c = let z : c.loop-i.i ≡ 0 = omega arith in
    fill_written (rw z at c.loop-i.invariant) refl (omega arith)
