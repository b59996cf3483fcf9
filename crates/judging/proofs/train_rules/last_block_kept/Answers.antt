use Prim.Native.Nat.{◌+◌, ◌-◌}
use Rattle.rules.specs.Count.{ceil_div}
use Rattle.rules.specs.Run.{train_cells}
use Rattle.judging.proofs.Rules.{last_block_numbers}
use native.Mathlib.Nat.{div-le_self}
use native.Mathlib.Omega.{arith}
use Rattle.judging.proofs.train_rules.last_block_kept.Goals as goal

pub overflow_add-result : goal.overflow_add-result
unfolding train_cells ceil_div
overflow_add-result c = let a = c.args in
    omega (arith, c.train_cells.ensures, div-le_self (a.train.length + (a.line.step - 1)) a.line.step)

pub returns : goal.returns
returns c = let a = c.args in
    rw (last_block_numbers a.line a.train (omega arith)) (rw (c.from-end.ensures, c.train_cells.ensures, c.from.ensures))
