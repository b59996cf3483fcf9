use Rattle.std.proofs.Common.{arith, length, sym, ◌∙◌}
use Rattle.refusals.proofs.Passing.{numbered}
use Rattle.values.specs.Values.{as_line, as_train}
use Rattle.forward.proofs.Answers.{entries_most, not_swept, swept, greatest}
use Rattle.forward.proofs.sweep_to.Goals as goal

pub returns-in_err-on-clause-speeds : goal.returns-in_err-on-clause-speeds
returns-in_err-on-clause-speeds c =
    let a = c.args in
    not_swept (as_line a.line) (as_train a.train) a.point a.speeds.now (λ z. numbered _ (c.in_err-on.ensures.refusal ∙ z))

pub write_forward-requires : goal.write_forward-requires
write_forward-requires c =
    let e = c.entries_to-end.ensures in
    let most = entries_most c.args.point c.args.line.points (length c.args.speeds.now) in
    rw c.in_ok-on.ensures.as_given.0 (omega (arith, e, most.0), omega (arith, e, most.1))

pub returns-clause-speeds : goal.returns-clause-speeds
returns-clause-speeds c =
    let a = c.args in
    let given = c.in_ok-on.ensures in
    swept (as_line a.line) (as_train a.train) a.point a.speeds.now c.entries_to-end.ensures (rw (given.as_given.0, given.as_given.1) at c.write_forward.ensures)
    (sym given.refusal)

pub returns-clause-greatest : goal.returns-clause-greatest
returns-clause-greatest c =
    let a = c.args in
    let given = c.in_ok-on.ensures.as_given in
    greatest (as_line a.line) (as_train a.train) a.point a.speeds.now c.entries_to-end.ensures (rw (given.0, given.1) at c.write_forward.ensures)
