use mathlib.Core.Path.{sym, ◌∙◌}
use native.Mathlib.Numerals.{add-one}
use native.Mathlib.Omega.{arith}
use Rattle.rules.proofs.Loops.{every-none}
use Rattle.judging.proofs.Rules.{beside_next}
use Rattle.judging.proofs.numbers.rises_by.Goals as goal

pub returns-in-Some : goal.returns-in-Some
returns-in-Some c =
    let a = c.args.numbers.now in
    let later = c.in-Some.later.now in
    c.below_by.ensures ∙ beside_next c.args.gap a a later (omega arith) c.in-Some.ensures.cases.1 (λ i. rw (c.in-Some.ensures.cases.0, add-one i))

pub returns-in-None : goal.returns-in-None
returns-in-None c = rw c.in-None.ensures.cases (sym (every-none _))
