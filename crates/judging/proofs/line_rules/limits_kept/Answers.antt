use mathlib.Core.Path.{◌≡◌, sym, ◌∙◌}
use native.Mathlib.Omega.{arith}
use borrow.Author.Rules.{rules}
use lib.ListN.{length}
use Rattle.judging.proofs.Rules.{limits_used}
use Rattle.judging.proofs.line_rules.limits_kept.Goals as goal

pub returns : goal.returns
returns c = let l = c.args.line in
    let places : length l.limits ≡ 64 = search rules in
    c.all_within.ensures ∙ sym (limits_used l (omega arith))
