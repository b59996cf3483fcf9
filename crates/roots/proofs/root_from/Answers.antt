use Rattle.std.proofs.Common.{◌≡◌, ◌≤◌, sym, ◌∙◌, mul-le-mul, arith, rules, eqb-true}
use Rattle.rules.specs.Time.{root}
use Rattle.rules.proofs.Root.{root_is, root_told}
use Rattle.roots.proofs.root_from.Goals as goal

pub overflow_mul-result : goal.overflow_mul-result
overflow_mul-result c = let h : c.from-number.result ≤ 65535 = search rules in omega (arith, mul-le-mul h h)

pub overflow_sub-result : goal.overflow_sub-result
overflow_sub-result c =
    let e : c.from-number.result ≡ c.args.guess = search rules in
    let right : c.args.guess ≡ (root c.args.w.0).number = eqb-true _ _ (sym c.is_root.ensures ∙ c.if-is_root.true) in
    rw (e, right) (root_is c.args.w.0).square

pub returns-then-is_root : goal.returns-then-is_root
returns-then-is_root c =
    let e : c.from-number.result ≡ c.args.guess = search rules in
    let right : c.args.guess ≡ (root c.args.w.0).number = eqb-true _ _ (sym c.is_root.ensures ∙ c.if-is_root.true) in
    (rw e (root_told c.args.w.0 right), search rules)
