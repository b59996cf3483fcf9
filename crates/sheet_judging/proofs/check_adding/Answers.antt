-- `check_adding`: the rules in checking order.
use Rattle.std.proofs.Common.{◌≡◌, Bool, true, false, [], ◌∷◌, refl, sym, ◌∙◌}
use Rattle.std.specs.Prelude.{Result}
use Rattle.rules.specs.Hold.{Hold}
use Rattle.rules.specs.Refusal.{rule, refusal, sheet_rule, room_rule, hold_rule, adding_rules}
use Rattle.rules.specs.Sheet.{Sheet}
use Rattle.rules.proofs.Refusal.{refusal-none, head_broken, head_kept}
use Rattle.rules.proofs.Sheet.{rule_12}
use Rattle.holds.specs.Values.{as_hold}
use Rattle.refusals.specs.declared.Refusal.{Refusal}
use Rattle.refusals.specs.declared.Refusal.TheVariants as refusals
use Rattle.refusals.specs.Number.{refused_by, kept_or}
use Rattle.refusals.proofs.Passing.{passed_on, refuses, passes, last_kept, last_broken}
use Rattle.sheet_judging.proofs.check_adding.Goals as goal

module _ (s : Sheet) (h : Hold) (first : sheet_rule s ≡ true) where
  past_12 : refusal (adding_rules s h) ≡ refusal (rule 13 (room_rule s.trains) ∷ rule 14 (hold_rule s.blocks h) ∷ [])
  past_12 = head_kept 12 _ _ first

  past_13 : room_rule s.trains ≡ true → refusal (adding_rules s h) ≡ refusal (rule 14 (hold_rule s.blocks h) ∷ [])
  past_13 e = past_12 ∙ head_kept 13 _ _ e

by_14 : (kept : Bool) {r : Result Unit Refusal} → r ≡ kept_or refusals.Hold kept → refused_by r ≡ refusal (rule 14 kept ∷ [])
by_14 true e = last_kept refusals.Hold e refl ∙ sym (head_kept 14 true [] refl ∙ refusal-none)
by_14 false e = last_broken refusals.Hold e refl ∙ sym (head_broken 14 false [] refl)

pub returns-in_err-unless : goal.returns-in_err-unless
returns-in_err-unless c =
    let (broken, own) = refuses _ _ _ c.in_err-unless.ensures in
    passed_on _ _ c.from_residual.ensures.1 ∙ own ∙ sym (head_broken 12 _ _ (sym c.sheet_kept.ensures ∙ broken))

pub returns-in_err-unless-2 : goal.returns-in_err-unless-2
returns-in_err-unless-2 c =
    let first = sym c.sheet_kept.ensures ∙ passes _ _ c.in_ok-unless.ensures in
    let (broken, own) = refuses _ _ _ c.in_err-unless-2.ensures in
    passed_on _ _ c.from_residual-in_err-unless-2.ensures.1
    ∙ own
    ∙ sym (past_12 _ (as_hold c.args.hold.now) first ∙ head_broken 13 _ _ broken)

pub hold_kept-requires : goal.hold_kept-requires
hold_kept-requires c = ((rule_12 _).0 (sym c.sheet_kept.ensures ∙ passes _ _ c.in_ok-unless.ensures)).blocks-most

pub returns : goal.returns
returns c =
    let first = sym c.sheet_kept.ensures ∙ passes _ _ c.in_ok-unless.ensures in
    let second = past_13 _ (as_hold c.args.hold.now) first (passes _ _ c.in_ok-unless-2.ensures) in
    rw (second, ← c.hold_kept.ensures) (by_14 c.hold_kept.result c.unless-3.ensures)
