-- `period`: rule 12, then the period and its percentage.
use Rattle.std.proofs.Common.{◌≡◌, ◌≤◌, ◌-◌, ◌∙◌, ℕ, false, length, take, min, sym, arith}
use mathlib.Core.Bool.{false≢true}
use Rattle.rules.specs.Admitted.{Rule12}
use Rattle.rules.specs.Count.{entry, greatest_below}
use Rattle.rules.specs.Period.{period, percentage, PeriodAnswer, period_answer}
use Rattle.rules.specs.Refusal.{sheet_rule}
use Rattle.rules.specs.Sheet.{Sheet}
use Rattle.rules.proofs.Period.{period-greatest, period-most, period-number, answer_told}
use Rattle.rules.proofs.Sheet.{rule_12}
use Rattle.refusals.proofs.Passing.{refuses, passes}
use Rattle.holds.specs.Values.{as_sheet}
use Rattle.sheet.proofs.InUse.{wait_in_use}
use Rattle.sheet.proofs.Refused.{passed_as}
use Rattle.sheet.proofs.period.Goals as goal

-- a sheet that breaks rule 12
refused_by : (s : Sheet) → sheet_rule s ≡ false → {n : ℕ} → n ≡ 12 → ◌≡◌ {A = PeriodAnswer} (record { number = n; period = 0; percent = 0 }) (period_answer s)
refused_by s broken e = rw e (sym ((period-number s).0 (λ r. false≢true (sym broken ∙ (rule_12 s).1 r))))

-- a sheet that keeps rule 12, with the period that the code found
module _ (s : Sheet) (kept : Rule12 s) (free : s.blocks ≤ length s.free) (first : s.blocks ≤ length s.first) {p : ℕ}
    (e : p ≡ greatest_below (min (length (take s.blocks s.free)) (length (take s.blocks s.first))) (λ b. entry (take s.blocks s.free) b - entry (take s.blocks s.first) b)) where
  found : p ≡ period s
  found = e ∙ wait_in_use s.blocks s.free s.first free first ∙ sym (period-greatest s kept)

  accepted_by : {x : ℕ} → x ≡ percentage p → ◌≡◌ {A = PeriodAnswer} (record { number = 0; period = p; percent = x }) (period_answer s)
  accepted_by f = rw (f, found) (sym ((period-number s).1 kept))

pub returns-in_err-unless : goal.returns-in_err-unless
returns-in_err-unless c =
    let (broken, own) = refuses _ _ _ c.in_err-unless.ensures in
    let t = answer_told (as_sheet c.args.sheet) (refused_by _ (sym c.sheet_kept.ensures ∙ broken) own) in
    rw (passed_as _ _ c.from_residual.ensures.1) (record { answer = t.0; pattern = t.1 })

pub shared_ref_as_front-longest_wait : goal.shared_ref_as_front-longest_wait
shared_ref_as_front-longest_wait c =
    let kept : Rule12 (as_sheet c.args.sheet) = (rule_12 _).0 (sym c.sheet_kept.ensures ∙ passes _ _ c.in_ok-unless.ensures) in
    kept.blocks-most

pub percentage-requires : goal.percentage-requires
percentage-requires c =
    let kept : Rule12 (as_sheet c.args.sheet) = (rule_12 _).0 (sym c.sheet_kept.ensures ∙ passes _ _ c.in_ok-unless.ensures) in
    rw (found _ kept (omega arith) (omega arith) c.longest_wait-period.ensures) (period-most _ kept)

pub returns : goal.returns
returns c =
    let kept : Rule12 (as_sheet c.args.sheet) = (rule_12 _).0 (sym c.sheet_kept.ensures ∙ passes _ _ c.in_ok-unless.ensures) in
    let t = answer_told (as_sheet c.args.sheet) (accepted_by _ kept (omega arith) (omega arith) c.longest_wait-period.ensures c.percentage.ensures) in
    record { answer = t.0; pattern = t.1 }
