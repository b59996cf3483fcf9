-- `check_placing`: the rules in checking order.
use Rattle.std.proofs.Common.{◌≡◌, ℕ, ◌≤◌, Bool, true, false, [], ◌∷◌, arith, refl, sym, ap, ◌∙◌}
use Rattle.std.specs.Prelude.{Result}
use Rattle.rules.specs.Count.{◌and◌}
use Rattle.rules.specs.Hold.{Hold}
use Rattle.rules.specs.Refusal.{rule, refusal}
use Rattle.rules.specs.Path.{PlacedRows, rows_rule, window_rule, new_hold_rules, placing_rules}
use Rattle.rules.proofs.Count.{and_false, within_means}
use Rattle.rules.proofs.Refusal.{refusal-none, head_broken, head_kept, head_accepted, append-refused, append-kept}
use Rattle.holds.specs.Values.{as_hold}
use Rattle.refusals.specs.declared.Refusal.{Refusal}
use Rattle.refusals.specs.declared.Refusal.TheVariants as refusals
use Rattle.refusals.specs.Number.{refused_by, kept_or}
use Rattle.refusals.proofs.Passing.{passed_on, numbered, last_kept, last_broken}
use Rattle.path_judging.specs.Rows.{as_rows}
use Rattle.path_judging.proofs.check_placing.Goals as goal
use Rattle.path_judging.proofs.check_placing.Goals.{then-window_kept, else-window_kept}

few_blocks : (h : Hold) → 0 ≡ refusal (new_hold_rules h) → h.blocks ≤ 32
few_blocks h z = (within_means 1 32 h.blocks (head_accepted 12 _ _ (omega arith) (sym z)).0).1

and_last : (b : Bool) {last : Bool} → last ≡ true → b ≡ (b and last)
unfolding ◌and◌
and_last true e = sym e
and_last false e = refl

-- past rules 12 and 14, by what the code holds of rule 16
by_16 :
    (h : Hold) (p : PlacedRows) (low high : ℕ) → 0 ≡ refusal (new_hold_rules h) → (kept : Bool) → kept ≡ (rows_rule h.blocks p and window_rule low high) →
    {r : Result Unit Refusal} → r ≡ kept_or refusals.Placing kept → refused_by r ≡ refusal (placing_rules h p low high)
by_16 h p low high z kept e f =
    go kept e f ∙ sym (append-kept (new_hold_rules h) _ (omega arith, (omega arith, tt)) (sym z))
  where
    go :
        (kept : Bool) {test : Bool} → kept ≡ test → {r : Result Unit Refusal} → r ≡ kept_or refusals.Placing kept → refused_by r ≡ refusal (rule 16 test ∷ [])
    go true e f = last_kept refusals.Placing f refl ∙ sym (head_kept 16 _ [] (sym e) ∙ refusal-none)
    go false e f = last_broken refusals.Placing f refl ∙ sym (head_broken 16 _ [] (sym e))

pub returns-in_err-check_new_hold : goal.returns-in_err-check_new_hold
returns-in_err-check_new_hold c =
    let h = as_hold c.args.hold.now in
    passed_on _ _ c.from_residual.ensures.1
    ∙ c.in_err-check_new_hold.ensures
    ∙ sym (append-refused (new_hold_rules h) _ (omega arith, (omega arith, tt)) (λ z. numbered _ (c.in_err-check_new_hold.ensures ∙ z)))

pub rows_kept-requires : goal.rows_kept-requires
rows_kept-requires c = few_blocks _ c.in_ok-check_new_hold.ensures

pub returns : goal.returns
returns c =
    let h : Hold = as_hold c.args.hold.now in
    let p : PlacedRows = as_rows c.args.rows in
    elim c.if-window_kept.branch [
      | then-window_kept w ↦ by_16 h p c.args.low c.args.high c.in_ok-check_new_hold.ensures _
          (w.unless-is ∙ w.rows_kept.ensures ∙ and_last (rows_rule h.blocks p) (sym c.window_kept.ensures ∙ w.if-window_kept.true)) c.unless.ensures
      | else-window_kept w ↦ by_16 h p c.args.low c.args.high c.in_ok-check_new_hold.ensures _
          (w.unless-is ∙ w.if-window_kept.false
          ∙ sym (ap (λ b. rows_rule h.blocks p and b) (sym c.window_kept.ensures ∙ w.if-window_kept.false) ∙ and_false (rows_rule h.blocks p))) c.unless.ensures
    ]
