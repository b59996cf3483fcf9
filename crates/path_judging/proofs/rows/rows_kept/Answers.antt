-- `rows_kept`: the parts of rule 16 in turn.
use Rattle.std.proofs.Common.{◌≡◌, ℕ, false, arith, sym, ◌∙◌}
use mathlib.Core.Bool.{false≢true}
use Rattle.std.proofs.lemmas.Bool.{le-leb, leb-true}
use Rattle.rules.specs.Path.{PlacedRows, rows_rule, Rule16Rows}
use Rattle.rules.proofs.Count.{fails, every-at, every_all}
use Rattle.rules.proofs.Path.{rule_16_rows}
use Rattle.path_judging.specs.Rows.{as_rows}
use Rattle.path_judging.proofs.Placed.{kept-rows, rows_tested, clear_rows}
use Rattle.path_judging.proofs.rows.rows_kept.Goals as goal
use Rattle.path_judging.proofs.rows.rows_kept.Goals.{then-rows-entries-via-then-rows-entries, then-rows-entries-via-else-rows-entries+then-rows-entries-2}
use Rattle.path_judging.proofs.rows.rows_kept.Goals.{then-all_at_most, else-all_at_most}

broken : (n : ℕ) (p : PlacedRows) → (Rule16Rows n p → ⊥) → false ≡ rows_rule n p
broken n p not = fails (rows_rule n p) (λ e. not ((rule_16_rows n p).0 e))

pub returns-then-rows-gt-MOST_ROWS : goal.returns-then-rows-gt-MOST_ROWS
returns-then-rows-gt-MOST_ROWS c = broken _ _ (λ r. omega (arith, c.if-rows-gt-MOST_ROWS.true, r.rows-most))

pub returns-then-rows-entries : goal.returns-then-rows-entries
returns-then-rows-entries c =
    elim c.then-rows-entries.branch [
      | then-rows-entries-via-then-rows-entries w ↦ broken c.args.n (as_rows c.args.rows) (λ r. w.if-rows-entries.true r.begins-rows)
      | then-rows-entries-via-else-rows-entries+then-rows-entries-2 w ↦ broken c.args.n (as_rows c.args.rows) (λ r. w.if-rows-entries-2.true r.ends-rows)
    ]

pub returns-then-times_kept : goal.returns-then-times_kept
returns-then-times_kept c =
    elim c.if-all_at_most.branch [
      | then-all_at_most w ↦ c.each_clear.ensures
          ∙ clear_rows c.args.n (as_rows c.args.rows) c.if-rows-entries.false c.if-rows-entries-2.false c.if-rows-gt-MOST_ROWS.false
          (λ k l. leb-true _ _ (every-at _ _ (sym c.all_at_most.ensures ∙ w.if-all_at_most.true) k l))
          (kept-rows c.args.n (as_rows c.args.rows) c.if-rows-entries.false c.if-rows-entries-2.false
          (sym w.times_kept.ensures ∙ sym w.value-is ∙ c.if-times_kept.true))
      | else-all_at_most w ↦ absurd (false≢true (sym w.if-all_at_most.false ∙ sym w.value-is ∙ c.if-times_kept.true))
    ]

pub returns-else-times_kept : goal.returns-else-times_kept
returns-else-times_kept c =
    elim c.if-all_at_most.branch [
      | then-all_at_most w ↦ c.if-times_kept.false
          ∙ broken c.args.n (as_rows c.args.rows) (λ r.
          false≢true (sym c.if-times_kept.false ∙ w.value-is ∙ w.times_kept.ensures ∙ rows_tested _ _ r.begins-rows r.ends-rows r.rows-kept))
      | else-all_at_most w ↦ c.if-times_kept.false
          ∙ broken c.args.n (as_rows c.args.rows) (λ r.
          false≢true (sym w.if-all_at_most.false ∙ c.all_at_most.ensures ∙ every_all _ _ (λ k l. le-leb _ _ (r.start-most k l))))
    ]
