-- `sheet_kept`: the four parts of rule 12 in turn.
use Rattle.std.proofs.Common.{◌≡◌, ◌≤◌, ◌<◌, ◌*◌, ◌^◌, min, length, take, Bool, true, false, leb, ltb, arith, sym, ◌∙◌}
use Rattle.std.proofs.lemmas.Bool.{le-leb, lt-leb, eq-eqb, ne_eqb}
use Rattle.rules.specs.Count.{◌and◌, entry, every}
use Rattle.rules.specs.Refusal.{count_rule, sheet_rule}
use Rattle.rules.specs.Sheet.{Sheet}
use Rattle.rules.proofs.Count.{within_means}
use Rattle.sheet_judging.proofs.Parts.{most_in_part, ordered_in_part}
use Rattle.holds.specs.Values.{as_sheet}
use Rattle.sheet_judging.proofs.sheet_kept.Goals as goal
use Rattle.sheet_judging.proofs.sheet_kept.Goals.{then-not-count_kept-via-then-not-count_kept, then-not-count_kept-via-else-not-count_kept+then-sheet-gt-MOST_TRAINS}

module _ (s : Sheet) where
  wrong_count : count_rule s.blocks ≡ false → false ≡ sheet_rule s
  unfolding sheet_rule ◌and◌
  wrong_count e = rw e

  module _ (e : count_rule s.blocks ≡ true) where
    too_many : 64 < s.trains → false ≡ sheet_rule s
    unfolding sheet_rule ◌and◌
    too_many l = rw (e, lt-leb s.trains 64 l)

    module _ (l : s.trains ≤ 64) (places : 32 ≤ length s.free) {early : Bool}
        (f : early ≡ every (length (take s.blocks s.free)) (λ b. leb (entry (take s.blocks s.free) b) (s.trains * 2 ^ 44))) where
      few : s.blocks ≤ length s.free
      few = omega (arith, within_means 1 32 s.blocks e)

      too_late : early ≡ false → early ≡ sheet_rule s
      unfolding sheet_rule ◌and◌
      too_late g = rw (e, le-leb s.trains 64 l, sym (most_in_part s.blocks s.free few (s.trains * 2 ^ 44)) ∙ sym f ∙ g) g

      module _ (g : early ≡ true) where
        no_train_lem : s.trains ≡ 0 → true ≡ sheet_rule s
        unfolding sheet_rule ◌and◌
        no_train_lem z =
            rw (e, le-leb s.trains 64 l, sym (most_in_part s.blocks s.free few (s.trains * 2 ^ 44)) ∙ sym f ∙ g, eq-eqb s.trains 0 z)

        by_first :
            (s.trains ≡ 0 → ⊥) → 32 ≤ length s.first → {r : Bool} →
            r ≡ every (min (length (take s.blocks s.first)) (length (take s.blocks s.free))) (λ b.
            ltb (entry (take s.blocks s.first) b) (entry (take s.blocks s.free) b)) →
            r ≡ sheet_rule s
        unfolding sheet_rule ◌and◌
        by_first h more k =
            rw (e, le-leb s.trains 64 l, sym (most_in_part s.blocks s.free few (s.trains * 2 ^ 44)) ∙ sym f ∙ g, ne_eqb s.trains 0 h)
            (k ∙ ordered_in_part s.blocks s.first (omega (arith, within_means 1 32 s.blocks e)) s.free few)

pub returns-then-not-count_kept : goal.returns-then-not-count_kept
returns-then-not-count_kept c =
    elim c.then-not-count_kept.branch [
      | then-not-count_kept-via-then-not-count_kept w ↦ wrong_count _ (sym c.count_kept.ensures ∙ w.if-not-count_kept.true)
      | then-not-count_kept-via-else-not-count_kept+then-sheet-gt-MOST_TRAINS w ↦
          too_many _ (sym c.count_kept.ensures ∙ w.if-not-count_kept.false) w.if-sheet-gt-MOST_TRAINS.true
    ]

pub shared_ref_as_front-all_at_most : goal.shared_ref_as_front-all_at_most
shared_ref_as_front-all_at_most c = (within_means 1 32 _ (sym c.count_kept.ensures ∙ c.if-not-count_kept.false)).1

pub returns-then-sheet-eq0 : goal.returns-then-sheet-eq0
returns-then-sheet-eq0 c =
    rw (eq-eqb c.args.sheet.now.trains 0 c.if-sheet-eq0.true)
    (no_train_lem _ (sym c.count_kept.ensures ∙ c.if-not-count_kept.false) c.if-sheet-gt-MOST_TRAINS.false (omega arith) c.all_at_most.ensures
    c.if-all_at_most.true c.if-sheet-eq0.true)

pub returns-else-sheet-eq0 : goal.returns-else-sheet-eq0
returns-else-sheet-eq0 c =
    by_first (as_sheet c.args.sheet.now) (sym c.count_kept.ensures ∙ c.if-not-count_kept.false) c.if-sheet-gt-MOST_TRAINS.false (omega arith) c.all_at_most.ensures
    c.if-all_at_most.true c.if-sheet-eq0.false (omega arith) c.all_ordered.ensures

pub returns-else-all_at_most : goal.returns-else-all_at_most
returns-else-all_at_most c =
    too_late _ (sym c.count_kept.ensures ∙ c.if-not-count_kept.false) c.if-sheet-gt-MOST_TRAINS.false (omega arith) c.all_at_most.ensures
    c.if-all_at_most.false
