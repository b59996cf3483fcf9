-- `hold_kept`: the block count, then the times of the blocks.
use Rattle.std.proofs.Common.{◌≡◌, ℕ, ◌≤◌, ◌^◌, min, length, take, Bool, true, false, leb, ltb, arith, sym, ◌∙◌}
use Rattle.std.proofs.lemmas.Bool.{eq-eqb, ne_eqb}
use Rattle.rules.specs.Count.{◌and◌, entry, every}
use Rattle.rules.specs.Hold.{Hold}
use Rattle.rules.specs.Refusal.{hold_rule}
use Rattle.sheet_judging.proofs.Parts.{most_in_part, ordered_in_part}
use Rattle.holds.specs.Values.{as_hold}
use Rattle.sheet_judging.proofs.hold_kept.Goals as goal

module _ (n : ℕ) (h : Hold) where
  other_count : (h.blocks ≡ n → ⊥) → false ≡ hold_rule n h
  unfolding hold_rule ◌and◌
  other_count e = rw (ne_eqb h.blocks n e)

  module _ (e : h.blocks ≡ n) (begins : n ≤ length h.begins) (ends : n ≤ length h.ends) {ordered : Bool}
      (f : ordered ≡ every (min (length (take n h.begins)) (length (take n h.ends))) (λ b. ltb (entry (take n h.begins) b) (entry (take n h.ends) b))) where
    in_rule : ordered ≡ every n (λ b. ltb (entry h.begins b) (entry h.ends b))
    in_rule = f ∙ ordered_in_part n h.begins begins h.ends ends

    unordered : ordered ≡ false → ordered ≡ hold_rule n h
    unfolding hold_rule ◌and◌
    unordered g = rw (eq-eqb h.blocks n e, sym in_rule ∙ g) g

    by_ends : ordered ≡ true → {r : Bool} → r ≡ every (length (take n h.ends)) (λ b. leb (entry (take n h.ends) b) (2 ^ 44)) → r ≡ hold_rule n h
    unfolding hold_rule ◌and◌
    by_ends g k = rw (eq-eqb h.blocks n e, sym in_rule ∙ g) (k ∙ most_in_part n h.ends ends (2 ^ 44))

pub returns-then-hold-blocks : goal.returns-then-hold-blocks
returns-then-hold-blocks c = other_count c.args.blocks (as_hold c.args.hold.now) c.if-hold-blocks.true

pub returns-then-all_ordered : goal.returns-then-all_ordered
returns-then-all_ordered c =
    by_ends c.args.blocks (as_hold c.args.hold.now) c.if-hold-blocks.false (omega arith) (omega arith) c.all_ordered.ensures c.if-all_ordered.true c.all_at_most.ensures

pub returns-else-all_ordered : goal.returns-else-all_ordered
returns-else-all_ordered c =
    unordered c.args.blocks (as_hold c.args.hold.now) c.if-hold-blocks.false (omega arith) (omega arith) c.all_ordered.ensures c.if-all_ordered.false
