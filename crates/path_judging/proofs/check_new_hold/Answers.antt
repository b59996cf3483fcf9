-- `check_new_hold`: a fresh sheet keeps 12 by its block count alone, and 13.
use Prim.Native.Nat.{ℕ}
use mathlib.Core.List.{[], ◌∷◌}
use mathlib.Core.Path.{◌≡◌, refl, sym, ◌∙◌}
use Rattle.rules.specs.Hold.{Hold}
use Rattle.rules.specs.Sheet.{fresh}
use Rattle.rules.specs.Refusal.{rule, refusal, count_rule, sheet_rule, room_rule, hold_rule, adding_rules}
use Rattle.rules.specs.Path.{new_hold_rules}
use Rattle.rules.proofs.Count.{same_test, within_means, within_holds}
use Rattle.rules.proofs.Refusal.{refusal_cons, head_kept}
use Rattle.rules.proofs.Sheet.{rule_12, sound_fresh}
use Rattle.path_judging.proofs.check_new_hold.Goals as goal

-- a fresh sheet keeps 12 by its block count alone
fresh-rule : (n : ℕ) → sheet_rule (fresh n) ≡ count_rule n
unfolding fresh
fresh-rule n =
    same_test (sheet_rule (fresh n)) (count_rule n) (λ e. let r = (rule_12 (fresh n)).0 e in within_holds 1 32 n r.blocks-least r.blocks-most)
    (λ e. let (low, high) = within_means 1 32 n e in (rule_12 (fresh n)).1 (sound_fresh n low high).keeps)

as_added : (h : Hold) → refusal (adding_rules (fresh h.blocks) h) ≡ refusal (new_hold_rules h)
unfolding fresh
as_added h =
    refusal_cons 12 _ _
    ∙ rw (fresh-rule h.blocks, head_kept 13 (room_rule 0) (rule 14 (hold_rule h.blocks h) ∷ []) refl)
    (sym (refusal_cons 12 (count_rule h.blocks) (rule 14 (hold_rule h.blocks h) ∷ [])))

pub returns : goal.returns
unfolding fresh
returns c = c.check_adding.ensures ∙ as_added _
