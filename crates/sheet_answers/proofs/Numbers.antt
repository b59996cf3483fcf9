-- In an answer by number 0 means accepted: no refusal of the adding or headway call has the number 0. Assumes nothing.
use Prim.Native.Nat.{ℕ, ◌≤◌}
use mathlib.Core.Bool.{Bool, true, false, cond}
use mathlib.Core.List.{[], ◌∷◌}
use mathlib.Core.Option.{Option, none, some}
use mathlib.Core.Path.{◌≡◌, refl, ap}
use native.Mathlib.Omega.{arith}
use lib.Dec.{eqb}
use borrow.Author.Tests.{eqb-false}
use Rattle.rules.specs.Hold.{Hold}
use Rattle.rules.specs.Sheet.{Sheet}
use Rattle.rules.specs.Refusal.{rule, first_broken, sheet_rule, room_rule, hold_rule}
use Rattle.rules.specs.Calls.{Answer, accepted, refused, Addition, added, opened, HeadwayAnswer, headway_of, no_headway, pass_on, start_or_refusal, headway}
use Rattle.rules.proofs.Sheet.{either_way}
use Rattle.sheet_answers.specs.Answers.{added_by_number, headway_by_number}

-- a refusal has a number of 12 or more
Numbered : Answer → Type 0
Numbered (accepted start block) = Unit {0}
Numbered (refused n) = 12 ≤ n

number_or12 : Option ℕ → ℕ
number_or12 none = 12
number_or12 (some n) = n

least-number : (a b c : Bool) → 12 ≤ number_or12 (first_broken (rule 12 a ∷ rule 13 b ∷ rule 14 c ∷ []))
unfolding first_broken number_or12
least-number false b c = omega arith
least-number true false c = omega arith
least-number true true false = omega arith
least-number true true true = omega arith

numbered : (s : Sheet) (h : Hold) → Numbered (added s h).answer
unfolding Numbered number_or12
numbered s h =
    either_way (λ (a : Addition). Numbered a.answer) s h (λ e. tt)
    (λ n e. rw (ap number_or12 e) at (least-number (sheet_rule s) (room_rule s.trains) (hold_rule s.blocks h)))

pub added-accepted :
    (s : Sheet) (h : Hold) → (added_by_number (added s h).answer).number ≡ 0 →
    (added s h).answer ≡ accepted (added_by_number (added s h).answer).start (added_by_number (added s h).answer).block
unfolding Numbered
added-accepted s h = go (added s h).answer (numbered s h)
  where
    go : (a : Answer) → Numbered a → (added_by_number a).number ≡ 0 → a ≡ accepted (added_by_number a).start (added_by_number a).block
    go (accepted start block) m z = refl
    go (refused n) m z = absurd (omega (arith, m, z))

pub headway-accepted : (first second : Hold) → (headway_by_number (headway first second)).number ≡ 0 → headway first second ≡
    headway_of (headway_by_number (headway first second)).headway
unfolding Numbered headway
headway-accepted first second =
    let opening = opened first.blocks in
    let one = added opening.sheet first in
    go opening.number (eqb opening.number 0) refl one.answer (numbered opening.sheet first) (added one.sheet second).answer
    (numbered one.sheet second)
  where
    Told : HeadwayAnswer → Type 0
    Told r = (headway_by_number r).number ≡ 0 → r ≡ headway_of (headway_by_number r).headway

    go : (n : ℕ) (b : Bool) → eqb n 0 ≡ b → (a : Answer) → Numbered a → (a' : Answer) → Numbered a' → Told (cond b (pass_on a (start_or_refusal a')) (no_headway n))
    go n true e (accepted start block) m (accepted start' block') m' z = refl
    go n true e (accepted start block) m (refused n') m' z = absurd (omega (arith, m', z))
    go n true e (refused n') m a' m' z = absurd (omega (arith, m, z))
    go n false e a m a' m' z = absurd (eqb-false n 0 e z)
