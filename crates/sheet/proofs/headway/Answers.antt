-- `headway`: the opening, then each addition's answer by its case.
use Rattle.std.proofs.Common.{◌≡◌, ◌≢◌, ℕ, refl, ap}
use borrow.Author.Tests.{eq-eqb, ne_eqb}
use Rattle.rules.specs.Calls.{Opening, Addition, accepted, refused, headway_of, no_headway, opened, added, headway}
use Rattle.rules.specs.Hold.{Hold}
use Rattle.refusals.proofs.Passing.{numbered}
use Rattle.sheet.specs.Values.{as_answer}
use Rattle.sheet.proofs.Refused.{passed_as}
use Rattle.sheet.proofs.headway.Goals as goal

-- the first refusal met, and the second train's start
module _ (first second : Hold) {opening : Opening} (e : opening ≡ opened first.blocks) where
  not_opened : opening.number ≢ 0 → no_headway opening.number ≡ headway first second
  unfolding headway
  not_opened h = rw (← e, ne_eqb opening.number 0 h)

  module _ (z : opening.number ≡ 0) {one : Addition} (f : one ≡ added opening.sheet first) where
    first-refused : {n : ℕ} → one.answer ≡ refused n → no_headway n ≡ headway first second
    unfolding headway
    first-refused h = rw (← e, eq-eqb opening.number 0 z, ← f, h)

    module _ {start block : ℕ} (g : one.answer ≡ accepted start block) {two : Addition} (h : two ≡ added one.sheet second) where
      second_refused : {n : ℕ} → two.answer ≡ refused n → no_headway n ≡ headway first second
      unfolding headway
      second_refused k = rw (← e, eq-eqb opening.number 0 z, ← f, g, ← h, k)

      second_start : {start block : ℕ} → two.answer ≡ accepted start block → headway_of start ≡ headway first second
      unfolding headway
      second_start k = rw (← e, eq-eqb opening.number 0 z, ← f, g, ← h, k)

pub returns-in_err-sheet : goal.returns-in_err-sheet
returns-in_err-sheet c = rw (passed_as _ _ c.from_residual.ensures.1) (not_opened _ _ c.in_err-sheet.ensures.sheet (numbered _))

pub returns-in_default : goal.returns-in_default
returns-in_default c =
    let mapped = rw c.in_default.is at c.map.ensures.cases in
    rw mapped (first-refused _ _ c.in_ok-sheet.ensures.sheet refl c.with_hold-one.ensures (ap as_answer c.in_default.is))

pub returns-in_default-later : goal.returns-in_default-later
returns-in_default-later c =
    let mapped = rw c.in_default-later.is at c.map-in_default-later.ensures.cases in
    rw mapped
    (second_refused _ _ c.in_ok-sheet.ensures.sheet refl c.with_hold-one.ensures (ap as_answer c.in-Ok.is) c.with_hold-two.ensures
    (ap as_answer c.in_default-later.is))

pub returns : goal.returns
returns c = second_start _ _ c.in_ok-sheet.ensures.sheet refl c.with_hold-one.ensures (ap as_answer c.in-Ok.is) c.with_hold-two.ensures (ap as_answer c.in-Ok-later.is)
