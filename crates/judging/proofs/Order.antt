-- Rules that are tested in turn by `?` answer by the first that is broken. Assumes nothing.
use Rattle.std.proofs.Common.{◌≡◌, Bool, true, false, List, [], ◌∷◌, refl, sym, ◌∙◌}
use Rattle.std.specs.Prelude.{Result, Ok, Err}
use Rattle.std.specs.Result.{IsErrAnd}
use Rattle.rules.specs.Refusal.{Rule, rule, refusal}
use Rattle.rules.proofs.Refusal.{refusal-none, head_broken, head_kept}
use Rattle.refusals.specs.declared.Refusal.{Refusal}
use Rattle.refusals.specs.Number.{number, refused_by, kept_or}
use Rattle.refusals.proofs.Passing.{passed_on, refuses, passes, last_kept, last_broken}

-- r is what a function answers, own the refusal of rule x, and `kept` its test, which the code holds
module _ (x : Refusal) {kept b : Bool} (rs : List Rule) (e : kept ≡ b) where
  pub broken_here : {A : Type 0} (r : Result A Refusal) (own : Refusal) → IsErrAnd r (λ z. z ≡ own) → Err own ≡ kept_or x kept →
      refused_by r ≡ refusal (rule (number x) b ∷ rs)
  broken_here r own h f =
      let (broken, same) = refuses x own kept f in
      passed_on r own h ∙ same ∙ sym (head_broken (number x) b rs (sym e ∙ broken))

  pub kept_here : Ok tt ≡ kept_or x kept → (r : Result Unit Refusal) → refused_by r ≡ refusal rs → refused_by r ≡ refusal (rule (number x) b ∷ rs)
  kept_here f r g = g ∙ sym (head_kept (number x) b rs (sym e ∙ passes x kept f))

pub tested_last : (x : Refusal) {kept b : Bool} → kept ≡ b → (r : Result Unit Refusal) → r ≡ kept_or x kept → refused_by r ≡ refusal (rule (number x) b ∷ [])
tested_last x {b = true} e r f = last_kept x f e ∙ sym (head_kept (number x) true [] refl ∙ refusal-none)
tested_last x {b = false} e r f = last_broken x f e ∙ sym (head_broken (number x) false [] refl)
