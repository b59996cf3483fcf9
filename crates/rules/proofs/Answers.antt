-- The answers to the holds of a file, train by train. Assumes nothing.
use Prim.Native.Nat.{ℕ, suc, ◌+◌, ◌-◌, ◌<◌}
use mathlib.Core.List.{List, ◌∷◌}
use mathlib.Core.Path.{◌≡◌, sym, ap, ◌∙◌}
use native.Mathlib.Nat.{zero-add, add-zero}
use native.Mathlib.Omega.{arith}
use lib.ListN.{length, get_or}
use Rattle.rules.specs.File.{train_count}
use Rattle.rules.specs.Line.{line_of, train_of}
use Rattle.rules.specs.Hold.{hold_of}
use Rattle.rules.specs.Sheet.{Sheet, fresh}
use Rattle.rules.specs.Calls.{refused, added}
use Rattle.rules.specs.Demand.{answers}
use Rattle.rules.specs.Text.{holds_from, file_answers}

-- the answers from train k on are those to the holds from there, on this sheet
pub record Rest (file : List ℕ) (k : ℕ) (s : Sheet) : Type 0 where
  pub at : (i : ℕ) → get_or (file_answers file) (k + i) (refused 0) ≡ get_or (answers s (holds_from file k (train_count file - k))) i (refused 0)

module _ (file : List ℕ) where
  pub rest-first : Rest file 0 (fresh (length (line_of file).block_starts))
  unfolding file_answers
  rest-first = record { at = λ i. let e : train_count file - 0 ≡ train_count file = omega arith in rw (zero-add, e) }

  module _ {k : ℕ} {s : Sheet} (r : Rest file k s) (h : k < train_count file) where
    calls : holds_from file k (train_count file - k) ≡ hold_of (line_of file) (train_of file k) ∷ holds_from file (suc k) (train_count file - suc k)
    unfolding holds_from
    calls = let e : train_count file - k ≡ suc (train_count file - suc k) = omega arith in rw e

    pub rest-here : get_or (file_answers file) k (refused 0) ≡ (added s (hold_of (line_of file) (train_of file k))).answer
    unfolding answers
    rest-here = ap (λ (j : ℕ). get_or (file_answers file) j (refused 0)) (sym (add-zero k)) ∙ r.at 0 ∙ rw calls

    pub rest_next : Rest file (suc k) (added s (hold_of (line_of file) (train_of file k))).sheet
    unfolding answers
    rest_next =
        record {
          at = λ i.
              let e : suc k + i ≡ k + suc i = omega arith in
              ap (λ (j : ℕ). get_or (file_answers file) j (refused 0)) e ∙ r.at (suc i) ∙ rw calls;
        }
