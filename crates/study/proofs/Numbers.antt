-- The columns' call answers by the paper's list and 11: its number, and what it leaves in the lent slices. Assumes nothing.
use Prim.Native.Nat.{ℕ, ◌≤◌, ◌<◌, min}
use mathlib.Core.Bool.{Bool, true, false}
use mathlib.Core.List.{List, [], ◌∷◌, ◌++◌}
use mathlib.Core.Logic.{◌↔◌}
use mathlib.Core.Path.{◌≡◌, refl, sym, ◌∙◌}
use native.Mathlib.Omega.{arith}
use lib.Dec.{leb}
use lib.ListN.{length}
use borrow.Author.Tests.{leb-true, le-leb}
use Rattle.refusals.specs.declared.Refusal.{Refusal}
use Rattle.refusals.specs.Number.{number}
use Rattle.refusals.proofs.Passing.{numbered}
use Rattle.rules.specs.Calls.{written, lent_after, file_refusal}
use Rattle.rules.specs.Count.{◌and◌, or_zero}
use Rattle.rules.specs.File.{train_count}
use Rattle.rules.specs.Numbers.{AnswersBy}
use Rattle.rules.specs.Refusal.{rule, refusal, file_rules}
use Rattle.rules.proofs.Accepted.{file_first, file_passed}
use Rattle.rules.proofs.Calls.{lent_written, lent_kept}
use Rattle.rules.proofs.Numbers.{Judges, judges_none, judges_first, judges_file, both_kept, answers_by}
use Rattle.rules.proofs.Refusal.{refusal-none, head_broken, head_kept}
use Rattle.study.specs.Rows.{starts_of, runs_of, blocks_of, rows_refusal, rows_checks}

module _ (file : List ℕ) (starts runs blocks : ℕ) where
  -- each slice has a place for every train
  abbrev long : Bool
  long = leb (train_count file) starts and leb (train_count file) runs and leb (train_count file) blocks

  tied : (long ≡ true) ↔ ((train_count file ≤ starts) × (train_count file ≤ runs) × (train_count file ≤ blocks))
  tied =
      let t = both_kept (leb-true (train_count file) starts, le-leb (train_count file) starts)
      (both_kept (leb-true (train_count file) runs, le-leb (train_count file) runs) (leb-true (train_count file) blocks, le-leb (train_count file) blocks)) in
      (λ e. let h = t.0 e in (h.0, h.1.0, h.1.1), λ h. t.1 (h.0, (h.1, h.2)))

  pub judges_rows : Judges (file_rules file ++ (rule 11 long ∷ [])) (rows_checks file starts runs blocks)
  judges_rows = judges_file file (judges_first tied judges_none)

  -- a slice, and the column that an accepted file writes into it
  pub slice_number :
      (column slice : List ℕ) →
      AnswersBy (rows_checks file starts runs blocks) (λ n. slice) (written slice 0 column) (lent_after (rows_refusal file starts runs blocks) column slice)
  unfolding refusal rows_refusal lent_after
  slice_number column slice = answers_by (λ o. lent_after (or_zero o) column slice) judges_rows

  -- ---- the number that the code holds

  pub rows-refused : {n : ℕ} → n ≡ file_refusal file → (n ≡ 0 → ⊥) → n ≡ rows_refusal file starts runs blocks
  unfolding rows_refusal
  rows-refused e h = e ∙ sym (file_first file (rule 11 long ∷ []) (λ z. h (e ∙ z)))

  module _ (ok : file_refusal file ≡ 0) where
    by_length : rows_refusal file starts runs blocks ≡ refusal (rule 11 long ∷ [])
    unfolding rows_refusal
    by_length = file_passed file (rule 11 long ∷ []) ok

    pub rows_short : min (min starts runs) blocks < train_count file → 11 ≡ rows_refusal file starts runs blocks
    rows_short h = sym (by_length ∙ head_broken 11 long [] (go long refl))
      where
        go : (b : Bool) → long ≡ b → b ≡ false
        go true e = let all = tied.0 e in absurd (omega arith)
        go false e = refl

    pub rows_long : train_count file ≤ min (min starts runs) blocks → 0 ≡ rows_refusal file starts runs blocks
    rows_long h = sym (by_length ∙ head_kept 11 long [] (tied.1 (omega arith, omega arith, omega arith)) ∙ refusal-none)

-- ---- what the call then leaves

module _ (file starts runs blocks : List ℕ) where
  abbrev told : ℕ
  told = rows_refusal file (length starts) (length runs) (length blocks)

  -- a refusal leaves the slices
  pub left :
      (r : Refusal) → number r ≡ told →
      (starts ≡ lent_after told (starts_of file) starts) × (runs ≡ lent_after told (runs_of file) runs) × (blocks ≡ lent_after told (blocks_of file) blocks)
  left r e =
      let h = numbered r in
      rw (← e) (sym (lent_kept (starts_of file) starts h), sym (lent_kept (runs_of file) runs h), sym (lent_kept (blocks_of file) blocks h))

  pub accepted_with :
      {starts' runs' blocks' : List ℕ} → 0 ≡ told → starts' ≡ written starts 0 (starts_of file) → runs' ≡ written runs 0 (runs_of file) →
      blocks' ≡ written blocks 0 (blocks_of file) →
      (starts' ≡ lent_after told (starts_of file) starts) × (runs' ≡ lent_after told (runs_of file) runs) × (blocks' ≡ lent_after told (blocks_of file) blocks)
  accepted_with e s r b =
      rw (← e) (s ∙ sym (lent_written (starts_of file) starts), r ∙ sym (lent_written (runs_of file) runs), b ∙ sym (lent_written (blocks_of file) blocks))
