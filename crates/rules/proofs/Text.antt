-- What the sheet program prints for every input, and that the holds of an accepted file are never refused. Assumes nothing.
use Prim.Native.Nat.{ℕ, zero, suc, ◌+◌, ◌≤◌, ◌<◌}
use mathlib.Core.List.{List, [], ◌∷◌, ◌++◌}
use mathlib.Core.Option.{none}
use mathlib.Core.Path.{◌≡◌, refl, ap, ◌∙◌}
use native.Mathlib.Nat.{add-zero, zero-add}
use native.Mathlib.Omega.{arith}
use lib.ListN.{length, get_or, take, length-take}
use borrow.Author.Tests.{le-leb, lt-leb, eq-eqb, ne_eqb}
use Rattle.rules.specs.File.{set_up_time, release_time, train_count}
use Rattle.rules.specs.Line.{line_of, train_of}
use Rattle.rules.specs.Hold.{empty_hold, hold_of}
use Rattle.rules.specs.Sheet.{fresh}
use Rattle.rules.specs.Calls.{Answer, accepted, refused, file_refusal}
use Rattle.rules.specs.Demand.{starts, refusal_of, LeastStarts}
use Rattle.rules.specs.Text.{header, refusal_text, joined, holds_from, file_answers, line_of_train, sheet_text, program_text}
use Rattle.rules.proofs.Accepted.{line_sizes_lem}
use Rattle.rules.proofs.Hold.{file_hold}
use Rattle.rules.proofs.Demand.{third_demand}

-- ---- the holds of a file

pub length_holds : (file : List ℕ) (k n : ℕ) → length (holds_from file k n) ≡ n
unfolding holds_from
length_holds file k zero = refl
length_holds file k (suc n) = ap suc (length_holds file (suc k) n)

pub hold_at : (file : List ℕ) (k n i : ℕ) → i < n → get_or (holds_from file k n) i empty_hold ≡ hold_of (line_of file) (train_of file (k + i))
unfolding holds_from
hold_at file k zero i h = absurd (omega arith)
hold_at file k (suc n) zero h = rw add-zero
hold_at file k (suc n) (suc i) h =
    hold_at file (suc k) n i (omega arith) ∙ ap (λ (j : ℕ). hold_of (line_of file) (train_of file j)) (omega arith)

starts_few : (got : List Answer) → length (starts got) ≤ length got
unfolding starts
starts_few [] = omega arith
starts_few (accepted start block ∷ got) = omega (arith, starts_few got)
starts_few (refused n ∷ got) = omega (arith, starts_few got)

-- each is accepted
pub file_answers_lem :
    (file : List ℕ) → set_up_time file < 65536 → release_time file < 65536 → file_refusal file ≡ 0 → (k : ℕ) → k < train_count file →
    refusal_of (get_or (file_answers file) k (refused 0)) ≡ none
unfolding file_answers
file_answers_lem file s r ok k h =
    let sizes = line_sizes_lem file ok in
    let blocks : ℕ = length (line_of file).block_starts in
    let calls = holds_from file 0 (train_count file) in
    let d : LeastStarts blocks (fresh blocks) calls = third_demand blocks sizes.blocks-least sizes.blocks-most calls in
    let at : get_or calls k empty_hold ≡ hold_of (line_of file) (train_of file k) = rw zero-add at (hold_at file 0 (train_count file) k h) in
    let room : length (starts (take k (file_answers file))) ≡ 64 → ⊥ =
    λ e. omega (arith, starts_few (take k (file_answers file)), length-take k (file_answers file), sizes.trains-most) in
    ((d.numbers k (rw length_holds h)).1 room).1 (rw at (file_hold file s r ok k h))

-- ---- the text

module _ (file : List ℕ) where
  pub text_refused : (file_refusal file ≡ 0 → ⊥) → sheet_text file ≡ refusal_text (file_refusal file)
  unfolding sheet_text
  text_refused h = rw (ne_eqb (file_refusal file) 0 h)

  pub text_accepted : file_refusal file ≡ 0 → sheet_text file ≡ header ++ joined (line_of_train file) (train_count file)
  unfolding sheet_text
  text_accepted z = rw (eq-eqb (file_refusal file) 0 z)

  pub program_long : 16384 < length file → program_text file ≡ refusal_text 2
  unfolding program_text
  program_long h = rw (lt-leb (length file) 16384 h)

  pub program_whole : length file ≤ 16384 → program_text file ≡ sheet_text file
  unfolding program_text
  program_whole h = rw (le-leb (length file) 16384 h)
