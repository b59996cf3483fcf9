-- How long the sheet program's text can be: 2,390 bytes always suffice for it. Assumes nothing.
use Prim.Native.Nat.{ℕ, zero, suc, ◌+◌, ◌-◌, ◌*◌, ◌^◌, ◌≤◌, ◌<◌}
use mathlib.Core.List.{List, [], ◌∷◌}
use mathlib.Core.Path.{◌≡◌}
use native.Mathlib.Decide.{dec_lt}
use native.Mathlib.Omega.{arith}
use lib.ListN.{length, get_or, length-append}
use Rattle.rules.specs.File.{train_count}
use Rattle.rules.specs.Line.{line_of, train_of}
use Rattle.rules.specs.Hold.{Hold}
use Rattle.rules.specs.Sheet.{Sheet, least_start, block_named}
use Rattle.rules.specs.Calls.{Answer, refused, added, file_refusal}
use Rattle.rules.specs.Demand.{answers}
use Rattle.rules.specs.Text.{joined, start_of, block_of, holds_from, file_answers, running_time, line_of_train, refusal_text, sheet_text, program_text}
use Rattle.rules.proofs.Lengths.{decimal-most, header-length, line_length, refusal-length}
use Rattle.rules.proofs.Accepted.{file_most, line_sizes_lem, admitted}
use Rattle.rules.proofs.Sheet.{start-most, block_is, either_way, Sound, sound_added, sound_fresh}
use Rattle.rules.proofs.Text.{text_refused, text_accepted, program_long, program_whole}
use Rattle.rules.proofs.Time.{entry_times, arrival-most}

-- what an answer can be
record Bounded (a : Answer) : Type 0 where
  start : start_of a < 10 ^ 16
  block : block_of a < 10 ^ 2

bounded_refused : (n : ℕ) → Bounded (refused n)
bounded_refused n = record { start = omega arith; block = omega arith }

bounded_added : (s : Sheet) (h : Hold) → Sound s → Bounded (added s h).answer
bounded_added s h sound =
    either_way (λ a. Bounded a.answer) s h
    (λ e. record { start = omega (arith, start-most s sound.keeps h, sound.keeps.trains-most); block = block })
    (λ n e. bounded_refused n)
  where
    block : block_named s h (least_start s h) < 10 ^ 2
    block = go (dec_lt 0 (least_start s h))
      where
        go : Dec (0 < least_start s h) → block_named s h (least_start s h) < 10 ^ 2
        go (yes p) = let (b, l, e, binds, last) = (block_is s h).last p in omega (arith, sound.keeps.blocks-most)
        go (no z) = omega (arith, (block_is s h).at_zero (omega arith))

bounded_answers : (s : Sheet) (calls : List Hold) → Sound s → (k : ℕ) → Bounded (get_or (answers s calls) k (refused 0))
unfolding answers
bounded_answers s [] sound k = bounded_refused 0
bounded_answers s (h ∷ calls) sound zero = bounded_added s h sound
bounded_answers s (h ∷ calls) sound (suc k) = bounded_answers (added s h).sheet calls (sound_added s sound h) k

module _ (file : List ℕ) (ok : file_refusal file ≡ 0) where
  bounded_of_file : (k : ℕ) → Bounded (get_or (file_answers file) k (refused 0))
  unfolding file_answers
  bounded_of_file k = bounded_answers _ (holds_from file 0 (train_count file))
      (sound_fresh _ (line_sizes_lem file ok).blocks-least (line_sizes_lem file ok).blocks-most) k

  running_time-most : (k : ℕ) → k < train_count file → running_time file k < 10 ^ 13
  unfolding running_time
  running_time-most k h =
      let a = admitted file ok k h in
      let last : (line_of file).points - 1 < (line_of file).points = omega (arith, a.rule3_line.points-least) in
      rw (entry_times (line_of file) (train_of file k) ((line_of file).points - 1) last)
      (omega (arith, arrival-most (line_of file) (train_of file k) a ((line_of file).points - 1) last))

  line_most : (k : ℕ) → k < train_count file → length (line_of_train file k) ≤ 37
  unfolding line_of_train
  line_most k h =
      let f = bounded_of_file k in
      omega (
        arith,
        line_length (k + 1) (start_of (get_or (file_answers file) k (refused 0))) (running_time file k) (block_of (get_or (file_answers file) k (refused 0))),
        decimal-most 1 (k + 1) (omega (arith, (line_sizes_lem file ok).trains-most)),
        decimal-most 15 (start_of (get_or (file_answers file) k (refused 0))) f.start,
        decimal-most 12 (running_time file k) (running_time-most k h),
        decimal-most 1 (block_of (get_or (file_answers file) k (refused 0))) f.block,
      )

  lines_most : (n : ℕ) → n ≤ train_count file → length (joined (line_of_train file) n) ≤ 37 * n
  unfolding joined
  lines_most zero h = omega arith
  lines_most (suc n) h = rw length-append (omega (arith, lines_most n (omega arith), line_most n (omega arith)))

  -- the header and 64 lines of at most 37 bytes
  pub text_most : length (sheet_text file) ≤ 2390
  text_most =
      rw (text_accepted file ok, length-append, header-length)
      (omega (arith, lines_most (train_count file) (omega arith), (line_sizes_lem file ok).trains-most))

-- a refusal's text is shorter
pub refusal-fits : (n : ℕ) → n ≤ 99 → length (refusal_text n) ≤ 2390
refusal-fits n h = omega (arith, refusal-length n, decimal-most 1 n (omega arith))

-- and so is whatever the sheet program prints
pub program_most : (input : List ℕ) → length (program_text input) ≤ 2390
program_most input = go (dec_lt 16384 (length input)) (dec_lt 0 (file_refusal input))
  where
    go : Dec (16384 < length input) → Dec (0 < file_refusal input) → length (program_text input) ≤ 2390
    go (yes long) file = rw (program_long input long) (refusal-fits 2 (omega arith))
    go (no short) (yes broken) =
        rw (program_whole input (omega arith), text_refused input (λ z. omega arith)) (refusal-fits (file_refusal input) (omega (arith, file_most input)))
    go (no short) (no kept) = rw (program_whole input (omega arith)) (text_most input (omega arith))
