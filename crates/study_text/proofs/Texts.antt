-- The text of a whole file, and what the sheet program prints. Assumes nothing.
use Prim.Native.Nat.{ℕ, ◌≤◌, ◌<◌}
use mathlib.Core.Bool.{true}
use mathlib.Core.List.{List, []}
use mathlib.Core.Path.{◌≡◌, refl, sym, ap, ◌∙◌}
use native.Mathlib.Decide.{dec_lt}
use native.Mathlib.Nat.{zero-add}
use native.Mathlib.Omega.{arith}
use lib.ListN.{length, take, replicate, length-replicate, get_or-replicate, get_or-eq_default}
use lib.Seq.{ext_get_or}
use borrow.Author.Tests.{le-leb}
use Rattle.refusals.specs.declared.Refusal.{Refusal}
use Rattle.refusals.specs.Number.{number}
use Rattle.refusals.proofs.Passing.{numbered}
use Rattle.rules.specs.Calls.{written, lent_after, file_refusal}
use Rattle.rules.specs.Count.{entry, row, padded}
use Rattle.rules.specs.File.{train_count}
use Rattle.rules.specs.Meaning.{IsWritten}
use Rattle.rules.specs.Text.{refusal_text, line_of_train, running_time, sheet_text, program_text}
use Rattle.rules.proofs.Accepted.{file_first, file_passed, line_sizes_lem}
use Rattle.rules.proofs.Calls.{written_is, lent_written, lent_kept}
use Rattle.rules.proofs.Count.{length-row, entry_row}
use Rattle.rules.proofs.Refusal.{refusal-none, head_kept}
use Rattle.rules.proofs.Room.{text_most}
use Rattle.rules.proofs.Text.{text_accepted, text_refused, program_long, program_whole}
use Rattle.rules.proofs.Written.{written_long, row_taken}
use Rattle.text.specs.Text.{line_at, rows_text, equal_counts, room_refusal, sheet_refusal}
use Rattle.text.proofs.Rows.{counts_equal, rows-joined, counts_kept}
use Rattle.study.specs.Rows.{start_at, block_at, starts_of, runs_of, blocks_of, rows_refusal, LeastForFile}
use Rattle.study.proofs.Numbers.{rows-refused, rows_long}
use Rattle.study_text.specs.Study.{study_refusal}

-- ---- the sheet of a file

module _ (file : List ℕ) (bytes : ℕ) where
  pub study_refused : {n : ℕ} → n ≡ file_refusal file → (n ≡ 0 → ⊥) → n ≡ study_refusal file bytes
  unfolding study_refusal
  study_refused e h = e ∙ sym (file_first file _ (λ z. h (e ∙ z)))

  by_room : file_refusal file ≡ 0 → study_refusal file bytes ≡ room_refusal (sheet_text file) bytes
  unfolding study_refusal room_refusal
  by_room z = file_passed file _ z

-- slices of 64 places are never too short
pub in_64 : (file : List ℕ) {n : ℕ} → n ≡ rows_refusal file 64 64 64 → n ≡ file_refusal file
in_64 file {n} e = go (dec_lt 0 (file_refusal file))
  where
    go : Dec (0 < file_refusal file) → n ≡ file_refusal file
    go (yes p) = e ∙ sym (rows-refused file 64 64 64 refl (λ z. omega arith))
    go (no p) =
        let ok : file_refusal file ≡ 0 = omega arith in
        e ∙ sym (rows_long file 64 64 64 ok (omega (arith, (line_sizes_lem file ok).trains-most))) ∙ sym ok

abbrev zeros : List ℕ
zeros = replicate 64 0

module _ (file : List ℕ) (ok : file_refusal file ≡ 0) where
  abbrev T : ℕ
  T = train_count file

  few : T ≤ 64
  few = (line_sizes_lem file ok).trains-most

  rows_text_lem : rows_text (starts_of file) (runs_of file) (blocks_of file) ≡ sheet_text file
  unfolding line_at line_of_train
  rows_text_lem =
      rows-joined (starts_of file) (runs_of file) (blocks_of file) (line_of_train file)
      (λ k h.
      let m : k < T = rw length-row at h in
      rw (entry_row (start_at file) T k m, entry_row (running_time file) T k m, entry_row (block_at file) T k m))
      ∙ rw length-row (sym (text_accepted file ok))

  counts : equal_counts (length (starts_of file)) (length (runs_of file)) (length (blocks_of file)) ≡ true
  counts = counts_equal _ _ _ (record { most = rw length-row few; runs_each = simp length-row; blocks-each = simp length-row })

  sheet-number :
      (bytes : ℕ) →
      sheet_refusal (starts_of file) (runs_of file) (blocks_of file) bytes ≡ study_refusal file bytes
  sheet-number bytes =
      counts_kept _ _ _ bytes counts ∙ ap (λ (text : List ℕ). room_refusal text bytes) rows_text_lem ∙ sym (by_room file bytes ok)

  -- the columns as the call leaves them in 64 places
  module _ {starts runs blocks : List ℕ} {n t : ℕ} (z : n ≡ 0) (q : t ≡ T)
      (s : starts ≡ lent_after n (starts_of file) zeros) (r : runs ≡ lent_after n (runs_of file) zeros) (b : blocks ≡ lent_after n (blocks_of file) zeros) where
    columns : (take t starts ≡ starts_of file) × (take t runs ≡ runs_of file) × (take t blocks ≡ blocks_of file)
    columns = rw q (taken (start_at file) s, taken (running_time file) r, taken (block_at file) b)
      where
        taken : (f : ℕ → ℕ) {after : List ℕ} → after ≡ lent_after n (row f T) zeros → take T after ≡ row f T
        taken f e = row_taken f T zeros (e ∙ rw z (lent_written _ zeros))

    pub columns_long : (t ≤ length starts) × (t ≤ length runs) × (t ≤ length blocks)
    columns_long = rw q (long (start_at file) s, long (running_time file) r, long (block_at file) b)
      where
        long : (f : ℕ → ℕ) {after : List ℕ} → after ≡ lent_after n (row f T) zeros → T ≤ length after
        long f e = rw (written_long zeros (row f T) (e ∙ rw z (lent_written _ zeros)) (rw length-row few)) few

    pub least_kept : LeastForFile file (take T starts) → LeastForFile file (starts_of file)
    least_kept h = rw columns.0 at (rw (← q) at h)

    module _ (buffer : List ℕ) where
      pub study-number :
          {n : ℕ} → n ≡ sheet_refusal (take t starts) (take t runs) (take t blocks) (length buffer) → n ≡ study_refusal file (length buffer)
      study-number f = f ∙ rw (columns.0, columns.1, columns.2, sheet-number (length buffer))

      pub study-count : {bytes : ℕ} → bytes ≡ length (rows_text (take t starts) (take t runs) (take t blocks)) → bytes ≡ length (sheet_text file)
      study-count f = f ∙ rw (columns.0, columns.1, columns.2, rows_text_lem)

      pub study_bytes :
          {after : List ℕ} →
          after ≡ lent_after (sheet_refusal (take t starts) (take t runs) (take t blocks) (length buffer))
          (rows_text (take t starts) (take t runs) (take t blocks)) buffer →
          after ≡ lent_after (study_refusal file (length buffer)) (sheet_text file) buffer
      study_bytes f = f ∙ rw (columns.0, columns.1, columns.2, sheet-number (length buffer), rows_text_lem)

-- a refusal leaves the lent bytes
pub left : (text buffer : List ℕ) (r : Refusal) {told : ℕ} → number r ≡ told → buffer ≡ lent_after told text buffer
left text buffer r e = rw (← e) (sym (lent_kept text buffer (numbered r)))

-- ---- a text written into zeros

module _ (text : List ℕ) (m : ℕ) (h : length text ≤ m) where
  abbrev blank : List ℕ
  blank = replicate m 0

  pub room_kept : room_refusal text (length blank) ≡ 0
  unfolding room_refusal
  room_kept = rw length-replicate (head_kept 11 _ [] (le-leb (length text) m h) ∙ refusal-none)

  pub printed : {after : List ℕ} {n : ℕ} → n ≡ 0 → after ≡ lent_after n text blank → after ≡ padded m text
  printed {after} {n} z e =
      let long : length blank ≡ m = length-replicate m 0 in
      let w = written_is blank 0 text (rw (zero-add, long) h) in
      let put : after ≡ written blank 0 text = e ∙ rw z (lent_written text blank) in
      put
      ∙ ext_get_or 0 (written blank 0 text) (padded m text) (w.places ∙ long ∙ sym (length-row _ m))
      (λ k g. at k (omega (arith, w.places, long)) w (dec_lt k (length text)))
    where
      at : (k : ℕ) → k < m → IsWritten blank 0 text (written blank 0 text) → Dec (k < length text) → entry (written blank 0 text) k ≡ entry (padded m text) k
      at k g w (yes l) = rw zero-add at (w.inside k l) ∙ sym (entry_row (entry text) m k g)
      at k g w (no l) =
          w.behind k (rw zero-add (omega arith)) ∙ get_or-replicate m k 0 0 g
          ∙ sym (entry_row (entry text) m k g ∙ get_or-eq_default text 0 (omega arith))

-- ---- what the program prints

module _ (input : List ℕ) where
  -- input above the bound, a refused file, and an accepted one
  pub long_printed : 16384 < length input → refusal_text 2 ≡ program_text input
  long_printed h = sym (program_long input h)

  module _ (le : length input ≤ 16384) (m : ℕ) (room : 2390 ≤ m) where
    -- 11 is never said
    told : study_refusal input m ≡ file_refusal input
    told = go (dec_lt 0 (file_refusal input))
      where
        go : Dec (0 < file_refusal input) → study_refusal input m ≡ file_refusal input
        go (yes p) = sym (study_refused input m refl (λ z. omega arith))
        go (no p) =
            let ok : file_refusal input ≡ 0 = omega arith in
            by_room input m ok ∙ fits ok ∙ sym ok
          where
            fits : file_refusal input ≡ 0 → room_refusal (sheet_text input) m ≡ 0
            fits ok =
                let short : length (sheet_text input) ≤ m = omega (arith, text_most input ok) in
                rw length-replicate at (room_kept (sheet_text input) m short)

    pub refused_printed : (r : Refusal) → number r ≡ study_refusal input m → refusal_text (number r) ≡ program_text input
    refused_printed r e =
        let same : number r ≡ file_refusal input = e ∙ told in
        ap refusal_text same ∙ sym (program_whole input le ∙ text_refused input (λ z. numbered r (same ∙ z)))

    pub sheet_printed : 0 ≡ study_refusal input m → (length (sheet_text input) ≤ 2390) × (sheet_text input ≡ program_text input)
    sheet_printed e = (text_most input (sym told ∙ sym e), sym (program_whole input le))
