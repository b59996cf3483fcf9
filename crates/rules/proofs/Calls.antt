-- What the file calls hand out and leave in lent buffers. Assumes nothing.
use Prim.Native.Nat.{ℕ, ◌+◌, ◌-◌, ◌≤◌}
use mathlib.Core.Bool.{Bool, true, false, cond}
use mathlib.Core.List.{List, [], ◌++◌}
use mathlib.Core.Path.{◌≡◌, refl, ap, ◌∙◌}
use native.Mathlib.Omega.{arith}
use lib.Dec.{eqb}
use lib.ListN.{length, get_or, take, drop, length-append, length-take, length-drop, get_or-append}
use lib.Seq.{length-take-le, get_or-take, get_or-drop, get_or-append-add}
use borrow.Author.Tests.{eq-eqb, ne_eqb}
use Rattle.rules.specs.Count.{entry}
use Rattle.rules.specs.File.{record_at, record_end, record_size, record_bytes}
use Rattle.rules.specs.Line.{line_of, train_of}
use Rattle.rules.specs.Run.{run_row}
use Rattle.rules.specs.Time.{run_times}
use Rattle.rules.specs.Calls.{written, lent_after, RecordPlace, record_place, train_refusal, train_record, run_refusal, speeds_after, times_after}
use Rattle.rules.specs.Meaning.{IsWritten}
use Rattle.rules.proofs.File.{record_within}
use Rattle.rules.proofs.Accepted.{train-accepted, file_there}

-- a record's size is the distance from its place to the place past it
pub record_size_lem : (file : List ℕ) (at : ℕ) → at + record_size file at ≡ record_end file at
record_size_lem file at = omega arith

-- ---- the record of a train

module _ (file : List ℕ) (k : ℕ) where
  pub record_handed : train_refusal file k ≡ 0 → train_record file k ≡ record_bytes file k
  unfolding train_record
  record_handed z = rw (eq-eqb (train_refusal file k) 0 z)

  pub nothing_handed : (train_refusal file k ≡ 0 → ⊥) → train_record file k ≡ []
  unfolding train_record
  nothing_handed h = rw (ne_eqb (train_refusal file k) 0 h)

  -- the part handed out stands where the place says
  pub place_handed : train_record file k ≡ take (record_place file k).length (drop (record_place file k).start file)
  unfolding train_record record_place
  place_handed = go (eqb (train_refusal file k) 0)
    where
      handed : Bool → RecordPlace
      handed b =
          cond b (record { number = 0; start = record_at file k; length = record_size file (record_at file k) })
          (record { number = train_refusal file k; start = 0; length = 0 })

      go : (b : Bool) → cond b (record_bytes file k) [] ≡ take (handed b).length (drop (handed b).start file)
      go true = refl
      go false = refl

  -- the record handed out lies within the file
  pub record_ends : train_refusal file k ≡ 0 → record_end file (record_at file k) ≤ length file
  record_ends z =
      let (ok, there) = train-accepted file k z in
      omega (arith, record_within file k there, file_there file ok)

  pub record_length : train_refusal file k ≡ 0 → length (train_record file k) ≡ record_size file (record_at file k)
  record_length z =
      rw (record_handed z)
      (length-take-le _ _ (rw length-drop (omega (arith, record_ends z, record_size_lem file (record_at file k)))))

-- ---- lent buffers

pub written_is : (buffer : List ℕ) (at : ℕ) (values : List ℕ) → at + length values ≤ length buffer → IsWritten buffer at values (written buffer at values)
unfolding written
written_is buffer at values h =
    record {
      inside = λ i l. shifted i ∙ get_or-append values rest 0 i l;
      before = λ i l. get_or-append (take at buffer) (values ++ rest) 0 i (rw front l) ∙ get_or-take at buffer i 0 l;
      behind = λ i l.
          let e : i ≡ at + (length values + (i - (at + length values))) = omega arith in
          rw e (shifted (length values + (i - (at + length values))) ∙ get_or-append-add values rest (i - (at + length values)) 0 ∙
          get_or-drop (at + length values) buffer (i - (at + length values)) 0 ∙ ap (λ (j : ℕ). get_or buffer j 0) (omega arith));
      places = simp (length-append, length-take, length-drop) (omega arith);
    }
  where
    rest : List ℕ
    rest = drop (at + length values) buffer

    front : length (take at buffer) ≡ at
    front = length-take-le at buffer (omega arith)

    shifted : (i : ℕ) → entry (take at buffer ++ (values ++ rest)) (at + i) ≡ entry (values ++ rest) i
    shifted i = let g : entry (take at buffer ++ (values ++ rest)) (length (take at buffer) + i) ≡ entry (values ++ rest) i =
        get_or-append-add (take at buffer) (values ++ rest) i 0 in rw front at g

module _ (values buffer : List ℕ) where
  pub lent_written : lent_after 0 values buffer ≡ written buffer 0 values
  unfolding lent_after
  lent_written = refl

  pub lent_kept : {number : ℕ} → (number ≡ 0 → ⊥) → lent_after number values buffer ≡ buffer
  unfolding lent_after
  lent_kept {number} h = rw (ne_eqb number 0 h)

module _ (file : List ℕ) (k : ℕ) (speeds times : List ℕ) where
  pub run_writes :
      run_refusal file k (length speeds) (length times) ≡ 0 →
      (speeds_after file k speeds times ≡ written speeds 0 (run_row (line_of file) (train_of file k)))
      × (times_after file k speeds times ≡ written times 0 (run_times (line_of file) (train_of file k)))
  unfolding speeds_after times_after
  run_writes z = rw z (lent_written _ speeds, lent_written _ times)

  pub run_leaves : (run_refusal file k (length speeds) (length times) ≡ 0 → ⊥) → (speeds_after file k speeds times ≡ speeds) ×
      (times_after file k speeds times ≡ times)
  unfolding speeds_after times_after
  run_leaves h = (lent_kept _ speeds h, lent_kept _ times h)
