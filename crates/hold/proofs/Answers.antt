-- What the hold calls answer, refused and accepted. Assumes nothing.
use Prim.Native.Nat.{ℕ, ◌≤◌, ◌<◌}
use mathlib.Core.Bool.{Bool, true, false}
use mathlib.Core.List.{List}
use mathlib.Core.Path.{◌≡◌, refl, ◌∙◌}
use native.Mathlib.Omega.{arith}
use lib.Dec.{eqb}
use lib.ListN.{length}
use borrow.Author.Tests.{eqb-true, eqb-false, eq-eqb, ne_eqb, leb-true}
use Rattle.std.specs.Prelude.{Result, Ok, Err}
use Rattle.std.specs.Result.{IsErrAnd}
use Rattle.refusals.specs.declared.Refusal.{Refusal}
use Rattle.refusals.specs.Number.{number}
use Rattle.refusals.proofs.Passing.{numbered}
use Rattle.rules.specs.Count.{entry}
use Rattle.rules.specs.Line.{Line, Train, line_of, train_of}
use Rattle.rules.specs.Hold.{Hold, hold_of}
use Rattle.rules.specs.Refusal.{refusal, rules_on, buffers_long}
use Rattle.rules.specs.Run.{run_row}
use Rattle.rules.specs.Time.{run_times}
use Rattle.rules.specs.Calls.{HoldAnswer, held, written, train_refusal, run_refusal}
use Rattle.rules.proofs.Count.{and_left, and_right}
use Rattle.rules.proofs.Calls.{lent_written}
use Rattle.rules.proofs.Run.{length_run}
use Rattle.rules.proofs.Time.{length_times}
use Rattle.rules.proofs.Written.{written_long, written_entries}
use Rattle.run.specs.Calls.{run_refusal_on, speeds_on, times_on}
use Rattle.run.proofs.Answers.{refused_on, by_buffers, as_run}
use Rattle.holds.specs.declared.HoldRecord.{HoldRecord}
use Rattle.hold.specs.Calls.{as_hold_answer, held_on}

long_buffers : (l : Line) (ns nt : ℕ) → buffers_long l ns nt ≡ true → (l.points ≤ ns) × (l.points ≤ nt)
unfolding buffers_long
long_buffers l ns nt e = (leb-true _ _ (and_left _ _ e), leb-true _ _ (and_right _ _ e))

module _ (l : Line) (t : Train) (ns nt : ℕ) where
  pub held-refused : (r : Result HoldRecord Refusal) (e : Refusal) → IsErrAnd r (λ x. x ≡ e) → number e ≡ run_refusal_on l t ns nt →
      as_hold_answer r ≡ held_on l t ns nt
  unfolding held_on
  held-refused (Ok h) e i n = absurd i
  held-refused (Err x) e i n = rw (i, n, ne_eqb (run_refusal_on l t ns nt) 0 (λ z. numbered e (n ∙ z)))

  pub held-accepted : {h : Hold} → run_refusal_on l t ns nt ≡ 0 → h ≡ hold_of l t → record { number = 0; hold = h } ≡ held_on l t ns nt
  unfolding held_on
  held-accepted z q = rw (eq-eqb (run_refusal_on l t ns nt) 0 z, q)

  -- an accepted train on a line keeps the file's rules from 3 on, and both buffers are long enough
  pub accepted_on : run_refusal_on l t ns nt ≡ 0 → (refusal (rules_on l t) ≡ 0) × (l.points ≤ ns) × (l.points ≤ nt)
  accepted_on z = go (eqb (refusal (rules_on l t)) 0) refl
    where
      both : refusal (rules_on l t) ≡ 0 → (b : Bool) → buffers_long l ns nt ≡ b → buffers_long l ns nt ≡ true
      both k true e = e
      both k false e = let y : run_refusal_on l t ns nt ≡ 11 = rw e at (by_buffers l t ns nt k) in absurd (omega arith)

      go : (b : Bool) → eqb (refusal (rules_on l t)) 0 ≡ b → (refusal (rules_on l t) ≡ 0) × (l.points ≤ ns) × (l.points ≤ nt)
      go true e =
          let k = eqb-true _ 0 e in
          let long = long_buffers l ns nt (both k (buffers_long l ns nt) refl) in
          (k, long.0, long.1)
      go false e = absurd (eqb-false _ 0 e (refused_on l t ns nt refl (eqb-false _ 0 e) ∙ z))

-- what an accepted run gives the hold
module _ (l : Line) (t : Train) (speeds times : List ℕ) where
  pub run_done :
      {speeds' times' : List ℕ} → run_refusal_on l t (length speeds) (length times) ≡ 0 → speeds' ≡ speeds_on l t speeds times → times' ≡
      times_on l t speeds times →
      ((l.points ≤ length speeds') × (l.points ≤ length times')) × ((k : ℕ) → k < l.points → entry speeds' k ≡ entry (run_row l t) k) ×
      ((k : ℕ) → k < l.points → entry times' k ≡ entry (run_times l t) k)
  unfolding speeds_on times_on
  run_done {speeds'} {times'} n p q =
      let ok = accepted_on l t (length speeds) (length times) n in
      let s : speeds' ≡ written speeds 0 (run_row l t) = p ∙ rw n (lent_written _ speeds) in
      let m : times' ≡ written times 0 (run_times l t) = q ∙ rw n (lent_written _ times) in (
        (
          rw (written_long speeds (run_row l t) s (rw (length_run l t) ok.1)) ok.1,
          rw (written_long times (run_times l t) m (rw (length_times l t) ok.2)) ok.2,
        ),
        λ k h. written_entries speeds (run_row l t) s k (rw (length_run l t) h),
        λ k h. written_entries times (run_times l t) m k (rw (length_times l t) h),
      )

-- ---- of a file

module _ (file : List ℕ) (k : ℕ) (speeds times : List ℕ) where
  pub file_refused : (r : Result HoldRecord Refusal) (e : Refusal) → IsErrAnd r (λ x. x ≡ e) → number e ≡ run_refusal file k (length speeds) (length times) →
      as_hold_answer r ≡ held file k (length speeds) (length times)
  unfolding held
  file_refused (Ok h) e i n = absurd i
  file_refused (Err x) e i n = rw (i, n, ne_eqb (run_refusal file k (length speeds) (length times)) 0 (λ z. numbered e (n ∙ z)))

  pub file_held :
      {l : Line} {t : Train} {x : HoldAnswer} → train_refusal file k ≡ 0 → l ≡ line_of file → t ≡ train_of file k →
      x ≡ held_on l t (length speeds) (length times) → x ≡ held file k (length speeds) (length times)
  unfolding held_on held
  file_held {l} {t} z f g p =
      let n : run_refusal_on l t (length speeds) (length times) ≡ run_refusal file k (length speeds) (length times) =
      (as_run file k z f g speeds times refl refl refl).0 in
      p ∙ rw (n, f, g)
