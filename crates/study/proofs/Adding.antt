-- One train run and held. Assumes nothing.
use Prim.Native.Nat.{ℕ, ◌-◌, ◌≤◌}
use mathlib.Core.List.{List}
use mathlib.Core.Path.{◌≡◌, refl, ap, ◌∙◌}
use native.Mathlib.Omega.{arith}
use lib.ListN.{length}
use borrow.Author.Tests.{eq-eqb, le-leb}
use Rattle.std.specs.Prelude.{Result, Ok, Err}
use Rattle.std.specs.Result.{IsOk}
use Rattle.refusals.specs.declared.Refusal.{Refusal}
use Rattle.refusals.specs.Number.{refused_by}
use Rattle.refusals.proofs.Passing.{accepted}
use Rattle.rules.specs.Admitted.{Admitted}
use Rattle.rules.specs.Calls.{HoldAnswer, written}
use Rattle.rules.specs.Count.{◌and◌, entry}
use Rattle.rules.specs.Hold.{hold_of}
use Rattle.rules.specs.Line.{Line, Train}
use Rattle.rules.specs.Refusal.{buffers_long}
use Rattle.rules.specs.Run.{run_row}
use Rattle.rules.specs.Time.{run_times}
use Rattle.rules.proofs.Accepted.{on_kept}
use Rattle.rules.proofs.Calls.{lent_written}
use Rattle.rules.proofs.Run.{length_run}
use Rattle.rules.proofs.Time.{length_times}
use Rattle.rules.proofs.Written.{written_long, written_entries}
use Rattle.run.specs.Calls.{run_refusal_on, speeds_on, times_on}
use Rattle.run.proofs.Answers.{by_buffers}
use Rattle.holds.specs.declared.HoldRecord.{HoldRecord}
use Rattle.holds.specs.Values.{as_hold}
use Rattle.hold.specs.Calls.{as_hold_answer, held_on}
use Rattle.study.specs.Rows.{last_arrival}

-- an admitted train is not refused where the buffers are long enough
module _
    (l : Line) (t : Train) (a : Admitted l t) {t' : Train} (e : t' ≡ t) (speeds times : List ℕ) (p : l.points ≤ length speeds)
    (q : l.points ≤ length times) where
  not_refused : run_refusal_on l t' (length speeds) (length times) ≡ 0
  unfolding buffers_long ◌and◌
  not_refused = rw e (by_buffers l t (length speeds) (length times) (on_kept l t a) ∙ rw (le-leb l.points (length speeds) p, le-leb l.points (length times) q))

  held_whole : held_on l t' (length speeds) (length times) ≡ record { number = 0; hold = hold_of l t }
  unfolding held_on
  held_whole = rw (eq-eqb (run_refusal_on l t' (length speeds) (length times)) 0 not_refused, e)

  pub hold_made : (x : Result HoldRecord Refusal) → as_hold_answer x ≡ held_on l t' (length speeds) (length times) → IsOk x
  hold_made x f = accepted x (told x ∙ ap (λ (r : HoldAnswer). r.number) (f ∙ held_whole))
    where
      told : (x : Result HoldRecord Refusal) → refused_by x ≡ (as_hold_answer x).number
      told (Ok h) = refl
      told (Err r) = refl

  pub hold_taken : {x : Result HoldRecord Refusal} {h : HoldRecord} → x ≡ Ok h → as_hold_answer x ≡ held_on l t' (length speeds) (length times) → as_hold h ≡ hold_of l t
  hold_taken q f = ap (λ (r : HoldAnswer). r.hold) (rw q at f ∙ held_whole)

  pub speeds_long : {s : List ℕ} → s ≡ speeds_on l t' speeds times → length s ≡ length speeds
  unfolding speeds_on
  speeds_long f =
      written_long speeds (run_row l t) (f ∙ rw (not_refused, e) (lent_written _ speeds)) (rw (length_run l t) p)

  times_taken : {s : List ℕ} → s ≡ times_on l t' speeds times → s ≡ written times 0 (run_times l t)
  unfolding times_on
  times_taken f = f ∙ rw (not_refused, e) (lent_written _ times)

  pub times_long : {s : List ℕ} → s ≡ times_on l t' speeds times → length s ≡ length times
  times_long f = written_long times (run_times l t) (times_taken f) (rw (length_times l t) q)

  -- the arrival at the last point
  pub last-arrival : {s : List ℕ} → s ≡ times_on l t' speeds times → entry s (l.points - 1) ≡ last_arrival l t
  last-arrival f =
      written_entries times (run_times l t) (times_taken f) (l.points - 1) (rw (length_times l t) (omega (arith, a.rule3_line.points-least)))
