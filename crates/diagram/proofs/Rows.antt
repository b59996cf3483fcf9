-- The rows of a run in arrays of 4,096 places, and the diagram that they give. Assumes nothing.
use Prim.Native.Nat.{ℕ, ◌^◌, ◌≤◌, ◌<◌}
use mathlib.Core.List.{List}
use mathlib.Core.Path.{◌≡◌, ap, ◌∙◌}
use native.Mathlib.Omega.{arith}
use borrow.Author.Tests.{le-leb}
use lib.ListN.{length, take, replicate, length-replicate}
use lib.Seq.{get_or-take}
use Rattle.rules.specs.Admitted.{Admitted}
use Rattle.rules.specs.Calls.{written}
use Rattle.rules.specs.Count.{◌and◌, entry}
use Rattle.rules.specs.Diagram.{diagram_point, diagram_dot, diagram_bytes}
use Rattle.rules.specs.Line.{Line, Train}
use Rattle.rules.specs.Refusal.{refusal, rules_on, buffers_long}
use Rattle.rules.specs.Run.{run_row}
use Rattle.rules.specs.Text.{joined}
use Rattle.rules.specs.Time.{run_times}
use Rattle.rules.proofs.Calls.{lent_written}
use Rattle.rules.proofs.Run.{length_run}
use Rattle.rules.proofs.Time.{arrival-most, length_times, entry_times}
use Rattle.rules.proofs.Written.{written_long, written_entries, joined_agree}
use Rattle.run.specs.Calls.{run_refusal_on, speeds_on, times_on}
use Rattle.run.proofs.Answers.{by_buffers}
use Rattle.diagram.specs.Points.{point_at, points_of}

abbrev zeros : List ℕ
zeros = replicate 4096 0

places : length zeros ≡ 4096
places = length-replicate {A = ℕ} 4096 0

module _ (l : Line) (t : Train) (a : Admitted l t) (z : refusal (rules_on l t) ≡ 0) where
  few : l.points ≤ 4096
  few = a.rule3_line.points-most

  -- a row in front of its array
  in_front :
      (xs : List ℕ) {after : List ℕ} → length xs ≡ l.points → after ≡ written zeros 0 xs →
      ((i : ℕ) → i < l.points → entry after i ≡ entry xs i) × (l.points ≤ length after)
  in_front xs n e = (λ i h. written_entries zeros xs e i (rw n h), rw (written_long zeros xs e (rw (n, places) few), places) few)

  -- the run is not refused
  pub ran : run_refusal_on l t (length zeros) (length zeros) ≡ 0
  unfolding buffers_long ◌and◌
  ran = by_buffers l t (length zeros) (length zeros) z ∙ rw (places, le-leb l.points 4096 few)

  -- what the calls leave in the arrays; p is P
  module _ {p : ℕ} (q : p ≡ l.points) {speeds times : List ℕ} (s : speeds ≡ speeds_on l t zeros zeros) (m : times ≡ times_on l t zeros zeros) where
    speeds_put : speeds ≡ written zeros 0 (run_row l t)
    unfolding speeds_on
    speeds_put = s ∙ rw ran (lent_written _ zeros)

    times_put : times ≡ written zeros 0 (run_times l t)
    unfolding times_on
    times_put = m ∙ rw ran (lent_written _ zeros)

    -- the rows, in front of their arrays
    pub long : (p ≤ length speeds) × (p ≤ length times)
    long = (rw q (in_front (run_row l t) (length_run l t) speeds_put).1, rw q (in_front (run_times l t) (length_times l t) times_put).1)

    speeds_front : (i : ℕ) → i < p → entry (take p speeds) i ≡ entry (run_row l t) i
    speeds_front i h = rw (get_or-take p speeds i 0 h) ((in_front (run_row l t) (length_run l t) speeds_put).0 i (rw q at h))

    times_front : (i : ℕ) → i < p → entry (take p times) i ≡ entry (run_times l t) i
    times_front i h = rw (get_or-take p times i 0 h) ((in_front (run_times l t) (length_times l t) times_put).0 i (rw q at h))

    pub times_small : (i : ℕ) → i < p → entry (take p times) i < 2 ^ 53
    times_small i h =
        let g : i < l.points = rw q at h in
        omega (arith, times_front i h, entry_times l t i g, arrival-most l t a i g)

    -- their points are the diagram
    pub points_run : {step : ℕ} → step ≡ l.step → points_of p step (take p speeds) (take p times) ≡ diagram_bytes l t
    unfolding points_of diagram_bytes point_at diagram_point diagram_dot
    points_run {step} e =
        joined_agree _ _ p (λ i h. rw (speeds_front i h, times_front i h, e)) ∙ ap (joined _) q
