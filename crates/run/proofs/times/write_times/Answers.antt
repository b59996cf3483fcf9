use Rattle.std.proofs.Common.{◌≡◌, ◌+◌, ◌-◌, ◌^◌, ◌≤◌, ◌<◌, sym, refl, ◌∙◌, arith, take}
use lib.Seq.{length-take-le}
use Rattle.chains.proofs.InUse.{taken_row}
use Rattle.judging.proofs.Admitting.{admitted}
use Rattle.rules.specs.Count.{entry}
use Rattle.rules.specs.Run.{run_row}
use Rattle.rules.specs.Time.{dwell}
use Rattle.values.specs.Values.{as_line, as_train}
use Rattle.stops.specs.Stops.{NextStop, stop_ahead, point_of, dwell_here}
use Rattle.stops.proofs.Passing.{behind-first, next_here, dwell-here, behind_on, stop_kept, elsewhere}
use Rattle.run.proofs.Arriving.{few_stops, arrived_first, arrived_next, arrived_last, roots_move, clock_most}
use Rattle.run.proofs.times.write_times.Goals as goal
use Rattle.run.proofs.times.write_times.Goals.{After-row_known-1, then-stop_point-i, else-stop_point-i, then-stop_point-i-2, else-stop_point-i-2}

pub slice_bounds-stops-end : goal.slice_bounds-stops-end
slice_bounds-stops-end c = let few = few_stops _ _ (admitted c.args.on) in omega arith

pub slice_bounds-stops-end-2 : goal.slice_bounds-stops-end-2
slice_bounds-stops-end-2 c = let few = few_stops _ _ (admitted c.args.on) in sym (length-take-le _ _ (omega arith))

pub slice_bounds-dwells-end : goal.slice_bounds-dwells-end
slice_bounds-dwells-end c = let few = few_stops _ _ (admitted c.args.on) in omega arith

pub slice_bounds-dwells-end-2 : goal.slice_bounds-dwells-end-2
slice_bounds-dwells-end-2 c = let few = few_stops _ _ (admitted c.args.on) in sym (length-take-le _ _ (omega arith))

pub overflow_sub-last : goal.overflow_sub-last
overflow_sub-last c = omega (arith, (admitted c.args.on).rule3_line.points-least, c.from-last.ensures)

pub bounds-speeds-0 : goal.bounds-speeds-0
bounds-speeds-0 c = omega (arith, (admitted c.args.on).rule3_line.points-least, c.requires.points_in_bounds.0)

pub loop-i-init : goal.loop-i-init
loop-i-init c =
    let few = few_stops _ _ (admitted c.args.on) in
    let stops : take c.args.on.train.stop_count c.args.on.train.stops ≡ (as_train c.args.on.train).stops = taken_row _ (omega arith) in
    let dwells : take c.args.on.train.stop_count c.args.on.train.dwells ≡ (as_train c.args.on.train).dwells = taken_row _ (omega arith) in (
      arrived_first _ _ (admitted c.args.on) (behind-first _ (rw stops at c.first_stop-stop.ensures))
          (c.of-here.ensures ∙ c.requires.by_index 0 (omega (arith, (admitted c.args.on).rule3_line.points-least))),
      c.of-cells.ensures,
      c.point_of-stop_point.ensures,
      rw dwells at c.dwell_at-stop_dwell.ensures,
    )

pub time_between-cell-requires : goal.time_between-cell-requires
time_between-cell-requires c =
    let here = c.loop-i.here.is_root in
    let there = c.root_after-there.result.is_root in
    let ahead : c.loop-i.i + 1 < c.args.on.line.points = omega (arith, c.from-last.ensures) in (
      here.1,
      there.1,
      roots_move _ _ (admitted c.args.on) c.loop-i.invariant.0 ahead
          (c.root_after-there.ensures ∙ c.requires.by_index (c.loop-i.i + 1) ahead) here.0 there.0,
    )

module _ (c : After-row_known-1) where
  ahead : c.loop-i.i + 1 < c.args.on.line.points
  ahead = omega (arith, c.from-last.ensures)

  faster : c.root_after-there.result.squared.0 ≡ entry (run_row (as_line c.args.on.line) (as_train c.args.on.train)) (c.loop-i.i + 1)
  faster = c.root_after-there.ensures ∙ c.requires.by_index (c.loop-i.i + 1) ahead

  few : c.args.on.train.stop_count ≤ 64
  few = few_stops _ _ (admitted c.args.on)

  stops : take c.args.on.train.stop_count c.args.on.train.stops ≡ (as_train c.args.on.train).stops
  stops = taken_row _ (omega (arith, few))

  dwells : take c.args.on.train.stop_count c.args.on.train.dwells ≡ (as_train c.args.on.train).dwells
  dwells = taken_row _ (omega (arith, few))

  point : c.loop-i.stop_point ≡ point_of c.loop-i.stop (c.from-last.result - 1)
  point = c.loop-i.invariant.2

  stop_next : c.if-stop_point-i.stop ≡ stop_ahead (as_train c.args.on.train).stops c.loop-i.stop c.loop-i.i
  stop_next =
      elim c.if-stop_point-i.branch [
        | then-stop_point-i w ↦ rw w.stop-is (rw stops at w.stop_ahead-stop.ensures)
        | else-stop_point-i w ↦ rw w.stop-is (stop_kept _ c.loop-i.stop _ (rw point at w.if-stop_point-i.false))
      ]

  pub point_next : c.if-stop_point-i.stop_point ≡ point_of c.if-stop_point-i.stop (c.from-last.result - 1)
  point_next =
      elim c.if-stop_point-i.branch [
        | then-stop_point-i w ↦ rw (w.stop_point-is, w.stop-is) w.point_of-stop_point-then-stop_point-i.ensures
        | else-stop_point-i w ↦ rw (w.stop_point-is, w.stop-is) point
      ]

  pub dwell_next :
      c.if-stop_point-i.stop_dwell ≡ dwell_here (as_train c.args.on.train).dwells c.if-stop_point-i.stop c.if-stop_point-i.stop_point
  dwell_next =
      elim c.if-stop_point-i.branch [
        | then-stop_point-i w ↦
            rw (w.stop_dwell-is, w.stop-is, w.stop_point-is) (rw dwells at w.dwell_at-stop_dwell-then-stop_point-i.ensures)
        | else-stop_point-i w ↦ rw (w.stop_dwell-is, w.stop-is, w.stop_point-is) c.loop-i.invariant.3
      ]

  next : NextStop (as_train c.args.on.train).stops c.if-stop_point-i.stop c.loop-i.i
  next = next_here _ (admitted c.args.on).rule8.apart c.loop-i.invariant.0.behind stop_next

  beside : c.if-stop_point-i-2.dwell ≡ dwell_here (as_train c.args.on.train).dwells c.if-stop_point-i.stop c.loop-i.i
  beside =
      elim c.if-stop_point-i-2.branch [
        | then-stop_point-i-2 w ↦ rw w.dwell-is (rw w.if-stop_point-i-2.true at dwell_next)
        | else-stop_point-i-2 w ↦ rw w.dwell-is (sym (elsewhere _ c.if-stop_point-i.stop (c.from-last.result - 1) (λ e. w.if-stop_point-i-2.false (point_next ∙ e))))
      ]

  dwelt : c.if-stop_point-i-2.dwell ≡ dwell (as_line c.args.on.line) (as_train c.args.on.train) c.loop-i.i
  dwelt =
      dwell-here _ (admitted c.args.on).rule8.apart c.loop-i.invariant.0.behind stop_next
      (as_line c.args.on.line) (as_train c.args.on.train) _ refl refl (admitted c.args.on).parallel.stops (omega (arith, ahead)) beside

  clock : c.loop-i.time + (c.if-stop_point-i-2.dwell + c.time_between-cell.result) < 2 ^ 43
  clock =
      clock_most _ _ (admitted c.args.on) c.loop-i.invariant.0 ahead faster c.loop-i.here.is_root.0 c.root_after-there.result.is_root.0 dwelt c.loop-i.invariant.1
      c.time_between-cell.ensures.time

pub overflow_add-time : goal.overflow_add-time
overflow_add-time c = omega (arith, clock c)

pub overflow_add-time-in-loop-i : goal.overflow_add-time-in-loop-i
overflow_add-time-in-loop-i c = omega (arith, clock c)

pub loop-i-preserved : goal.loop-i-preserved
loop-i-preserved c = (
  arrived_next _ _ (admitted c.args.on) c.loop-i.invariant.0 (ahead c) (faster c) c.loop-i.here.is_root.0 c.root_after-there.result.is_root.0 (dwelt c)
      c.loop-i.invariant.1 c.time_between-cell.ensures.time (behind_on (next c) (omega arith)) c.requires.points_in_bounds.1,
  c.time_between-cell.ensures.step ∙ c.loop-i.invariant.1,
  point_next c,
  dwell_next c,
)

pub returns : goal.returns
returns c =
    let last : c.from-last.result - 1 ≡ c.loop-i.i = omega arith in
    rw last (arrived_last _ _ (admitted c.args.on) c.loop-i.invariant.0 (omega (arith, c.from-last.ensures)) c.requires.points_in_bounds.1)
