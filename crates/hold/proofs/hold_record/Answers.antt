use Rattle.std.proofs.Common.{◌≡◌, ◌+◌, ◌≤◌, ◌<◌, suc, refl, sym, ◌∙◌, arith, length, take}
use lib.Seq.{length-take-le}
use Rattle.chains.proofs.InUse.{taken_row}
use Rattle.judging.proofs.Admitting.{admitted}
use Rattle.rules.specs.Count.{entry}
use Rattle.rules.specs.Time.{dwell}
use Rattle.rules.proofs.Count.{length-row, entry_row}
use Rattle.values.specs.Values.{as_line, as_train}
use Rattle.stops.specs.Stops.{Behind, NextStop}
use Rattle.stops.proofs.Passing.{behind-first, next_here, dwell-here}
use Rattle.run.proofs.Arriving.{few_stops}
use Rattle.hold.proofs.Filling.{holds_first, holds_all, approach_asks, point_is, point_on, begin_is, begin-most, clear_on, clear_most}
use Rattle.hold.proofs.Filling.{end_is, holds_on, few_blocks, behind_at}
use Rattle.hold.proofs.hold_record.Goals as goal
use Rattle.hold.proofs.hold_record.Goals.{After-dwell_at-dwell, After-from-in-loop-j}

pub slice_bounds-stops-end : goal.slice_bounds-stops-end
slice_bounds-stops-end c = let few = few_stops _ _ (admitted c.args.on) in omega arith

pub slice_bounds-stops-end-2 : goal.slice_bounds-stops-end-2
slice_bounds-stops-end-2 c = let few = few_stops _ _ (admitted c.args.on) in sym (length-take-le _ _ (omega arith))

pub slice_bounds-dwells-end : goal.slice_bounds-dwells-end
slice_bounds-dwells-end c = let few = few_stops _ _ (admitted c.args.on) in omega arith

pub slice_bounds-dwells-end-2 : goal.slice_bounds-dwells-end-2
slice_bounds-dwells-end-2 c = let few = few_stops _ _ (admitted c.args.on) in sym (length-take-le _ _ (omega arith))

pub loop-j-init : goal.loop-j-init
loop-j-init c =
    let few = few_stops _ _ (admitted c.args.on) in
    let stops : take c.args.on.train.stop_count c.args.on.train.stops ≡ (as_train c.args.on.train).stops = taken_row _ (omega arith) in
    record {
      filled = holds_first _ _ (admitted c.args.on) refl (sym (length-row _ _)) (behind-first _ (rw stops at c.first_stop-stop.ensures));
      few_blocks = few_blocks _ _ (admitted c.args.on);
    }

pub approach_point-point-requires : goal.approach_point-point-requires
approach_point-point-requires c =
    let asked = approach_asks _ _ (admitted c.args.on) c.loop-j.invariant.filled (rw length-row (omega arith)) c.args.speeds.now c.requires.by_index
    c.braking_loss-loss.ensures (c.from.ensures ∙ sym (entry_row _ _ _ (omega arith))) c.requires.points_in_bounds.0 in
    record {
      loss_bound = asked.0;
      from_bound = asked.1;
      by_index = asked.2;
    }

-- the approach point and its dwell are found
module _ (c : After-dwell_at-dwell) where
  started : c.from.result ≡ entry (as_line c.args.on.line).block_starts c.loop-j.j
  started = c.from.ensures ∙ sym (entry_row _ _ _ (omega arith))

  in_block : c.loop-j.j < length (as_line c.args.on.line).block_starts
  in_block = rw length-row (omega arith)

  on_line : suc c.approach_point-point.result < c.args.on.line.points
  on_line = point_on _ _ (admitted c.args.on) c.loop-j.invariant.filled in_block c.args.speeds.now c.requires.by_index c.braking_loss-loss.ensures
      started c.approach_point-point.ensures.0

  few : c.args.on.train.stop_count ≤ 64
  few = few_stops _ _ (admitted c.args.on)

  stops : take c.args.on.train.stop_count c.args.on.train.stops ≡ (as_train c.args.on.train).stops
  stops = taken_row _ (omega (arith, few))

  dwells : take c.args.on.train.stop_count c.args.on.train.dwells ≡ (as_train c.args.on.train).dwells
  dwells = taken_row _ (omega (arith, few))

  behind : Behind (as_train c.args.on.train).stops c.loop-j.stop c.approach_point-point.result
  behind = behind_at c.loop-j.invariant.filled.behind c.approach_point-point.ensures.1

  next : NextStop (as_train c.args.on.train).stops c.stop_ahead-stop.result c.approach_point-point.result
  next = next_here _ (admitted c.args.on).rule8.apart behind (rw stops at c.stop_ahead-stop.ensures)

  dwelt : c.dwell_at-dwell.result ≡ dwell (as_line c.args.on.line) (as_train c.args.on.train) c.approach_point-point.result
  dwelt =
      dwell-here _ (admitted c.args.on).rule8.apart behind (rw stops at c.stop_ahead-stop.ensures) (as_line c.args.on.line) (as_train c.args.on.train) _ refl refl
      (admitted c.args.on).parallel.stops on_line (rw dwells at c.dwell_at-dwell.ensures)

pub offset_bounds-times-point : goal.offset_bounds-times-point
offset_bounds-times-point c = omega (arith, on_line c)

pub bounds-times-point : goal.bounds-times-point
bounds-times-point c = omega (arith, on_line (goal.at.bounds-times-point c).After-dwell_at-dwell, c.requires.points_in_bounds.1)

pub overflow_add-hold : goal.overflow_add-hold
overflow_add-hold c = let d = (goal.at.overflow_add-hold c).After-dwell_at-dwell in
    omega (
      arith,
      begin-most _ _ (admitted c.args.on) c.loop-j.invariant.filled (in_block d) c.args.speeds.now c.requires.by_index c.braking_loss-loss.ensures
          (started d) c.approach_point-point.ensures.0 c.args.times.now c.requires.by_index_2 (dwelt d),
    )

-- the block's end is read
module _ (c : After-from-in-loop-j) where
  ended : c.from-in-loop-j.result ≡ entry (as_line c.args.on.line).block_ends c.loop-j.j
  ended = c.from-in-loop-j.ensures ∙ sym (entry_row _ _ _ (omega arith))

  cleared : c.from-in-loop-j.result + c.train_cells-cells.result < c.args.on.line.points
  cleared = clear_on _ _ (admitted c.args.on) c.loop-j.invariant.filled (rw length-row (omega arith)) c.args.times.now c.requires.by_index_2 ended c.train_cells-cells.ensures

pub overflow_add-hold-in-loop-j : goal.overflow_add-hold-in-loop-j
overflow_add-hold-in-loop-j c = omega (arith, cleared c)

pub offset_bounds-times-from : goal.offset_bounds-times-from
offset_bounds-times-from c = omega (arith, cleared c)

pub bounds-times-from : goal.bounds-times-from
bounds-times-from c = omega (arith, cleared (goal.at.bounds-times-from c).After-from-in-loop-j, c.requires.points_in_bounds.1)

pub overflow_add-hold-in-loop-j-2 : goal.overflow_add-hold-in-loop-j-2
overflow_add-hold-in-loop-j-2 c = let e = (goal.at.overflow_add-hold-in-loop-j-2 c).After-from-in-loop-j in
    omega (
      arith,
      clear_most _ _ (admitted c.args.on) c.loop-j.invariant.filled (rw length-row (omega arith)) c.args.times.now c.requires.by_index_2 (ended e)
          c.train_cells-cells.ensures,
      c.clearing_time-clearing.ensures.1,
    )

pub loop-j-preserved : goal.loop-j-preserved
loop-j-preserved c =
    let d = (goal.at.loop-j-preserved c).After-dwell_at-dwell in
    let e = (goal.at.loop-j-preserved c).After-from-in-loop-j in
    let filled = c.loop-j.invariant.filled in
    record {
      filled =
          holds_on _ _ (admitted c.args.on) filled (in_block d)
          (point_is _ _ (admitted c.args.on) filled (in_block d) c.args.speeds.now c.requires.by_index c.braking_loss-loss.ensures (started d) c.approach_point-point.ensures.0)
          (next d)
          (begin_is _ _ (admitted c.args.on) filled (in_block d) c.args.speeds.now c.requires.by_index c.braking_loss-loss.ensures (started d) c.approach_point-point.ensures.0
          c.args.times.now c.requires.by_index_2 (dwelt d))
          (end_is _ _ (admitted c.args.on) filled (in_block d) c.args.times.now c.requires.by_index_2 (ended e) c.train_cells-cells.ensures
          c.clearing_time-clearing.ensures.0);
      few_blocks = c.loop-j.invariant.few_blocks;
    }

pub returns : goal.returns
returns c = holds_all _ _ (admitted c.args.on) c.loop-j.invariant.filled (rw length-row (omega arith))
