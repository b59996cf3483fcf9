use Prim.Native.Nat.{ℕ, ◌-◌, ◌≤◌}
use mathlib.Core.Path.{◌≡◌, refl, ◌∙◌}
use native.Mathlib.Nat.{le_trans}
use native.Mathlib.Numerals.{add-one}
use native.Mathlib.Omega.{arith}
use lib.ListN.{length-set}
use Rattle.rules.specs.Count.{entry}
use Rattle.rules.specs.Run.{listed}
use Rattle.rules.proofs.Fill.{fill_none, fill_up}
use lib.Dec.{eqb}
use Rattle.stops.specs.Stops.{NextStop, stop_ahead, point_of}
use Rattle.stops.proofs.Passing.{next_here, here-listed, behind_on, stop_kept, at_point}
use Rattle.forward.proofs.Sweeping.{before_next, forward-at, cap-at, capped-most}
use Rattle.forward.proofs.stretch.write_stretch.Goals as goal
use Rattle.forward.proofs.stretch.write_stretch.Goals.{then-stop_point-i, else-stop_point-i}

pub loop-i-init : goal.loop-i-init
loop-i-init c = (refl, c.requires.behind, c.requires.w_bound, c.point_of-stop_point.ensures, λ l t o. (o.before, fill_none _ _ _))

pub cap_of-cap-requires : goal.cap_of-cap-requires
cap_of-cap-requires c = c.requires.le_count.2

pub capped_step-drawn-requires : goal.capped_step-drawn-requires
capped_step-drawn-requires c =
    record {
      w_bound = c.loop-i.invariant.2;
      le_count = (c.requires.le_count.0, le_trans (capped-most _ c.cap_of-cap.ensures) c.requires.le_count.1);
    }

pub bounds-speeds-i : goal.bounds-speeds-i
bounds-speeds-i c = omega (arith, c.loop-i-test.true, c.loop-i.invariant.0, c.requires.from_le_end.1)

pub loop-i-preserved : goal.loop-i-preserved
loop-i-preserved c =
    let b = c.args.bands.now in
    let stops = c.args.stops.now in
    let i = c.loop-i.i in
    let j = c.if-stop_point-i in
    let kept : i ≤ c.loop-i.stop_point → i ≤ point_of c.loop-i.stop c.args.end = λ h. rw (← c.loop-i.invariant.3) h in
    let ahead : j.stop ≡ stop_ahead stops c.loop-i.stop i =
    elim j.branch [
      | then-stop_point-i w ↦ rw w.stop-is w.stop_ahead-stop.ensures
      | else-stop_point-i w ↦ rw w.stop-is (stop_kept stops c.loop-i.stop c.args.end (kept w.if-stop_point-i.false))
    ] in
    let point : j.stop_point ≡ point_of j.stop c.args.end =
    elim j.branch [
      | then-stop_point-i w ↦ rw (w.stop_point-is, w.stop-is) w.point_of-stop_point-then-stop_point-i.ensures
      | else-stop_point-i w ↦ rw (w.stop_point-is, w.stop-is) c.loop-i.invariant.3
    ] in
    let next_stop : NextStop stops j.stop i = next_here stops c.requires.apart c.loop-i.invariant.1 ahead in
    let stopped : eqb j.stop_point i ≡ listed i stops =
    rw point (at_point j.stop c.loop-i-test.true) ∙ here-listed stops c.requires.apart c.loop-i.invariant.1 ahead in
    let within : c.cap_of-cap.result.0 ≤ entry b.squares (b.count - 1) = le_trans (capped-most _ c.cap_of-cap.ensures) c.requires.le_count.1 in
    let most = b.bounded.square-most (b.count - 1) (omega (arith, c.requires.le_count.0)) in (
      length-set {A = ℕ} c.loop-i.speeds i c.capped_step-drawn.result.w.0 ∙ c.loop-i.invariant.0,
      behind_on next_stop (omega arith),
      omega (arith, c.capped_step-drawn.ensures, within),
      point,
      λ l t h.
          let (before, filled) = c.loop-i.invariant.4 l t h in
          let from : c.args.from ≤ i = c.loop-i.auto.i in
          let listed_here = rw h.stops_are at stopped in
          let cap = cap-at l t h.admitted i (h.lowest_is i from c.loop-i-test.true) listed_here c.cap_of-cap.ensures in
          let v = forward-at l t h.admitted i before cap (h.traction _) c.capped_step-drawn.ensures in
          (before_next l t i v, fill_up filled from (add-one _) (omega (arith, c.loop-i-test.true, c.requires.from_le_end.1)) v),
    )

pub returns : goal.returns
returns c =
    let o = c.loop-i in
    let e : o.i ≡ c.args.end = omega (arith, o.auto.i-end c.requires.from_le_end.0, c.loop-i-test.false) in
    record {
      carried = (rw e at o.invariant.1, o.invariant.2);
      speeds = rw e at o.invariant.4;
    }
