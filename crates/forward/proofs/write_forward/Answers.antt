use Prim.Native.Nat.{◌≤◌}
use mathlib.Core.Logic.{inl, inr, ⊎_elim}
use mathlib.Core.Path.{◌≡◌, refl, sym}
use native.Mathlib.Nat.{eq-or-lt_of_le, le_trans}
use native.Mathlib.Omega.{arith}
use Rattle.rules.specs.Count.{entry}
use Rattle.rules.specs.Line.{Line}
use Rattle.rules.proofs.Count.{length-row}
use Rattle.rules.proofs.Fill.{fill_none, fill_join}
use Rattle.rules.proofs.Written.{fill_written}
use Rattle.rules.proofs.Step.{squared_mono, last_top-most}
use Rattle.values.specs.Values.{as_line, as_train}
use lib.ListN.{length, take, length-take}
use Rattle.std.proofs.Common.{rules}
use Rattle.chains.proofs.InUse.{taken_row}
use Rattle.stops.proofs.Passing.{behind-first}
use Rattle.caps.proofs.Walk.{course_is, known_at, nearing_first, nearing_next, known_lowest, known_top}
use Rattle.judging.proofs.Admitting.{admitted}
use Rattle.forward.proofs.Traction.{count-least, count_most, traction_is, last-most}
use Rattle.forward.proofs.Sweeping.{OnCourse, before-start}
use Rattle.values.specs.declared.decoded.Line.{Line as DecodedLine}
use Rattle.values.specs.declared.decoded.Train.{Train as DecodedTrain}
use Rattle.caps.specs.Caps.{limit_places, balise_places}
use Rattle.caps.specs.declared.places.Places.{Places}
use Rattle.forward.specs.Traction.{IsBands}
use Rattle.forward.specs.declared.bands.Bands.{Bands}
use Rattle.rules.specs.Admitted.{Admitted}
use Rattle.rules.specs.Run.{last_top}
use Prim.Native.Nat.{ℕ}
use Rattle.forward.proofs.write_forward.Goals as goal

-- the line that is swept is one to which what was found before the loop belongs
here :
    (line : DecodedLine) (train : DecodedTrain) {limits_at balises_at : Places} {top end : ℕ} {bands : Bands} → Admitted (as_line line) (as_train train) →
    limits_at ≡ limit_places line → balises_at ≡ balise_places line → top ≡ last_top (as_train train) →
    IsBands (as_line line) (as_train train) bands.count bands.gains bands.squares → end ≤ line.points →
    OnCourse (as_line line) (as_train train)
    (record { limits_at = limits_at; limits = line.limits; balises_at = balises_at; step = line.step; length = train.length; top = top }) bands end
here line train a p q e b m = record { admitted = a; course = course_is line train a p q e; bands = b; on_line = m }

-- the stops in use
few : (train : DecodedTrain) {line : Line} → Admitted line (as_train train) → train.stop_count ≤ 64
few train a = let n = length-row (entry train.stops) train.stop_count in omega (arith, a.rule3_train.stops-most)

stops_are : (train : DecodedTrain) {line : Line} → length train.stops ≡ 64 → Admitted line (as_train train) → take train.stop_count train.stops ≡ (as_train train).stops
stops_are train long a = taken_row train.stops (omega (arith, few train a))

pub slice_bounds-stop_points-end : goal.slice_bounds-stop_points-end
slice_bounds-stop_points-end c = omega (arith, few c.args.on.train (admitted c.args.on))

pub slice_bounds-stops-end : goal.slice_bounds-stops-end
slice_bounds-stops-end c =
    let t = c.args.on.train in
    let long : length t.stops ≡ 64 = search rules in
    let some = few t (admitted c.args.on) in
    omega (arith, length-take t.stop_count t.stops)

pub last_top-requires : goal.last_top-requires
last_top-requires c =
    (count-least _ c.args.on.train (admitted c.args.on), omega (arith, count_most _ c.args.on.train (admitted c.args.on)))

pub loop-i-init : goal.loop-i-init
loop-i-init c =
    let first = c.swept_from-swept.ensures in (
      omega arith,
      rw first.1 (behind-first (take c.args.on.train.stop_count c.args.on.train.stops) c.first_stop.ensures),
      omega (arith, first.0),
      λ l on. (nearing_first l _ on.admitted refl, rw first.0 (before-start l _), fill_none _ _ _),
    )

pub narrow_point-requires : goal.narrow_point-requires
narrow_point-requires c = omega (arith, c.loop-i-test.true, c.requires.0, (admitted c.args.on).rule3_line.points-most)

pub stretch_end-next-requires : goal.stretch_end-next-requires
stretch_end-next-requires c = c.loop-i-test.true

pub write_stretch-swept-requires : goal.write_stretch-swept-requires
write_stretch-swept-requires c =
    let kept = admitted c.args.on in
    let on =
    here c.args.on.line c.args.on.train kept c.limit_places-limits_at.ensures c.balise_places-balises_at.ensures c.last_top.ensures c.bands_of-bands.ensures
    c.requires.0 in
    let done = c.loop-i.invariant.3 _ on in
    let m = last-most _ _ kept on.bands in
    let e = c.stretch_end-next.ensures in
    let low = known_top _ _ kept (known_at _ _ on.admitted on.course c.loop-i.i c.narrow_point.ensures done.0 c.covered_at-covered.ensures) in
    let long = done.2.long in
    record {
      le_count = (m.0, rw m.1 (squared_mono low), le_trans low (last_top-most _ _ kept));
      w_bound = c.loop-i.invariant.2;
      apart = rw (stops_are c.args.on.train (search rules) kept) kept.rule8.apart;
      behind = c.loop-i.invariant.1;
      from_le_end = (omega (arith, e.0), omega (arith, e.1, long, c.requires.1));
    }

pub loop-i-smaller : goal.loop-i-smaller
loop-i-smaller c = let e = c.stretch_end-next.ensures in omega (arith, e.0, e.1)

pub loop-i-preserved : goal.loop-i-preserved
loop-i-preserved c =
    let swept = c.write_stretch-swept.ensures in
    let e = c.stretch_end-next.ensures in (
      e.1,
      swept.carried.0,
      swept.carried.1,
      λ l on.
          let done = c.loop-i.invariant.3 l on in
          let covers = known_at l _ on.admitted on.course c.loop-i.i c.narrow_point.ensures done.0 c.covered_at-covered.ensures in
          let (before, filled) = swept.speeds l _ (record {
            admitted = on.admitted;
            traction = traction_is l _ on.admitted on.bands;
            stops_are = stops_are c.args.on.train (search rules) (admitted c.args.on);
            lowest_is = λ j h m.
                let there = ⊎_elim (λ q. inl (sym q)) (λ q. inr (h, e.2 j q m)) (eq-or-lt_of_le h) in
                known_lowest l _ on.admitted covers j there (omega (arith, e.1, on.on_line));
            before = done.1;
          }) in
          (nearing_next l _ on.admitted covers (omega (arith, e.0)), before, fill_join done.2 filled (omega arith) (omega (arith, e.0))),
    )

pub shape_of-speeds : goal.shape_of-speeds
shape_of-speeds c =
    let on =
    here c.args.on.line c.args.on.train (admitted c.args.on) c.limit_places-limits_at.ensures c.balise_places-balises_at.ensures c.last_top.ensures
    c.bands_of-bands.ensures c.requires.0 in
    (c.loop-i.invariant.3 _ on).2.long

pub returns : goal.returns
returns c =
    let on =
    here c.args.on.line c.args.on.train (admitted c.args.on) c.limit_places-limits_at.ensures c.balise_places-balises_at.ensures c.last_top.ensures
    c.bands_of-bands.ensures c.requires.0 in
    let q : c.loop-i.i ≡ c.args.end = omega (arith, c.loop-i-test.false, c.loop-i.invariant.0) in
    fill_written (c.loop-i.invariant.3 _ on).2 q c.requires.1
