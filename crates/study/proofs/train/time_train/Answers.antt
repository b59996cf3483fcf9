use mathlib.Core.Path.{◌≡◌, ap, ◌∙◌}
use native.Mathlib.Omega.{arith}
use Rattle.rules.specs.Line.{train_at}
use Rattle.values.specs.Values.{as_line, as_train}
use Rattle.reading.proofs.Decoding.{train_is}
use Rattle.study.proofs.Adding.{hold_made, hold_taken, speeds_long, times_long, last-arrival}
use Rattle.study.proofs.train.time_train.Goals as goal

pub unwrap-hold-requires : goal.unwrap-hold-requires
unwrap-hold-requires c =
    let train : as_train c.decode_train.result ≡ train_at c.args.bytes.now 0 = (let few = c.requires.admitted.1 in
    ap as_train c.decode_train.ensures ∙ train_is _ few.bands few.stops) in
    let a = c.args in
    hold_made (as_line a.line) (train_at a.bytes.now 0) c.requires.admitted.0 train a.speeds.now a.times.now c.requires.points_in_bounds.0 c.requires.points_in_bounds.1 _ c.hold_train.ensures.answer

pub overflow_sub-last : goal.overflow_sub-last
overflow_sub-last c = omega (arith, c.requires.admitted.0.rule3_line.points-least)

pub bounds-times-last : goal.bounds-times-last
bounds-times-last c =
    let train : as_train c.decode_train.result ≡ train_at c.args.bytes.now 0 = (let few = c.requires.admitted.1 in
    ap as_train c.decode_train.ensures ∙ train_is _ few.bands few.stops) in
    let a = c.args in
    let long =
    times_long (as_line a.line) (train_at a.bytes.now 0) c.requires.admitted.0 train a.speeds.now a.times.now c.requires.points_in_bounds.0 c.requires.points_in_bounds.1
    c.hold_train.ensures.times in
    omega (arith, c.requires.admitted.0.rule3_line.points-least, c.requires.points_in_bounds.1, long)

pub returns : goal.returns
returns c =
    let train : as_train c.decode_train.result ≡ train_at c.args.bytes.now 0 = (let few = c.requires.admitted.1 in
    ap as_train c.decode_train.ensures ∙ train_is _ few.bands few.stops) in
    let a = c.args in
    let e = c.hold_train.ensures in
    let l = as_line a.line in
    let t = train_at a.bytes.now 0 in record {
      hold_value = (
        hold_taken l t c.requires.admitted.0 train a.speeds.now a.times.now c.requires.points_in_bounds.0 c.requires.points_in_bounds.1 c.unwrap-hold.ensures e.answer,
        rw c.from-last.ensures (last-arrival l t c.requires.admitted.0 train a.speeds.now a.times.now c.requires.points_in_bounds.0 c.requires.points_in_bounds.1 e.times),
      );
      speeds_len_unchanged = (
        speeds_long l t c.requires.admitted.0 train a.speeds.now a.times.now c.requires.points_in_bounds.0 c.requires.points_in_bounds.1 e.speeds,
        times_long l t c.requires.admitted.0 train a.speeds.now a.times.now c.requires.points_in_bounds.0 c.requires.points_in_bounds.1 e.times,
      );
    }
