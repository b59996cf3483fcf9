use Rattle.std.proofs.Common.{length, arith, rules, length-append}
use Rattle.std.proofs.lemmas.Slice.Zip.{zip_turn, zip_end}
use Rattle.diagram.proofs.Drawing.{drawn-none, drawn_next, drawn_all}
use Rattle.diagram.proofs.points.write_points.Goals as goal

pub loop-speed-init : goal.loop-speed-init
loop-speed-init c = (drawn-none _ _ _ _ _, c.root-here.ensures.1)

pub point_of-requires : goal.point_of-requires
point_of-requires c =
    let a = c.args in
    let turn =
    zip_turn a.speeds.now a.times.now c.loop-speed.yielded c.into_iter-speed-iterator.result c.loop-speed.speed-iterator c.next.new.self _ (search rules)
    (search rules) c.loop-speed.yielded_by _ c.in-Some.is c.next.ensures.steps in
    rw (turn.3 0) (c.requires.small (length c.loop-speed.yielded) turn.0)

pub loop-speed-preserved : goal.loop-speed-preserved
loop-speed-preserved c =
    let a = c.args in
    let turn =
    zip_turn a.speeds.now a.times.now c.loop-speed.yielded c.into_iter-speed-iterator.result c.loop-speed.speed-iterator c.next.new.self _ (search rules)
    (search rules) c.loop-speed.yielded_by _ c.in-Some.is c.next.ensures.steps in
    let speed = turn.2 0 in
    let time = turn.3 0 in (
      rw length-append
          (drawn_next _ _ _ _ _ c.loop-speed.invariant.0 turn.0 c.requires.points_bound.2 c.requires.points_in_bounds (rw speed at c.root_after-here.ensures.0)
          (rw time at c.point_of.ensures.0) c.put_figures.ensures c.dot.ensures (search rules)),
      c.root_after-here.ensures.1,
    )

pub returns : goal.returns
returns c =
    let a = c.args in
    let all =
    zip_end a.speeds.now a.times.now c.loop-speed.yielded c.into_iter-speed-iterator.result c.loop-speed.speed-iterator c.next.new.self _ (search rules)
    (search rules) c.loop-speed.yielded_by c.in-None.is c.next.ensures.steps in
    drawn_all _ _ _ _ _ c.loop-speed.invariant.0 (omega (arith, all))
