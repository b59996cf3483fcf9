use mathlib.Core.Path.{◌≡◌, sym, ◌∙◌}
use native.Mathlib.Omega.{arith}
use native.Mathlib.Numerals.{add-one}
use Rattle.rules.proofs.Count.{below_suc}
use borrow.Author.Rules.{rules}
use lib.ListN.{length, take}
use Rattle.std.proofs.lemmas.List.{length-append, length-take-le}
use Rattle.std.proofs.lemmas.Slice.Zip.{zip_turn, zip_end}
use Rattle.balises.proofs.Places.{all_kept_lem, at_turn, broken-at, broken_at_64}
use Rattle.balises.proofs.balises_kept.Goals as goal

pub returns-then-n-gt64 : goal.returns-then-n-gt64
returns-then-n-gt64 c = broken-at c.args.line c.if-n-gt64.true (broken_at_64 c.args.line (search rules) (search rules))

pub returns-then-line-metres : goal.returns-then-line-metres
returns-then-line-metres c =
    let here = at_turn c.args.line (zip_turn _ _ c.loop-point.yielded c.into_iter-point-iterator.result c.loop-point.point-iterator c.next.new.self _ (search rules) (search rules) c.loop-point.yielded_by
    (c.in-Some.point, c.in-Some.metres) c.in-Some.is c.next.ensures.steps) in
    broken-at c.args.line {k = length c.loop-point.yielded} here.0 (λ r. grind arith)

pub loop-point-preserved : goal.loop-point-preserved
loop-point-preserved c =
    let here = at_turn c.args.line (zip_turn _ _ c.loop-point.yielded c.into_iter-point-iterator.result c.loop-point.point-iterator c.next.new.self _ (search rules) (search rules) c.loop-point.yielded_by
    (c.in-Some.point, c.in-Some.metres) c.in-Some.is c.next.ensures.steps) in
    let o = c.loop-point in
    rw (length-append, add-one (length c.loop-point.yielded)) (omega arith, below_suc _ _ o.invariant.1 (record { least = omega arith; metres = omega arith; most = omega arith }))

pub returns : goal.returns
returns c =
    let l = c.args.line in
    let points : length l.balise_points ≡ 64 = search rules in
    let metres : length l.balise_metres ≡ 64 = search rules in
    let all : length c.loop-point.yielded ≡ l.balise_count =
    zip_end (take l.balise_count l.balise_points) (take l.balise_count l.balise_metres) c.loop-point.yielded
    c.into_iter-point-iterator.result c.loop-point.point-iterator c.next.new.self _ (search rules) (search rules) c.loop-point.yielded_by c.in-None.is c.next.ensures.steps ∙ omega (arith, length-take-le l.balise_count l.balise_points, length-take-le l.balise_count l.balise_metres) in
    sym (all_kept_lem l (rw all at c.loop-point.invariant.1))
