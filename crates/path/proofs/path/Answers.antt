-- `path`: the rules before 17, then the search.
use Rattle.std.proofs.Common.{sym, ◌∙◌}
use Rattle.std.proofs.lemmas.Bool.{leb-true, leb-false}
use Rattle.rules.specs.Path.{Placeable}
use Rattle.rules.proofs.Path.{placeable, path_told}
use Rattle.holds.specs.Values.{as_hold}
use Rattle.path_judging.specs.Rows.{as_rows}
use Rattle.refusals.proofs.Passing.{refuses, passes, numbered}
use Rattle.path.proofs.Answers.{refusal_told, refused-before, found_late, found_in_time}
use Rattle.path.proofs.path.Goals as goal

pub returns-in_err-check_placing : goal.returns-in_err-check_placing
returns-in_err-check_placing c =
    let h = as_hold c.args.hold.now in
    let p = as_rows c.args.rows in
    let told = path_told h p c.args.low c.args.high
    (refusal_told _ _ c.from_residual.ensures.1
    ∙ refused-before h p c.args.low c.args.high c.in_err-check_placing.ensures (numbered _)) in
    record { answer = told.0; path = told.1 }

pub first_place-found-requires : goal.first_place-found-requires
first_place-found-requires c =
    let kept : Placeable (as_hold c.args.hold.now) (as_rows c.args.rows) c.args.low c.args.high = placeable _ _ _ _ (sym c.in_ok-check_placing.ensures) in
    (kept.blocks-most, kept.rows)

pub returns-in_err-unless : goal.returns-in_err-unless
returns-in_err-unless c =
    let h = as_hold c.args.hold.now in
    let p = as_rows c.args.rows in
    let kept : Placeable h p c.args.low c.args.high = placeable _ _ _ _ (sym c.in_ok-check_placing.ensures) in
    let (late, own) = refuses _ _ _ c.in_err-unless.ensures in
    let told = path_told h p c.args.low c.args.high
    (refusal_told _ _ c.from_residual-in_err-unless.ensures.1
    ∙ rw own (found_late h p c.args.low c.args.high kept c.first_place-found.ensures (leb-false _ _ late))) in
    record { answer = told.0; path = told.1 }

pub returns : goal.returns
returns c =
    let h = as_hold c.args.hold.now in
    let p = as_rows c.args.rows in
    let kept : Placeable h p c.args.low c.args.high = placeable _ _ _ _ (sym c.in_ok-check_placing.ensures) in
    let told = path_told h p c.args.low c.args.high
    (found_in_time h p c.args.low c.args.high kept c.first_place-found.ensures (leb-true _ _ (passes _ _ c.in_ok-unless.ensures))) in
    record { answer = told.0; path = told.1 }
