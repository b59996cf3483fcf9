-- `first_place`: at the loop's test the first k places have been tried.
use Rattle.std.proofs.Common.{◌≡◌, ℕ, Bool, List, length, take, arith, refl, sym, ◌∙◌}
use Rattle.rules.specs.Count.{entry}
use Rattle.rules.specs.Hold.{Hold}
use Rattle.rules.specs.Path.{PlacedRows}
use Rattle.holds.specs.Values.{as_hold}
use Rattle.order.specs.Clear.{clear_of}
use Rattle.path_judging.specs.Rows.{as_rows, row_of}
use Rattle.path.proofs.Tried.{tried_none, bounds_at, room_at, next_at, room_behind}
use Rattle.path.proofs.search.first_place.Goals as goal

-- what the code asks with the row that it has taken
asked :
    (h : Hold) (p : PlacedRows) (k start : ℕ) {begins : List ℕ} {r : Bool} → begins ≡ row_of h.blocks k p.begins →
    r ≡ clear_of start (take h.blocks h.ends) (entry p.starts k) begins →
    r ≡ clear_of start (take h.blocks h.ends) (entry p.starts k) (row_of h.blocks k p.begins)
asked h p k start e f = rw (← e) f

pub loop-k-init : goal.loop-k-init
loop-k-init c = tried_none _ _ _ _

pub returns-then-clear_of : goal.returns-then-clear_of
returns-then-clear_of c =
    let h = as_hold c.args.hold.now in
    let p = as_rows c.args.rows in
    room_at h p _ c.requires.1 (omega (arith, c.requires.0)) _ c.loop-k-test.true c.loop-k.invariant
    (sym (asked h p _ _ c.row_of.ensures c.clear_of.ensures) ∙ c.if-clear_of.true)

pub least_behind-start-requires : goal.least_behind-start-requires
least_behind-start-requires c =
    let h = as_hold c.args.hold.now in
    let p = as_rows c.args.rows in
    let bounds = bounds_at h p c.args.low c.requires.1 (omega (arith, c.requires.0)) _ c.loop-k-test.true in
    rw c.row_of-in-loop-k.ensures (record { fits = (bounds.0, bounds.2); beside = omega (arith, bounds.1, c.requires.0) })

pub loop-k-preserved : goal.loop-k-preserved
loop-k-preserved c =
    let h = as_hold c.args.hold.now in
    let p = as_rows c.args.rows in
    next_at h p _ c.requires.1 (omega (arith, c.requires.0)) _ c.loop-k-test.true c.loop-k.invariant
    (sym (asked h p _ _ c.row_of.ensures c.clear_of.ensures) ∙ c.if-clear_of.false)
    (rw c.row_of-in-loop-k.ensures at c.least_behind-start.ensures)

pub returns : goal.returns
returns c =
    let h = as_hold c.args.hold.now in
    let p = as_rows c.args.rows in
    room_behind h p _ c.requires.1 (omega (arith, c.requires.0)) refl
    (rw (let done : c.loop-k.k ≡ length c.args.rows.starts.now = omega arith in done) at c.loop-k.invariant)
