-- `place_train`: the refusal, or the parts of an accepted addition.
use Rattle.std.proofs.Common.{rules, ◌≡◌, ◌≢◌, ◌≤◌, ◌<◌, ◌+◌, ◌-◌, ◌*◌, ◌^◌, ◌∙◌, ◌++◌, ℕ, true, List, [], length, take, drop, min, eqb, sym, ap, arith}
use mathlib.Core.Bool.{cond}
use mathlib.Core.Option.{Option, none, some}
use Rattle.std.proofs.lemmas.List.{length-take-le, get_or-take}
use Rattle.rules.specs.Admitted.{Rule12, Rule14}
use Rattle.rules.specs.Calls.{Addition, accepted, refuse, added}
use Rattle.rules.specs.Count.{entry, greatest_below, or_zero}
use Rattle.rules.specs.Hold.{Hold}
use Rattle.rules.specs.Refusal.{first_broken, refusal, room_rule, adding_rules}
use Rattle.rules.specs.Sheet.{Sheet, end, least_start, block_named, sheet_after}
use Rattle.rules.proofs.Refusal.{head_accepted}
use Rattle.rules.proofs.Sheet.{rule_12, rule_14, all_kept_lem, added-kept, added-broken, start-most}
use Rattle.refusals.specs.declared.Refusal.{Refusal}
use Rattle.refusals.specs.Number.{number}
use Rattle.waits.specs.Fields.{sheet_from, hold_from}
use Rattle.holds.specs.Values.{as_sheet, as_hold}
use Rattle.sheet.proofs.InUse.{wait_in_use, block_in_use, written_in_use, kept_in_use}
use Rattle.refusals.proofs.Passing.{numbered}
use Rattle.sheet.proofs.Refused.{passed_as}
use Rattle.sheet.proofs.place_train.Goals as goal

-- a number other than 0 is that of a broken rule
some_of : (o : Option ℕ) {n : ℕ} → n ≡ or_zero o → n ≢ 0 → o ≡ some n
some_of none e not0 = absurd (not0 e)
some_of (some m) e not0 = ap some (sym e)

refused_by : (s : Sheet) (h : Hold) (r : Refusal) → number r ≡ refusal (adding_rules s h) → refuse s (number r) ≡ added s h
unfolding refusal
refused_by s h r e = sym (added-broken s h (number r) (some_of (first_broken (adding_rules s h)) e (numbered r)))

-- the rules are kept
abbrev Kept : Sheet → Hold → Type 0
Kept s h = Rule12 s × (room_rule s.trains ≡ true) × Rule14 s.blocks h

kept_by : (s : Sheet) (h : Hold) → 0 ≡ refusal (adding_rules s h) → Kept s h
kept_by s h e =
    let past-12 = head_accepted 12 _ _ (omega arith) (sym e) in
    let past-13 = head_accepted 13 _ _ (omega arith) past-12.1 in
    let past-14 = head_accepted 14 _ _ (omega arith) past-13.1 in
    ((rule_12 s).0 past-12.0, past-13.0, (rule_14 s.blocks h).0 past-14.0)

-- there is a place for each block
record Places (s : Sheet) (h : Hold) : Type 0 where
  free : s.blocks ≤ length s.free
  first : s.blocks ≤ length s.first
  begins : s.blocks ≤ length h.begins
  ends : s.blocks ≤ length h.ends

-- a call that keeps the rules, with the start that the code found
module _ (s : Sheet) (h : Hold) (kept : Kept s h) (places : Places s h) {start : ℕ}
    (e : start ≡ greatest_below (min (length (take s.blocks s.free)) (length (take s.blocks h.begins))) (λ b. entry (take s.blocks s.free) b - entry (take s.blocks h.begins) b)) where
  found : start ≡ least_start s h
  unfolding least_start
  found = e ∙ wait_in_use s.blocks s.free h.begins places.free places.begins

  start_in : start ≤ 64 * 2 ^ 44
  start_in = omega (arith, found, start-most s kept.0 h, kept.0.trains-most)

  accepted_by :
      {block : ℕ} (free first : List ℕ) →
      block ≡ block_named (sheet_from (min (length (take s.blocks s.free)) (length (take s.blocks h.begins))) 0 (take s.blocks s.free) [])
      (hold_from 0 (take s.blocks h.begins) []) start →
      length free ≡ length (take s.blocks s.free) → ((b : ℕ) → b < length (take s.blocks s.free) → entry free b ≡ start + entry (take s.blocks h.ends) b) →
      first ≡ cond (eqb s.trains 0) (take s.blocks h.begins) (take s.blocks s.first) →
      ◌≡◌ {A = Addition}
      (record { answer = accepted start block; sheet = sheet_from s.blocks (s.trains + 1) (free ++ drop s.blocks s.free) (first ++ drop s.blocks s.first) })
      (added s h)
  unfolding sheet_after
  accepted_by {block} free first f long at g =
      let n = s.blocks in
      let all : length (take n s.free) ≡ n = length-take-le n s.free places.free in
      let freed = written_in_use n s.free free (λ b. start + end h b) places.free (long ∙ all)
      (λ b l. at b (rw all l) ∙ ap (λ x. start + x) (get_or-take n h.ends b 0 l)) in
      rw (
        added-kept s h ((all_kept_lem s h).1 kept),
        ← found,
        f,
        block_in_use s h places.free places.begins start,
        freed,
        g,
        kept_in_use n s.first h.begins places.first places.begins (eqb s.trains 0),
      )

pub returns-in_err-check_adding : goal.returns-in_err-check_adding
returns-in_err-check_adding c = rw (passed_as _ _ c.from_residual.ensures.1) (refused_by _ _ _ c.in_err-check_adding.ensures)

pub shared_ref_as_front-begins : goal.shared_ref_as_front-begins
shared_ref_as_front-begins c =
    let kept = kept_by (as_sheet c.args.sheet.now) (as_hold c.args.hold.now) c.in_ok-check_adding.ensures in
    kept.0.blocks-most

pub overflow_add-sheet : goal.overflow_add-sheet
overflow_add-sheet c =
    let kept = kept_by (as_sheet c.args.sheet.now) (as_hold c.args.hold.now) c.in_ok-check_adding.ensures in
    omega (arith, kept.0.trains-most)

pub release-requires-clause-start_bound : goal.release-requires-clause-start_bound
release-requires-clause-start_bound c =
    let kept = kept_by (as_sheet c.args.sheet.now) (as_hold c.args.hold.now) c.in_ok-check_adding.ensures in
    start_in _ _ kept (record { free = omega arith; first = omega arith; begins = omega arith; ends = omega arith }) c.longest_wait-start.ensures

pub release-requires-clause-ends_bound : goal.release-requires-clause-ends_bound
release-requires-clause-ends_bound c =
    let kept = kept_by (as_sheet c.args.sheet.now) (as_hold c.args.hold.now) c.in_ok-check_adding.ensures in
    λ b l. rw (get_or-take c.args.sheet.now.blocks c.args.hold.now.ends b 0 (omega (arith, length-take-le c.args.sheet.now.blocks c.args.hold.now.ends (omega arith)))) (kept.2.end-most b (omega (arith, length-take-le c.args.sheet.now.blocks c.args.hold.now.ends (omega arith))))

pub returns : goal.returns
returns c =
    let kept = kept_by (as_sheet c.args.sheet.now) (as_hold c.args.hold.now) c.in_ok-check_adding.ensures in
    let places : Places (as_sheet c.args.sheet.now) (as_hold c.args.hold.now) = record { free = omega arith; first = omega arith; begins = omega arith; ends = omega arith } in
    accepted_by _ _ kept places c.longest_wait-start.ensures _ _ c.block_named-block.ensures (Prim.search rules) c.release.ensures c.keep_first.ensures
