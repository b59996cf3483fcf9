-- `longest_wait`: one block after the other.
use Rattle.std.proofs.Common.{rules, ◌≡◌, ◌+◌, ℕ, length, max, refl, ◌∙◌}
use native.Mathlib.Numerals.{add-one}
use lib.ListN.{length-append}
use Rattle.std.proofs.lemmas.Slice.Zip.{zip_turn, zip_end}
use Rattle.rules.specs.Count.{greatest_below}
use Rattle.waits.proofs.wait.longest_wait.Goals as goal

-- the next number taken in
one_more : (f : ℕ → ℕ) (n : ℕ) {longest next : ℕ} → longest ≡ greatest_below n f → next ≡ max longest (f n) → next ≡ greatest_below (n + 1) f
unfolding greatest_below
one_more f n e p = rw add-one (p ∙ rw e)

pub loop-free_time-init : goal.loop-free_time-init
unfolding greatest_below
loop-free_time-init c = refl

pub loop-free_time-preserved : goal.loop-free_time-preserved
loop-free_time-preserved c =
    let o = c.loop-free_time in
    let (there, beside, time, begin) =
    zip_turn c.args.free.now c.args.begins.now o.yielded c.into_iter-free_time-iterator.result o.free_time-iterator c.next.new.self _ (search rules)
    (search rules) o.yielded_by (c.in-Some.free_time, c.in-Some.begin) c.in-Some.is c.next.ensures.steps in
    rw length-append (one_more _ (length o.yielded) o.invariant (rw (time 0, begin 0) at c.later-longest.ensures))

pub returns : goal.returns
returns c =
    let o = c.loop-free_time in
    let done =
    zip_end c.args.free.now c.args.begins.now o.yielded c.into_iter-free_time-iterator.result o.free_time-iterator c.next.new.self _ (search rules)
    (search rules) o.yielded_by c.in-None.is c.next.ensures.steps in
    rw done at o.invariant
