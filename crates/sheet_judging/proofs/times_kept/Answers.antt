-- `times_kept`: each hold keeps rule 14, one after the other.
use Rattle.std.proofs.Common.{◌≡◌, ◌≤◌, ◌<◌, ◌^◌, ℕ, false, leb, ltb, arith, sym}
use Rattle.std.proofs.lemmas.Bool.{le-leb, lt-leb, lt-ltb, le-ltb}
use Rattle.rules.specs.Count.{◌and◌}
use Rattle.rules.proofs.Count.{and_both}
use Rattle.rules.proofs.Loops.{every-none, every_more, every-broken, every_done}
use Rattle.sheet_judging.specs.Times.{times_kept}
use Rattle.sheet_judging.proofs.times_kept.Goals as goal

module _ (begin end : ℕ) where
  empty : end ≤ begin → (ltb begin end and leb end (2 ^ 44)) ≡ false
  unfolding ◌and◌
  empty l = rw (le-ltb begin end l)

  late : begin < end → 2 ^ 44 < end → (ltb begin end and leb end (2 ^ 44)) ≡ false
  unfolding ◌and◌
  late l m = rw (lt-ltb begin end l, lt-leb end (2 ^ 44) m)

pub loop-i-init : goal.loop-i-init
loop-i-init c = (omega arith, every-none _)

pub returns-then-ends-i : goal.returns-then-ends-i
unfolding times_kept
returns-then-ends-i c = sym (every-broken _ _ _ (omega arith) (empty _ _ c.if-ends-i.true))

pub returns-then-ends-i-gt-LATEST_END : goal.returns-then-ends-i-gt-LATEST_END
unfolding times_kept
returns-then-ends-i-gt-LATEST_END c = sym (every-broken _ _ _ (omega arith) (late _ _ (omega arith) c.if-ends-i-gt-LATEST_END.true))

pub loop-i-preserved : goal.loop-i-preserved
loop-i-preserved c = (omega arith, every_more _ _ c.loop-i.invariant.1 (and_both (lt-ltb _ _ c.if-ends-i.false) (le-leb _ _ c.if-ends-i-gt-LATEST_END.false)))

pub returns : goal.returns
unfolding times_kept
returns c = sym (every_done _ c.loop-i.invariant.0 (omega arith) c.loop-i.invariant.1)
