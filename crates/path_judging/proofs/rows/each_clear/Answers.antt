-- `each_clear`: at the loop's test each row before k is clear of the next, as far as that one lies before k too.
use Rattle.std.proofs.Common.{◌≡◌, ◌<◌, ◌≤◌, ◌+◌, ◌-◌, ℕ, Bool, true, false, List, length, arith, sym, ◌∙◌}
use Rattle.rules.specs.Count.{entry, every}
use Rattle.rules.specs.Path.{PlacedRows}
use Rattle.rules.proofs.Loops.{every-none, every_more, every-broken, every_done}
use Rattle.order.specs.Clear.{clear_of}
use Rattle.path_judging.specs.Rows.{as_rows, row_of, next_clear, each_clear}
use Rattle.path_judging.proofs.rows.each_clear.Goals as goal

module _ (n : ℕ) (p : PlacedRows) (k : ℕ) (l : 1 ≤ k) where
  -- what the code asks of the row before k and of row k
  asked :
      {ends begins : List ℕ} → ends ≡ row_of n (k - 1) p.ends → begins ≡ row_of n k p.begins → {r : Bool} →
      r ≡ clear_of (entry p.starts (k - 1)) ends (entry p.starts k) begins → r ≡ next_clear n p (k - 1)
  unfolding next_clear
  asked e f g = let up : k - 1 + 1 ≡ k = omega arith in rw (up, ← e, ← f) g

  one_more : every (k - 1) (next_clear n p) ≡ true → next_clear n p (k - 1) ≡ true → every (k + 1 - 1) (next_clear n p) ≡ true
  one_more before here = let up : k + 1 - 1 ≡ k - 1 + 1 = omega arith in rw up (every_more _ _ before here)

  not_clear : k < length p.starts → next_clear n p (k - 1) ≡ false → false ≡ each_clear n p
  unfolding each_clear
  not_clear m here = sym (every-broken _ _ (k - 1) (omega arith) here)

pub loop-k-init : goal.loop-k-init
loop-k-init c = record { within = omega arith; clear = every-none _ }

pub returns-then-not-clear_of : goal.returns-then-not-clear_of
returns-then-not-clear_of c =
    let p = as_rows c.args.rows in
    not_clear _ p _ c.loop-k.auto.k c.loop-k-test.true
    (sym (asked _ p _ c.loop-k.auto.k c.row_of.ensures c.row_of-in-loop-k.ensures c.clear_of.ensures) ∙ c.if-not-clear_of.true)

pub loop-k-preserved : goal.loop-k-preserved
loop-k-preserved c =
    let p = as_rows c.args.rows in
    record {
      within = omega arith;
      clear = one_more _ p _ c.loop-k.auto.k c.loop-k.invariant.clear
          (sym (asked _ p _ c.loop-k.auto.k c.row_of.ensures c.row_of-in-loop-k.ensures c.clear_of.ensures) ∙ c.if-not-clear_of.false);
    }

pub returns : goal.returns
unfolding each_clear
returns c = sym (every_done _ c.loop-k.invariant.within (omega arith) c.loop-k.invariant.clear)
