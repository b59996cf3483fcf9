-- `window_kept`: a lower end above 2^50 needs a higher one above it.
use Rattle.std.proofs.Common.{◌≡◌, ℕ, ◌≤◌, ◌<◌, ◌^◌, leb, arith}
use Rattle.std.proofs.lemmas.Bool.{leb-true, le-leb, lt-leb}
use Rattle.rules.specs.Path.{window_rule}
use Rattle.rules.proofs.Count.{same_test, fails}
use Rattle.rules.proofs.Path.{rule_16_window}
use Rattle.path_judging.proofs.window_kept.Goals as goal

module _ (low high : ℕ) where
  by_high : low ≤ high → leb high (2 ^ 50) ≡ window_rule low high
  by_high l =
      same_test (leb high (2 ^ 50)) (window_rule low high)
      (λ e. let m = leb-true high (2 ^ 50) e in (rule_16_window low high).1 (record { low_most = omega arith; high_most = m; not_before = l }))
      (λ e. le-leb high (2 ^ 50) ((rule_16_window low high).0 e).high_most)

  ends_before : high < low → leb low high ≡ window_rule low high
  ends_before l = rw (lt-leb low high l) (fails (window_rule low high) (λ e. omega (arith, l, ((rule_16_window low high).0 e).not_before)))

pub returns-then-low-high : goal.returns-then-low-high
returns-then-low-high c = by_high _ _ c.if-low-high.true

pub returns-else-low-high : goal.returns-else-low-high
returns-else-low-high c = ends_before _ _ c.if-low-high.false
