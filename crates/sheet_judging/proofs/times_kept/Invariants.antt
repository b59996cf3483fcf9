-- `times_kept`: at the loop's test the first i holds keep rule 14.
use Rattle.std.proofs.Common.{ℕ, ◌≡◌, ◌≤◌, ◌^◌, min, length, Bool, true, List, leb, ltb}
use Rattle.rules.specs.Count.{◌and◌, entry, every}
use Rattle.sheet_judging.proofs.times_kept.Given as goal

-- the test of one hold
abbrev pub test : List ℕ → List ℕ → ℕ → Bool
test begins ends i = ltb (entry begins i) (entry ends i) and leb (entry ends i) (2 ^ 44)

abbrev pub invariant-loop-i : goal.invariant-loop-i
invariant-loop-i l = (l.i ≤ min (length l.begins) (length l.ends)) × (every l.i (test l.begins l.ends) ≡ true)
