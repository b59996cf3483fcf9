-- What the run of a decoded line and train answers, and what it leaves in the lent buffers.
use Rattle.std.specs.Prelude.{ℕ, List, [], ◌∷◌, ◌++◌, length}
use Rattle.rules.specs.Line.{Line, Train}
use Rattle.rules.specs.Run.{run_row}
use Rattle.rules.specs.Time.{run_times}
use Rattle.rules.specs.Refusal.{rule, refusal, rules_on, buffers_long}
use Rattle.rules.specs.Calls.{lent_after}

-- the file's rules from 3 on, then 11, by the lengths of the lent buffers
unfoldable pub run_refusal_on : Line → Train → ℕ → ℕ → ℕ
run_refusal_on l t speeds times = refusal (rules_on l t ++ (rule 11 (buffers_long l speeds times) ∷ []))

unfoldable pub speeds_on : Line → Train → List ℕ → List ℕ → List ℕ
speeds_on l t speeds times = lent_after (run_refusal_on l t (length speeds) (length times)) (run_row l t) speeds

unfoldable pub times_on : Line → Train → List ℕ → List ℕ → List ℕ
times_on l t speeds times = lent_after (run_refusal_on l t (length speeds) (length times)) (run_times l t) times
