-- What a sweep up to a point leaves in the lent buffer.
use Rattle.std.specs.Prelude.{ℕ, ◌+◌, min, List, length}
use Rattle.rules.specs.Count.{row}
use Rattle.rules.specs.Line.{Line, Train}
use Rattle.rules.specs.Run.{forward}
use Rattle.rules.specs.Refusal.{refusal, rules_on}
use Rattle.rules.specs.Calls.{lent_after}

-- of the points up to and including the one given, how many are on the line and have an entry in the buffer
unfoldable pub entries_to : ℕ → ℕ → ℕ → ℕ
entries_to point points room = min (point + 1) (min points room)

-- these entries are the forward row's, and every later one keeps its value; where a rule from 3 on is broken, all do
unfoldable pub swept_on : Line → Train → ℕ → List ℕ → List ℕ
swept_on l t point speeds = lent_after (refusal (rules_on l t)) (row (forward l t) (entries_to point l.points (length speeds))) speeds
