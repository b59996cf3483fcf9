-- What the path call's answer stands for in the rules, and what its search finds.
use Rattle.std.specs.Prelude.{ℕ, ◌+◌, ◌≤◌, ◌<◌, List, Result, Ok, Err}
use Rattle.rules.specs.Count.{entry}
use Rattle.rules.specs.Hold.{Hold}
use Rattle.rules.specs.Path as paths
use Rattle.rules.specs.Path.{IsPlace}
use Rattle.refusals.specs.declared.Refusal.{Refusal}
use Rattle.refusals.specs.Number.{number}
use Rattle.path.specs.declared.search.Path.{Path}

abbrev pub as_path_answer : Result Path Refusal → paths.PathAnswer
as_path_answer (Ok p) = paths.path_of p.start p.before
as_path_answer (Err r) = paths.no_path (number r)

-- In the first n blocks a train with this start and these beginnings comes behind one ahead with its start and its ends.
abbrev pub Behind : ℕ → ℕ → List ℕ → List ℕ → ℕ → Type 0
Behind n ahead ends begins start = (b : ℕ) → b < n → ahead + entry ends b ≤ start + entry begins b

-- the least such start from `low` on
pub record LeastBehind (n low ahead : ℕ) (ends begins : List ℕ) (start : ℕ) : Type 0 where
  pub from_low : low ≤ start
  pub behind : Behind n ahead ends begins start
  pub least : (other : ℕ) → low ≤ other → Behind n ahead ends begins other → start ≤ other

-- The least start from `low` on that has a place among the trains hs with the starts ts, and its place.
pub record LeastPlace (h : Hold) (hs : List Hold) (ts : List ℕ) (low start place : ℕ) : Type 0 where
  pub from_low : low ≤ start
  pub placed : IsPlace h hs ts start place
  pub least : (other k : ℕ) → low ≤ other → IsPlace h hs ts other k → start ≤ other
