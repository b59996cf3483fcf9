-- What each call answers, and what it leaves in memory that is lent to it.
use Rattle.std.specs.Prelude.{ℕ, ◌+◌, cond, List, [], ◌++◌, eqb, length, take, drop}
use Rattle.std.proofs.Math.Option.{Option, none, some}
use Rattle.rules.specs.File.{record_at, record_size, record_bytes}
use Rattle.rules.specs.Line.{line_of, train_of}
use Rattle.rules.specs.Run.{run_row}
use Rattle.rules.specs.Time.{run_times}
use Rattle.rules.specs.Hold.{Hold, empty_hold, hold_of}
use Rattle.rules.specs.Sheet.{Sheet, fresh, least_start, block_named, sheet_after}
use Rattle.rules.specs.Refusal.{refusal, first_broken, file_rules, train_rules, run_rules, count_rule, adding_rules}

-- a buffer with the entries from place `at` on replaced by the values; the others stay
unfoldable pub written : List ℕ → ℕ → List ℕ → List ℕ
written buffer at values = take at buffer ++ (values ++ drop (at + length values) buffer)

-- a lent buffer after a call with this number of refusal, or 0: it begins with the values; on a refusal every value is kept
unfoldable pub lent_after : ℕ → List ℕ → List ℕ → List ℕ
lent_after number values buffer = cond (eqb number 0) (written buffer 0 values) buffer

-- ---- file calls: 0, or the number of refusal

unfoldable pub file_refusal : List ℕ → ℕ
file_refusal file = refusal (file_rules file)

unfoldable pub train_refusal : List ℕ → ℕ → ℕ
train_refusal file k = refusal (train_rules file k)

-- the part handed out for train k: its record, or the empty part on a refusal
unfoldable pub train_record : List ℕ → ℕ → List ℕ
train_record file k = cond (eqb (train_refusal file k) 0) (record_bytes file k) []

-- where that record stands: the number 0, its first byte and how many bytes it has, or the number of refusal, 0 and 0
pub record RecordPlace : Type 0 where
  pub number : ℕ
  pub start : ℕ
  pub length : ℕ

unfoldable pub record_place : List ℕ → ℕ → RecordPlace
record_place file k =
    cond (eqb (train_refusal file k) 0) (record { number = 0; start = record_at file k; length = record_size file (record_at file k) })
    (record { number = train_refusal file k; start = 0; length = 0 })

-- the run call and the hold call, by the lengths of the lent buffers
unfoldable pub run_refusal : List ℕ → ℕ → ℕ → ℕ → ℕ
run_refusal file k speeds times = refusal (run_rules file k speeds times)

-- the lent buffers after the run call and the hold call: the first P entries are the run's; on a refusal every value is kept
unfoldable pub speeds_after : List ℕ → ℕ → List ℕ → List ℕ → List ℕ
speeds_after file k speeds times = lent_after (run_refusal file k (length speeds) (length times)) (run_row (line_of file) (train_of file k)) speeds

unfoldable pub times_after : List ℕ → ℕ → List ℕ → List ℕ → List ℕ
times_after file k speeds times = lent_after (run_refusal file k (length speeds) (length times)) (run_times (line_of file) (train_of file k)) times

-- ---- the hold call: the hold record and the number 0, or the number of refusal and a record of no blocks

pub record HoldAnswer : Type 0 where
  pub number : ℕ
  pub hold : Hold

unfoldable pub held : List ℕ → ℕ → ℕ → ℕ → HoldAnswer
held file k speeds times =
    cond (eqb (run_refusal file k speeds times) 0) (record { number = 0; hold = hold_of (line_of file) (train_of file k) })
    (record { number = run_refusal file k speeds times; hold = empty_hold })

-- ---- the opening call: a fresh sheet and the number 0, or the number 12 and a sheet of no blocks

pub record Opening : Type 0 where
  pub number : ℕ
  pub sheet : Sheet

unfoldable pub opened : ℕ → Opening
opened n = cond (count_rule n) (record { number = 0; sheet = fresh n }) (record { number = 12; sheet = fresh 0 })

-- ---- the adding call

-- the start and the block named, or the number of refusal
pub data Answer : Type 0 where
  accepted : ℕ → ℕ → Answer
  refused : ℕ → Answer

pub record Addition : Type 0 where
  pub answer : Answer
  pub sheet : Sheet

abbrev pub accept : Sheet → Hold → Addition
accept s h =
    record {
      answer = accepted (least_start s h) (block_named s h (least_start s h));
      sheet = sheet_after s h (least_start s h);
    }

-- a refusal leaves the sheet as it was
abbrev pub refuse : Sheet → ℕ → Addition
refuse s n = record { answer = refused n; sheet = s }

abbrev pub addition : Sheet → Hold → Option ℕ → Addition
addition s h none = accept s h
addition s h (some n) = refuse s n

-- a call is accepted exactly when no rule is broken; else the first broken rule in checking order gives the number
unfoldable pub added : Sheet → Hold → Addition
added s h = addition s h (first_broken (adding_rules s h))

-- ---- the headway call: the second's start on a sheet of these two, or the first refusal met

pub data HeadwayAnswer : Type 0 where
  headway_of : ℕ → HeadwayAnswer
  no_headway : ℕ → HeadwayAnswer

-- an accepted call goes on to what follows; a refusal is passed on
abbrev pub pass_on : Answer → HeadwayAnswer → HeadwayAnswer
pass_on (accepted start block) next = next
pass_on (refused n) next = no_headway n

abbrev pub start_or_refusal : Answer → HeadwayAnswer
start_or_refusal (accepted start block) = headway_of start
start_or_refusal (refused n) = no_headway n

unfoldable pub headway : Hold → Hold → HeadwayAnswer
headway first second =
    let opening = opened first.blocks in
    let one = added opening.sheet first in
    let two = added one.sheet second in
    cond (eqb opening.number 0) (pass_on one.answer (start_or_refusal two.answer)) (no_headway opening.number)
