-- Every call answers by the paper's list: a refusal by the first broken rule's number, and an acceptance where all are kept. Assumes nothing.
use Prim.Native.Nat.{ℕ, ◌≤◌, ◌<◌}
use mathlib.Core.Bool.{Bool, true, false, cond, false≢true}
use mathlib.Core.List.{List, [], ◌∷◌, ◌++◌}
use mathlib.Core.Logic.{◌↔◌}
use mathlib.Core.Option.{Option, none, some}
use mathlib.Core.Path.{◌≡◌, refl, sym, ap, ◌∙◌}
use lib.Dec.{leb, eqb}
use lib.ListN.{length}
use borrow.Author.Tests.{leb-true, le-leb, ltb-true, lt-ltb}
use Rattle.rules.specs.Count.{◌and◌, or_zero, every}
use Rattle.rules.specs.File.{record_at, record_size, record_bytes, train_count, announced_end}
use Rattle.rules.specs.Line.{Line, Train, line_of, train_of}
use Rattle.rules.specs.Run.{run_row}
use Rattle.rules.specs.Time.{run_times}
use Rattle.rules.specs.Hold.{Hold, empty_hold, hold_of}
use Rattle.rules.specs.Sheet.{Sheet, fresh}
use Rattle.rules.specs.Refusal.{Rule, rule, first_broken, refusal, whole, nothing_after, line_rules, every_train_rules, file_rules}
use Rattle.rules.specs.Refusal.{rules_on, train_there, train_rules, buffers_long, run_rules, count_rule, room_rule, hold_rule}
use Rattle.rules.specs.Calls.{file_refusal, train_refusal, train_record, RecordPlace, record_place, run_refusal, speeds_after, times_after, written, lent_after}
use Rattle.rules.specs.Calls.{HoldAnswer, held, Opening, opened, accept, refuse, addition, added}
use Rattle.rules.specs.Text.{header, joined, refusal_text, line_of_train, sheet_text, most_input, program_text}
use Rattle.rules.specs.Numbers.{Check, check, AnswersBy, line_checks, train_checks, EveryTrain, file_checks, checks_on, train_call_checks}
use Rattle.rules.specs.Numbers.{run_call_checks, opening_checks, hold_checks, adding_checks}
use Rattle.rules.proofs.Count.{and_left, and_right, and_both, every-at, every_all, within_means, within_holds}
use Rattle.rules.proofs.Rules.{rule_3_line, rule_3_train, rule_4, rule_5, rule_6, rule_15, rule_7, rule_8, rule_9}
use Rattle.rules.proofs.Sheet.{rule_12, rule_13, rule_14}

-- ---- rules as tests beside rules in the paper's words

-- the first broken rule of a list of tests answers by the checks
pub record Judges (rules : List Rule) (checks : List Check) : Type 0 where
  pub first : AnswersBy checks some none (first_broken rules)

pub judges_none : Judges [] []
unfolding first_broken
judges_none = record { first = refl }

-- one more in front: the test passes exactly where the rule is kept
pub judges_first :
    {n : ℕ} {test : Bool} {Kept : Type 0} {rules : List Rule} {checks : List Check} → (test ≡ true) ↔ Kept → Judges rules checks →
    Judges (rule n test ∷ rules) (check n Kept ∷ checks)
unfolding first_broken
judges_first {n} {test} {Kept} {rules} {checks} tied later = record { first = go test tied }
  where
    go : (b : Bool) → (b ≡ true) ↔ Kept → AnswersBy (check n Kept ∷ checks) some none (cond b (first_broken rules) (some n))
    go true e = (λ broken. absurd (broken (e.0 refl)), λ kept. later.first)
    go false e = (λ broken. refl, λ kept. absurd (false≢true (e.1 kept)))

-- what a call makes of the first broken rule
module _ {A : Type 0} (answer : Option ℕ → A) where
  answers_from : (checks : List Check) (o : Option ℕ) → AnswersBy checks some none o → AnswersBy checks (λ n. answer (some n)) (answer none) (answer o)
  answers_from [] o e = ap answer e
  answers_from (c ∷ checks) o e = (λ broken. ap answer (e.0 broken), λ kept. answers_from checks o (e.1 kept))

  pub answers_by :
      {rules : List Rule} {checks : List Check} → Judges rules checks →
      AnswersBy checks (λ n. answer (some n)) (answer none) (answer (first_broken rules))
  answers_by {rules} {checks} j = answers_from checks (first_broken rules) j.first

-- a test of every train passes exactly where every train keeps the rule
every-kept : (n : ℕ) (test : ℕ → Bool) (Kept : ℕ → Type 0) → ((k : ℕ) → (test k ≡ true) ↔ Kept k) → (every n test ≡ true) ↔ ((k : ℕ) → k < n → Kept k)
every-kept n test Kept tied = (λ e k l. (tied k).0 (every-at test n e k l), λ h. every_all test n (λ k l. (tied k).1 (h k l)))

pub both_kept : {a b : Bool} {P Q : Type 0} → (a ≡ true) ↔ P → (b ≡ true) ↔ Q → ((a and b) ≡ true) ↔ (P × Q)
both_kept f g = (λ e. (f.0 (and_left _ _ e), g.0 (and_right _ _ e)), λ h. and_both (f.1 h.0) (g.1 h.1))

-- ---- the rules of the file

judges_line : (l : Line) {rules : List Rule} {checks : List Check} → Judges rules checks → Judges (line_rules l ++ rules) (line_checks l ++ checks)
judges_line l later = judges_first (rule_4 l) (judges_first (rule_5 l) (judges_first (rule_6 l) (judges_first (rule_15 l) later)))

module _ (file : List ℕ) where
  abbrev l : Line
  l = line_of file

  -- 7 to 9 of every train, then others
  judges_trains :
      {rules : List Rule} {checks : List Check} → Judges rules checks →
      Judges (every_train_rules l (train_of file) (train_count file) ++ rules) (train_checks (EveryTrain file) l ++ checks)
  judges_trains later =
      judges_first (every-kept (train_count file) _ _ (λ k. rule_7 (train_of file k)))
      (judges_first (every-kept (train_count file) _ _ (λ k. rule_8 l (train_of file k)))
      (judges_first (every-kept (train_count file) _ _ (λ k. rule_9 l (train_of file k))) later))

  pub judges_file : {rules : List Rule} {checks : List Check} → Judges rules checks → Judges (file_rules file ++ rules) (file_checks file ++ checks)
  unfolding whole nothing_after
  judges_file later =
      judges_first (leb-true (announced_end file) (length file), le-leb (announced_end file) (length file))
      (judges_first (leb-true (length file) (announced_end file), le-leb (length file) (announced_end file))
      (judges_first (both_kept (rule_3_line l (train_count file)) (every-kept (train_count file) _ _ (λ k. rule_3_train (train_of file k))))
      (judges_line l (judges_trains later))))

-- one train on a line
pub number_on : (l : Line) (t : Train) → AnswersBy (checks_on l t) (λ n. n) 0 (refusal (rules_on l t))
unfolding refusal
number_on l t = answers_by or_zero judges_on
  where
    judges_on : Judges (rules_on l t) (checks_on l t)
    judges_on =
        judges_first (both_kept (rule_3_line l 1) (rule_3_train t))
        (judges_line l (judges_first (rule_7 t) (judges_first (rule_8 l t) (judges_first (rule_9 l t) judges_none))))

-- ---- the file calls

module _ (file : List ℕ) where
  judges_call : Judges (file_rules file) (file_checks file)
  judges_call = judges_file file judges_none

  pub file_number : AnswersBy (file_checks file) (λ n. n) 0 (file_refusal file)
  unfolding refusal file_refusal
  file_number = answers_by or_zero judges_call

  module _ (k : ℕ) where
    judges_train_call : Judges (train_rules file k) (train_call_checks file k)
    unfolding train_there
    judges_train_call = judges_file file (judges_first (ltb-true k (train_count file), lt-ltb k (train_count file)) judges_none)

    pub train-number : AnswersBy (train_call_checks file k) (λ n. n) 0 (train_refusal file k)
    unfolding refusal train_refusal
    train-number = answers_by or_zero judges_train_call

    -- the part handed out, and where it stands
    pub record_number : AnswersBy (train_call_checks file k) (λ n. []) (record_bytes file k) (train_record file k)
    unfolding refusal train_refusal train_record
    record_number = answers_by (λ o. cond (eqb (or_zero o) 0) (record_bytes file k) []) judges_train_call

    pub place-number :
        AnswersBy (train_call_checks file k) (λ n. record { number = n; start = 0; length = 0 })
        (record { number = 0; start = record_at file k; length = record_size file (record_at file k) }) (record_place file k)
    unfolding refusal train_refusal record_place
    place-number =
        answers_by
        (λ o. cond {A = RecordPlace} (eqb (or_zero o) 0) (record { number = 0; start = record_at file k; length = record_size file (record_at file k) })
        (record { number = or_zero o; start = 0; length = 0 })) judges_train_call

    module _ (speeds times : ℕ) where
      judges_run_call : Judges (run_rules file k speeds times) (run_call_checks file k speeds times)
      unfolding train_there buffers_long
      judges_run_call =
          judges_file file
          (judges_first (ltb-true k (train_count file), lt-ltb k (train_count file))
          (judges_first (both_kept (leb-true _ speeds, le-leb _ speeds) (leb-true _ times, le-leb _ times)) judges_none))

      pub run_number : AnswersBy (run_call_checks file k speeds times) (λ n. n) 0 (run_refusal file k speeds times)
      unfolding refusal run_refusal
      run_number = answers_by or_zero judges_run_call

      -- a refused hold call gives the record of no blocks, an accepted one the hold record of train k
      pub hold-number :
          AnswersBy (run_call_checks file k speeds times) (λ n. record { number = n; hold = empty_hold })
          (record { number = 0; hold = hold_of (line_of file) (train_of file k) }) (held file k speeds times)
      unfolding refusal run_refusal held
      hold-number =
          answers_by
          (λ o. cond {A = HoldAnswer} (eqb (or_zero o) 0) (record { number = 0; hold = hold_of (line_of file) (train_of file k) })
          (record { number = or_zero o; hold = empty_hold })) judges_run_call

    -- the lent buffers: as they came on a refusal, else with the run in their first P entries
    module _ (speeds times : List ℕ) where
      pub speeds-number :
          AnswersBy (run_call_checks file k (length speeds) (length times)) (λ n. speeds) (written speeds 0 (run_row (line_of file) (train_of file k)))
          (speeds_after file k speeds times)
      unfolding refusal run_refusal lent_after speeds_after
      speeds-number =
          answers_by (λ o. lent_after (or_zero o) (run_row (line_of file) (train_of file k)) speeds)
          (judges_run_call (length speeds) (length times))

      pub times_number :
          AnswersBy (run_call_checks file k (length speeds) (length times)) (λ n. times) (written times 0 (run_times (line_of file) (train_of file k)))
          (times_after file k speeds times)
      unfolding refusal run_refusal lent_after times_after
      times_number =
          answers_by (λ o. lent_after (or_zero o) (run_times (line_of file) (train_of file k)) times)
          (judges_run_call (length speeds) (length times))

-- ---- what the sheet program prints

module _ (file : List ℕ) where
  -- the text of a file's sheet
  abbrev sheet : List ℕ
  sheet = header ++ joined (line_of_train file) (train_count file)

  pub text_number : AnswersBy (file_checks file) refusal_text sheet (sheet_text file)
  unfolding refusal file_refusal sheet_text
  text_number = answers_by (λ o. cond (eqb (or_zero o) 0) sheet (refusal_text (or_zero o))) (judges_call file)

  -- above the bound 2 comes first
  pub program_number : AnswersBy (check 2 (length file ≤ most_input) ∷ file_checks file) refusal_text sheet (program_text file)
  unfolding program_text
  program_number = go (leb (length file) most_input) refl
    where
      go :
          (b : Bool) → leb (length file) most_input ≡ b →
          AnswersBy (check 2 (length file ≤ most_input) ∷ file_checks file) refusal_text sheet (cond b (sheet_text file) (refusal_text 2))
      go true e = (λ broken. absurd (broken (leb-true (length file) most_input e)), λ kept. text_number)
      go false e = (λ broken. refl, λ kept. absurd (false≢true (sym e ∙ le-leb (length file) most_input kept)))

-- ---- the calls on a sheet

pub opening_number :
    (n : ℕ) → AnswersBy (opening_checks n) (λ m. record { number = m; sheet = fresh 0 }) (record { number = 0; sheet = fresh n }) (opened n)
unfolding opened
opening_number n = go (count_rule n) refl
  where
    go :
        (b : Bool) → count_rule n ≡ b →
        AnswersBy (opening_checks n) (λ m. record { number = m; sheet = fresh 0 }) (record { number = 0; sheet = fresh n })
        (cond {A = Opening} b (record { number = 0; sheet = fresh n }) (record { number = 12; sheet = fresh 0 }))
    go true e = (λ broken. absurd (broken (within_means 1 32 n e)), λ kept. refl)
    go false e = (λ broken. refl, λ kept. absurd (false≢true (sym e ∙ within_holds 1 32 n kept.0 kept.1)))

-- 13 and 14 by the tests
pub judges_hold : (trains n : ℕ) (h : Hold) → Judges (rule 13 (room_rule trains) ∷ rule 14 (hold_rule n h) ∷ []) (hold_checks trains n h)
judges_hold trains n h = judges_first (rule_13 trains) (judges_first (rule_14 n h) judges_none)

-- of any sheet and any hold record
pub adding_number : (s : Sheet) (h : Hold) → AnswersBy (adding_checks s h) (refuse s) (accept s h) (added s h)
unfolding added
adding_number s h = answers_by (addition s h) (judges_first (rule_12 s) (judges_hold s.trains s.blocks h))
