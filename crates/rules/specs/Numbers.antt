-- Document 01, "Numbers of refusal, in checking order", with 15 of document 02, "Req 04": the list as the papers have it, each number beside
-- the rule that it stands for. The laws of proofs/Numbers say of every call that it answers by this list.
use Rattle.std.specs.Prelude.{ℕ, ◌≤◌, ◌<◌, List, [], ◌∷◌, ◌++◌, ◌≡◌, length}
use Rattle.rules.specs.File.{train_count, announced_end}
use Rattle.rules.specs.Line.{Line, Train, line_of, train_of}
use Rattle.rules.specs.Hold.{Hold}
use Rattle.rules.specs.Sheet.{Sheet}
use Rattle.rules.specs.Admitted.{Rule3Line, Rule3Train, Rule4, Rule5, Rule6, Rule15, Rule7, Rule8, Rule9, Rule12, Rule14}

-- a number, and what it means that its rule is kept
pub record Check : Type 1 where
  pub number : ℕ
  pub kept : Type 0

abbrev pub check : ℕ → Type 0 → Check
check number kept = record { number = number; kept = kept }

-- The answer `a` to a call that is judged by these rules, in checking order: where the rules before it are kept and a rule is broken, the
-- refusal by just its number; where all are kept, the acceptance.
abbrev pub AnswersBy : {A : Type 0} → List Check → (ℕ → A) → A → A → Type 0
AnswersBy [] refusal acceptance a = a ≡ acceptance
AnswersBy (c ∷ checks) refusal acceptance a = ((c.kept → ⊥) → a ≡ refusal c.number) × (c.kept → AnswersBy checks refusal acceptance a)

-- ---- the rules of the file

-- 4 to 6, then 15, of a line
abbrev pub line_checks : Line → List Check
line_checks l = check 4 (Rule4 l) ∷ check 5 (Rule5 l) ∷ check 6 (Rule6 l) ∷ check 15 (Rule15 l) ∷ []

-- 7 to 9, of trains on a line: `Each` says a rule of one train or of every train
abbrev pub train_checks : ((Train → Type 0) → Type 0) → Line → List Check
train_checks Each l = check 7 (Each Rule7) ∷ check 8 (Each (Rule8 l)) ∷ check 9 (Each (Rule9 l)) ∷ []

-- a rule of a train is kept by every train of the file
abbrev pub EveryTrain : List ℕ → (Train → Type 0) → Type 0
EveryTrain file Kept = (k : ℕ) → k < train_count file → Kept (train_of file k)

-- 1 to 9 and 15, of a file
abbrev pub file_checks : List ℕ → List Check
file_checks file =
    check 1 (announced_end file ≤ length file)
    ∷ check 2 (length file ≤ announced_end file)
    ∷ check 3 (Rule3Line (line_of file) (train_count file) × EveryTrain file Rule3Train)
    ∷ (line_checks (line_of file) ++ train_checks (EveryTrain file) (line_of file))

-- 3 to 9 and 15, of one train on a line
abbrev pub checks_on : Line → Train → List Check
checks_on l t = check 3 (Rule3Line l 1 × Rule3Train t) ∷ (line_checks l ++ train_checks (λ Kept. Kept t) l)

-- then 10: the train number asked for is below T
abbrev pub train_call_checks : List ℕ → ℕ → List Check
train_call_checks file k = file_checks file ++ (check 10 (k < train_count file) ∷ [])

-- then 11: the lent buffers, of which these are the lengths, have P entries or more
abbrev pub run_call_checks : List ℕ → ℕ → ℕ → ℕ → List Check
run_call_checks file k speeds times =
    train_call_checks file k ++ (check 11 (((line_of file).points ≤ speeds) × ((line_of file).points ≤ times)) ∷ [])

-- ---- the rules of the sheet

-- 12, of the block count to open with
abbrev pub opening_checks : ℕ → List Check
opening_checks n = check 12 ((1 ≤ n) × (n ≤ 32)) ∷ []

-- 13 and 14, by the number of trains, the block count and the hold record
abbrev pub hold_checks : ℕ → ℕ → Hold → List Check
hold_checks trains n h = check 13 (trains ≡ 64 → ⊥) ∷ check 14 (Rule14 n h) ∷ []

-- 12 to 14, of a sheet and a hold record with any contents
abbrev pub adding_checks : Sheet → Hold → List Check
adding_checks s h = check 12 (Rule12 s) ∷ hold_checks s.trains s.blocks h
