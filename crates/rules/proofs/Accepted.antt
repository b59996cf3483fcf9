-- The order of the rules in the file calls, and what an accepted file, or an accepted train on a line, is. Assumes nothing.
use Prim.Native.Nat.{ℕ, ◌≤◌, ◌<◌}
use mathlib.Core.Bool.{Bool, true, false, cond}
use mathlib.Core.List.{List, [], ◌∷◌, ◌++◌}
use mathlib.Core.Logic.{◌↔◌}
use mathlib.Core.Path.{◌≡◌, ◌∙◌}
use native.Mathlib.Omega.{arith}
use lib.ListN.{length}
use borrow.Author.Tests.{le-leb, lt-leb, leb-true, ltb-true, lt-ltb, le-ltb}
use Rattle.rules.specs.File.{train_count, announced_end}
use Rattle.rules.specs.Line.{Line, Train, line_of, train_of}
use Rattle.rules.specs.Refusal.{Rule, rule, refusal, whole, nothing_after, train_sizes, sizes_rule, sizes_on}
use Rattle.rules.specs.Refusal.{length_rules, line_rules, train_rules_by, one_train_rules, every_train_rules, file_rules, rules_on}
use Rattle.rules.specs.Refusal.{train_there, train_rules, buffers_long, run_rules}
use Rattle.rules.specs.Calls.{file_refusal, train_refusal, run_refusal}
use Rattle.rules.specs.Admitted.{Rule3Line, Rule4, Rule5, Rule6, Rule15, Rule7, Rule8, Rule9, Parallel, Admitted}
use Rattle.rules.specs.Meaning.{IsFirstBroken}
use Rattle.rules.proofs.Count.{and_left, and_right, and_both, every-at, every_all}
use Rattle.rules.proofs.File.{parallel}
use Rattle.rules.proofs.Rules.{rule_3_line, one_train, rule_3_train, rule_4, rule_5, rule_6, rule_15, rule_7, rule_8, rule_9}
use Rattle.rules.proofs.Refusal.{refusal-none, refusal_cons, Positive, head_broken, head_kept, head_accepted, append-refused}
use Rattle.rules.proofs.Refusal.{append-kept, append-accepted, refusal-most, first-broken}

-- ---- the rules of a line, of a train, and of all trains

module _ {bands stops last_block : Bool} where
  three_kept : refusal (train_rules_by bands stops last_block) ≡ 0 → (bands ≡ true) × (stops ≡ true) × (last_block ≡ true)
  three_kept z =
      let (k₇, z₇) = head_accepted _ _ _ (omega arith) z in
      let (k₈, z₈) = head_accepted _ _ _ (omega arith) z₇ in
      let (k₉, z₉) = head_accepted _ _ _ (omega arith) z₈ in
      (k₇, k₈, k₉)

  kept_three : bands ≡ true → stops ≡ true → last_block ≡ true → refusal (train_rules_by bands stops last_block) ≡ 0
  kept_three p q r = head_kept _ _ _ p ∙ head_kept _ _ _ q ∙ head_kept _ _ _ r ∙ refusal-none

pub line_rules_lem : (l : Line) → (refusal (line_rules l) ≡ 0) ↔ (Rule4 l × Rule5 l × Rule6 l × Rule15 l)
line_rules_lem l = (
  λ z.
      let (k₄, z₄) = head_accepted _ _ _ (omega arith) z in
      let (k₅, z₅) = head_accepted _ _ _ (omega arith) z₄ in
      let (k₆, z₆) = head_accepted _ _ _ (omega arith) z₅ in
      let (k₁₅, z₁₅) = head_accepted _ _ _ (omega arith) z₆ in
      ((rule_4 l).0 k₄, (rule_5 l).0 k₅, (rule_6 l).0 k₆, (rule_15 l).0 k₁₅),
  λ r.
      head_kept _ _ _ ((rule_4 l).1 r.0) ∙ head_kept _ _ _ ((rule_5 l).1 r.1) ∙ head_kept _ _ _ ((rule_6 l).1 r.2)
      ∙ head_kept _ _ _ ((rule_15 l).1 r.3)
      ∙ refusal-none,
)

pub train_rules_lem : (l : Line) (t : Train) → (refusal (one_train_rules l t) ≡ 0) ↔ (Rule7 t × Rule8 l t × Rule9 l t)
train_rules_lem l t = (
  λ z.
      let (k₇, k₈, k₉) = three_kept z in
      ((rule_7 t).0 k₇, (rule_8 l t).0 k₈, (rule_9 l t).0 k₉),
  λ r. kept_three ((rule_7 t).1 r.0) ((rule_8 l t).1 r.1) ((rule_9 l t).1 r.2),
)

module _ (l : Line) (train : ℕ → Train) (n : ℕ) where
  pub trains-accepted : refusal (every_train_rules l train n) ≡ 0 → (k : ℕ) → k < n → refusal (one_train_rules l (train k)) ≡ 0
  trains-accepted z k h =
      let (k₇, k₈, k₉) = three_kept z in
      kept_three (every-at _ n k₇ k h) (every-at _ n k₈ k h) (every-at _ n k₉ k h)

  pub trains-kept : ((k : ℕ) → k < n → refusal (one_train_rules l (train k)) ≡ 0) → refusal (every_train_rules l train n) ≡ 0
  trains-kept h =
      kept_three (every_all _ n (λ k m. (three_kept (h k m)).0)) (every_all _ n (λ k m. (three_kept (h k m)).1)) (every_all _ n (λ k m. (three_kept (h k m)).2))

-- ---- rule 3, then those of the line, then others

module _ (sizes : Bool) (l : Line) (others : List Rule) where
  abbrev from_sizes : List Rule
  from_sizes = rule 3 sizes ∷ (line_rules l ++ others)

  pub sizes_broken : sizes ≡ false → refusal from_sizes ≡ 3
  sizes_broken e = head_broken 3 sizes _ e

  module _ (e : sizes ≡ true) where
    pub line_broken : (refusal (line_rules l) ≡ 0 → ⊥) → refusal from_sizes ≡ refusal (line_rules l)
    line_broken h = head_kept 3 sizes _ e ∙ append-refused (line_rules l) others (omega arith) h

    pub line_passed : refusal (line_rules l) ≡ 0 → refusal from_sizes ≡ refusal others
    line_passed z = head_kept 3 sizes _ e ∙ append-kept (line_rules l) others (omega arith) z

  pub each-accepted : refusal from_sizes ≡ 0 → (sizes ≡ true) × (refusal (line_rules l) ≡ 0) × (refusal others ≡ 0)
  each-accepted z =
      let (e, y) = head_accepted 3 sizes _ (omega arith) z in
      let (x, w) = append-accepted (line_rules l) others (omega arith) y in
      (e, x, w)

-- ---- a train on a line

module _ (l : Line) (t : Train) where
  pub on_positive : Positive (rules_on l t)
  on_positive = omega arith

  pub on_admitted : refusal (rules_on l t) ≡ 0 → Parallel l t → Admitted l t
  on_admitted z p =
      let (sizes, line, train) = each-accepted (sizes_on l t) l (one_train_rules l t) z in
      let (r₄, r₅, r₆, r₁₅) = (line_rules_lem l).0 line in
      let (r₇, r₈, r₉) = (train_rules_lem l t).0 train in
      record {
        train_count = 1;
        rule3_line = (rule_3_line l 1).0 (and_left _ _ sizes);
        rule3_train = (rule_3_train t).0 (and_right _ _ sizes);
        rule4 = r₄;
        rule5 = r₅;
        rule6 = r₆;
        rule15 = r₁₅;
        rule7 = r₇;
        rule8 = r₈;
        rule9 = r₉;
        parallel = p;
      }

  pub on_kept : Admitted l t → refusal (rules_on l t) ≡ 0
  on_kept a =
      let sizes = and_both (one_train l a.rule3_line) ((rule_3_train t).1 a.rule3_train) in
      line_passed (sizes_on l t) l (one_train_rules l t) sizes ((line_rules_lem l).1 (a.rule4, a.rule5, a.rule6, a.rule15))
      ∙ (train_rules_lem l t).1 (a.rule7, a.rule8, a.rule9)

-- ---- rules 1 and 2, by the announced end and the file's length

module _ (file : List ℕ) where
  pub ends_early_lem : length file < announced_end file → refusal (length_rules file) ≡ 1
  unfolding whole
  ends_early_lem h = head_broken 1 _ _ (lt-leb (announced_end file) (length file) h)

  pub bytes_follow : announced_end file < length file → refusal (length_rules file) ≡ 2
  unfolding whole nothing_after
  bytes_follow h =
      head_kept 1 _ _ (le-leb (announced_end file) (length file) (omega arith)) ∙ head_broken 2 _ _ (lt-leb (length file) (announced_end file) h)

  pub ends_there : announced_end file ≡ length file → refusal (length_rules file) ≡ 0
  unfolding whole nothing_after
  ends_there e =
      head_kept 1 _ _ (le-leb (announced_end file) (length file) (omega arith))
      ∙ head_kept 2 _ _ (le-leb (length file) (announced_end file) (omega arith))
      ∙ refusal-none

  -- the file has all that its sizes announce
  pub announced_there : refusal (length_rules file) ≡ 0 → announced_end file ≤ length file
  unfolding whole
  announced_there z = leb-true (announced_end file) (length file) (head_accepted 1 _ _ (omega arith) z).0

-- ---- the file calls

module _ (file : List ℕ) where
  pub file_positive : Positive (file_rules file)
  file_positive = omega arith

  train_positive : (k : ℕ) → Positive (train_rules file k)
  train_positive k = omega arith

  -- the first broken rule in checking order gives the number
  pub file_first_broken : IsFirstBroken (file_rules file) (file_refusal file)
  unfolding file_refusal
  file_first_broken = first-broken (file_rules file) file_positive

  pub train-first_broken : (k : ℕ) → IsFirstBroken (train_rules file k) (train_refusal file k)
  unfolding train_refusal
  train-first_broken k = first-broken (train_rules file k) (train_positive k)

  pub run_first_broken : (k speeds times : ℕ) → IsFirstBroken (run_rules file k speeds times) (run_refusal file k speeds times)
  unfolding run_refusal
  run_first_broken k speeds times = first-broken (run_rules file k speeds times) (omega arith)

  pub file_most : file_refusal file ≤ 15
  unfolding file_refusal
  file_most = refusal-most 15 (file_rules file) (omega arith)

  -- the rules behind 1 and 2
  abbrev all_trains : List Rule
  all_trains = every_train_rules (line_of file) (train_of file) (train_count file)

  abbrev behind_length : List Rule
  behind_length = rule 3 (sizes_rule file) ∷ (line_rules (line_of file) ++ all_trains)

  pub file_cut : (refusal (length_rules file) ≡ 0 → ⊥) → file_refusal file ≡ refusal (length_rules file)
  unfolding file_refusal
  file_cut h = append-refused (length_rules file) behind_length (omega arith) h

  module _ (z : refusal (length_rules file) ≡ 0) where
    past-length : file_refusal file ≡ refusal behind_length
    unfolding file_refusal
    past-length = append-kept (length_rules file) behind_length (omega arith) z

    pub file_sizes-broken : sizes_rule file ≡ false → file_refusal file ≡ 3
    file_sizes-broken e = past-length ∙ sizes_broken (sizes_rule file) (line_of file) all_trains e

    pub file_line_broken : sizes_rule file ≡ true → (refusal (line_rules (line_of file)) ≡ 0 → ⊥) → file_refusal file ≡ refusal (line_rules (line_of file))
    file_line_broken e h = past-length ∙ line_broken (sizes_rule file) (line_of file) all_trains e h

    pub file_line_passed : sizes_rule file ≡ true → refusal (line_rules (line_of file)) ≡ 0 → file_refusal file ≡ refusal all_trains
    file_line_passed e y = past-length ∙ line_passed (sizes_rule file) (line_of file) all_trains e y

  -- a train that is not refused: the file is accepted, and has it
  pub train-accepted : (k : ℕ) → train_refusal file k ≡ 0 → (file_refusal file ≡ 0) × (k < train_count file)
  unfolding file_refusal train_refusal train_there
  train-accepted k z =
      let (y, x) = append-accepted (file_rules file) (rule 10 (train_there file k) ∷ []) file_positive z in
      (y, ltb-true k (train_count file) (head_accepted 10 (train_there file k) [] (omega arith) x).0)

  -- the file's rules come first, then others
  pub file_first : (others : List Rule) → (file_refusal file ≡ 0 → ⊥) → refusal (file_rules file ++ others) ≡ file_refusal file
  unfolding file_refusal
  file_first others h = append-refused (file_rules file) others file_positive h

  pub file_passed : (others : List Rule) → file_refusal file ≡ 0 → refusal (file_rules file ++ others) ≡ refusal others
  unfolding file_refusal
  file_passed others z = append-kept (file_rules file) others file_positive z

  -- 10, then 11
  pub train-refused : (k : ℕ) → (file_refusal file ≡ 0 → ⊥) → train_refusal file k ≡ file_refusal file
  unfolding train_refusal
  train-refused k h = file_first (rule 10 (train_there file k) ∷ []) h

  pub train_missing : (k : ℕ) → file_refusal file ≡ 0 → train_count file ≤ k → train_refusal file k ≡ 10
  unfolding train_refusal train_there
  train_missing k z h =
      file_passed (rule 10 (train_there file k) ∷ []) z ∙ head_broken 10 _ [] (le-ltb k (train_count file) h)

  pub train-there : (k : ℕ) → file_refusal file ≡ 0 → k < train_count file → train_refusal file k ≡ 0
  unfolding train_refusal train_there
  train-there k z h =
      file_passed (rule 10 (train_there file k) ∷ []) z ∙ head_kept 10 _ [] (lt-ltb k (train_count file) h) ∙ refusal-none

  -- the rules of the file and 10 come first, then others
  pub train-first : (k : ℕ) (others : List Rule) → (train_refusal file k ≡ 0 → ⊥) → refusal (train_rules file k ++ others) ≡ train_refusal file k
  unfolding train_refusal
  train-first k others h = append-refused (train_rules file k) others (train_positive k) h

  pub train-passed : (k : ℕ) (others : List Rule) → train_refusal file k ≡ 0 → refusal (train_rules file k ++ others) ≡ refusal others
  unfolding train_refusal
  train-passed k others z = append-kept (train_rules file k) others (train_positive k) z

  pub run_refused : (k speeds times : ℕ) → (train_refusal file k ≡ 0 → ⊥) → run_refusal file k speeds times ≡ train_refusal file k
  unfolding run_refusal
  run_refused k speeds times h = train-first k _ h

  pub run_by_buffers : (k speeds times : ℕ) → train_refusal file k ≡ 0 → run_refusal file k speeds times ≡ cond (buffers_long (line_of file) speeds times) 0 11
  unfolding run_refusal
  run_by_buffers k speeds times z =
      train-passed k (rule 11 (buffers_long (line_of file) speeds times) ∷ []) z
      ∙ refusal_cons 11 (buffers_long (line_of file) speeds times) [] ∙ rw refusal-none

  -- a run that is not refused: the train is not, and both buffers have P entries
  pub run_accepted :
      (k speeds times : ℕ) → run_refusal file k speeds times ≡ 0 →
      (train_refusal file k ≡ 0) × ((line_of file).points ≤ speeds) × ((line_of file).points ≤ times)
  unfolding run_refusal train_refusal buffers_long
  run_accepted k speeds times z =
      let (y, x) = append-accepted (train_rules file k) (rule 11 (buffers_long (line_of file) speeds times) ∷ []) (train_positive k) z in
      let long = (head_accepted 11 (buffers_long (line_of file) speeds times) [] (omega arith) x).0 in
      (y, leb-true _ speeds (and_left _ _ long), leb-true _ times (and_right _ _ long))

-- ---- an accepted file

module _ (file : List ℕ) (ok : file_refusal file ≡ 0) where
  parts : (refusal (length_rules file) ≡ 0) × (refusal (behind_length file) ≡ 0)
  unfolding file_refusal
  parts = append-accepted (length_rules file) (behind_length file) (omega arith) ok

  behind : (sizes_rule file ≡ true) × (refusal (line_rules (line_of file)) ≡ 0) × (refusal (all_trains file) ≡ 0)
  behind = each-accepted (sizes_rule file) (line_of file) (all_trains file) parts.1

  pub file_there : announced_end file ≤ length file
  file_there = announced_there file parts.0

  pub sizes_kept : sizes_rule file ≡ true
  sizes_kept = behind.0

  pub line_sizes_lem : Rule3Line (line_of file) (train_count file)
  line_sizes_lem = (rule_3_line (line_of file) (train_count file)).0 (and_left _ _ sizes_kept)

  pub admitted : (k : ℕ) → k < train_count file → Admitted (line_of file) (train_of file k)
  admitted k h =
      let (r₄, r₅, r₆, r₁₅) = (line_rules_lem (line_of file)).0 behind.1 in
      let (r₇, r₈, r₉) = (train_rules_lem (line_of file) (train_of file k)).0 (trains-accepted (line_of file) (train_of file) (train_count file) behind.2 k h) in
      record {
        train_count = train_count file;
        rule3_line = line_sizes_lem;
        rule3_train = (rule_3_train (train_of file k)).0 (every-at (λ k. train_sizes (train_of file k)) (train_count file) (and_right _ _ sizes_kept) k h);
        rule4 = r₄;
        rule5 = r₅;
        rule6 = r₆;
        rule15 = r₁₅;
        rule7 = r₇;
        rule8 = r₈;
        rule9 = r₉;
        parallel = parallel file _;
      }

-- of a train that is not refused
pub train-admitted : (file : List ℕ) (k : ℕ) → train_refusal file k ≡ 0 → Admitted (line_of file) (train_of file k)
train-admitted file k z = let both = train-accepted file k z in admitted file both.0 k both.1
