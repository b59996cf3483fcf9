-- Document 01, "Numbers of refusal, in checking order", with 15 and the order of document 02, "Req 04". Each test passes where its rule is kept.
use Rattle.std.specs.Prelude.{ℕ, ◌+◌, ◌-◌, ◌*◌, ◌^◌, Bool, true, not, cond, List, [], ◌∷◌, ◌++◌, leb, ltb, eqb, length}
use Rattle.std.proofs.Math.Option.{Option, none, some}
use Rattle.rules.specs.Count.{◌and◌, entry, or_zero, every, within, all_within, below_by, rises_by}
use Rattle.rules.specs.File.{train_count, announced_end}
use Rattle.rules.specs.Line.{Line, Train, line_of, train_of}
use Rattle.rules.specs.Run.{train_cells, balise_place}
use Rattle.rules.specs.Hold.{Hold}
use Rattle.rules.specs.Sheet.{Sheet, begin, end, free_time, first_begin}

-- ---- a list of numbered rules, in checking order

pub record Rule : Type 0 where
  pub number : ℕ
  pub kept : Bool

abbrev pub rule : ℕ → Bool → Rule
rule number kept = record { number = number; kept = kept }

-- the number of the first broken rule, if there is one
unfoldable pub first_broken : List Rule → Option ℕ
first_broken [] = none
first_broken (r ∷ rs) = cond r.kept (first_broken rs) (some r.number)

-- the number of refusal, and 0 where there is none
unfoldable pub refusal : List Rule → ℕ
refusal rules = or_zero (first_broken rules)

-- ---- the rules of the file

-- a test of a train passes for every train of the file
abbrev pub every_train : List ℕ → (Train → Bool) → Bool
every_train file test = every (train_count file) (λ k. test (train_of file k))

-- 1. The file does not end before something that its sizes, taken without their limits, announce.
unfoldable pub whole : List ℕ → Bool
whole file = leb (announced_end file) (length file)

-- 2. No bytes follow the last announced train.
unfoldable pub nothing_after : List ℕ → Bool
nothing_after file = leb (length file) (announced_end file)

-- 3. P, L, K, B, the count of balises, T, each class, length, A and S are within their limits. First those of the line and T as numbers.
abbrev pub line_numbers : ℕ → ℕ → ℕ → ℕ → ℕ → ℕ → Bool
line_numbers points step limits blocks balises trains =
    within 3 4096 points
    and within 1 100 step
    and within 1 64 limits
    and within 1 32 blocks
    and within 0 64 balises
    and within 1 64 trains

-- 3, of a class, a length, A and S as numbers.
abbrev pub train_numbers : ℕ → ℕ → ℕ → ℕ → Bool
train_numbers class train_length bands stops =
    within 0 2 class
    and within 1 1000 train_length
    and within 1 8 bands
    and within 0 32 stops

-- 3, of a line and T.
unfoldable pub line_sizes : Line → ℕ → Bool
line_sizes l trains = line_numbers l.points l.step (length l.limits) (length l.block_starts) (length l.balise_points) trains

-- 3, of a train.
unfoldable pub train_sizes : Train → Bool
train_sizes t = train_numbers t.class t.train_length (length t.tops) (length t.stops)

-- 3, of a file.
abbrev pub sizes_rule : List ℕ → Bool
sizes_rule file = line_sizes (line_of file) (train_count file) and every_train file train_sizes

-- 3, of one train on a line.
abbrev pub sizes_on : Line → Train → Bool
sizes_on l t = line_sizes l 1 and train_sizes t

-- 4. Limit points begin at 0, strictly rise and do not exceed P - 2.
unfoldable pub limit_points_rule : Line → Bool
limit_points_rule l =
    eqb (entry l.limit_points 0) 0
    and rises_by 1 (length l.limit_points) (entry l.limit_points)
    and all_within 0 (l.points - 2) (length l.limit_points) (entry l.limit_points)

-- 5. Each limit is 1 to 300.
unfoldable pub limits_rule : Line → Bool
limits_rule l = all_within 1 300 (length l.limits) (entry l.limits)

-- 6. The first block starts at 0, each start is below its end, no start lies before the previous end, and no end exceeds P - 1.
unfoldable pub blocks_rule : Line → Bool
blocks_rule l =
    eqb (entry l.block_starts 0) 0
    and below_by 1 (length l.block_starts) (entry l.block_starts) (entry l.block_ends)
    and below_by 0 (length l.block_starts - 1) (entry l.block_ends) (λ i. entry l.block_starts (i + 1))
    and all_within 0 (l.points - 1) (length l.block_ends) (entry l.block_ends)

-- 15. Balises strictly rise in place, the metres past a point do not reach L, and no place lies beyond the last point.
unfoldable pub balises_rule : Line → Bool
balises_rule l =
    rises_by 1 (length l.balise_points) (balise_place l)
    and every (length l.balise_points) (λ k. ltb (entry l.balise_metres k) l.step)
    and all_within 0 ((l.points - 1) * l.step) (length l.balise_points) (balise_place l)

-- 7. Band tops strictly rise within 1 to 300, and each rate is 1 to 200.
unfoldable pub bands_rule : Train → Bool
bands_rule t =
    rises_by 1 (length t.tops) (entry t.tops)
    and all_within 1 300 (length t.tops) (entry t.tops)
    and all_within 1 200 (length t.rates) (entry t.rates)

-- 8. Each stop is two points or more after the stop before it, no stop exceeds P - 1, and no dwell exceeds 3,600.
unfoldable pub stops_rule : Line → Train → Bool
stops_rule l t =
    rises_by 2 (length t.stops) (entry t.stops)
    and all_within 0 (l.points - 1) (length t.stops) (entry t.stops)
    and all_within 0 3600 (length t.dwells) (entry t.dwells)

-- 9. The last block's end plus n does not exceed P - 1.
unfoldable pub last_block_rule : Line → Train → Bool
last_block_rule l t = leb (entry l.block_ends (length l.block_ends - 1) + train_cells l t) (l.points - 1)

-- ---- the rules in checking order

-- 1 and 2: the file has the length that its sizes announce
abbrev pub length_rules : List ℕ → List Rule
length_rules file = rule 1 (whole file) ∷ rule 2 (nothing_after file) ∷ []

-- 4 to 6, then 15, of a line. A difference such as P - 2 is cut off at 0 where P is too small; then rule 3 is broken and comes first.
abbrev pub line_rules : Line → List Rule
line_rules l = rule 4 (limit_points_rule l) ∷ rule 5 (limits_rule l) ∷ rule 6 (blocks_rule l) ∷ rule 15 (balises_rule l) ∷ []

-- 7 to 9, by whether each is kept
abbrev pub train_rules_by : Bool → Bool → Bool → List Rule
train_rules_by bands stops last_block = rule 7 bands ∷ rule 8 stops ∷ rule 9 last_block ∷ []

-- 7 to 9, of one train
abbrev pub one_train_rules : Line → Train → List Rule
one_train_rules l t = train_rules_by (bands_rule t) (stops_rule l t) (last_block_rule l t)

-- 7 to 9, of the first n trains: each rule goes over all trains before the next
abbrev pub every_train_rules : Line → (ℕ → Train) → ℕ → List Rule
every_train_rules l train n =
    train_rules_by (every n (λ k. bands_rule (train k))) (every n (λ k. stops_rule l (train k))) (every n (λ k. last_block_rule l (train k)))

-- the file's rules: 1 to 9 and 15
abbrev pub file_rules : List ℕ → List Rule
file_rules file =
    length_rules file
    ++ (rule 3 (sizes_rule file) ∷ (line_rules (line_of file) ++ every_train_rules (line_of file) (train_of file) (train_count file)))

-- 3 to 9 and 15, of one train on a line
abbrev pub rules_on : Line → Train → List Rule
rules_on l t = rule 3 (sizes_on l t) ∷ (line_rules l ++ one_train_rules l t)

-- 10. The train number asked for is below T.
unfoldable pub train_there : List ℕ → ℕ → Bool
train_there file k = ltb k (train_count file)

abbrev pub train_rules : List ℕ → ℕ → List Rule
train_rules file k = file_rules file ++ (rule 10 (train_there file k) ∷ [])

-- 11. The lent buffers for speeds and times have P entries or more.
unfoldable pub buffers_long : Line → ℕ → ℕ → Bool
buffers_long l speeds times = leb l.points speeds and leb l.points times

abbrev pub run_rules : List ℕ → ℕ → ℕ → ℕ → List Rule
run_rules file k speeds times = train_rules file k ++ (rule 11 (buffers_long (line_of file) speeds times) ∷ [])

-- ---- the rules of the sheet

-- 12, of a block count: it is 1 to 32.
abbrev pub count_rule : ℕ → Bool
count_rule n = within 1 32 n

-- 12, of a sheet: also it has at most 64 trains, no free time of a block within the count is above trains times 2^44, and, by "Req 03" of
-- document 02, on a sheet with trains the first train's beginning of each such block is below its free time.
unfoldable pub sheet_rule : Sheet → Bool
sheet_rule s =
    count_rule s.blocks
    and leb s.trains 64
    and every s.blocks (λ b. leb (free_time s b) (s.trains * 2 ^ 44))
    and cond (eqb s.trains 0) true (every s.blocks (λ b. ltb (first_begin s b) (free_time s b)))

-- 13. The sheet does not have 64 trains.
abbrev pub room_rule : ℕ → Bool
room_rule trains = not (eqb trains 64)

-- 14. The hold record's block count is the sheet's, n, each beginning is below its end, and no end exceeds 2^44. Only places within
-- the count are read.
unfoldable pub hold_rule : ℕ → Hold → Bool
hold_rule n h =
    eqb h.blocks n
    and every n (λ b. ltb (begin h b) (end h b))
    and every n (λ b. leb (end h b) (2 ^ 44))

abbrev pub adding_rules : Sheet → Hold → List Rule
adding_rules s h = rule 12 (sheet_rule s) ∷ rule 13 (room_rule s.trains) ∷ rule 14 (hold_rule s.blocks h) ∷ []
