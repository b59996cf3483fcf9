-- The marked cases of document 01 over the definitions, as one table, a longer line beside it, what some roots leave, the sample's
-- diagram, its period with some percentages, and the longer line's grown lengths and balises. Each entry is proved by computation. Assumes
-- nothing.
use Prim.Native.Nat.{ℕ, ◌+◌, ◌-◌, ◌*◌, ◌/◌, ◌%◌}
use mathlib.Core.List.{List, [], ◌∷◌, ◌++◌}
use mathlib.Core.Path.{◌≡◌, refl}
use lib.Ieee.{of_int, to_bits}
use lib.ListN.{take, replicate}
use Rattle.rules.specs.Count.{◌and◌, row_from, set_below, every, within, greatest_below, lowest_from, last_below, ceil_div}
use Rattle.rules.specs.File.{word, words, record_at}
use Rattle.rules.specs.Line.{line_of, train_at, train_of}
use Rattle.rules.specs.Run.{balise_place, latest_balise, distance, grown_length, grown_cells}
use Rattle.rules.specs.Run.{squared, change, braking_loss, train_cells, limit_from, cell_limit, last_or, lowest_covered, cap_speed, listed, cap_of, cap}
use Rattle.rules.specs.Run.{band_step, bands_step, traction_step, forward_sweep, backward_before, backward_sweep, forward, run_at, run_row}
use Rattle.rules.specs.Time.{next_digit, root_digits, leaving, root, cell_time, dwell_from, dwell, arrival, departure, arrivals, run_times}
use Rattle.rules.specs.Hold.{Hold, approach_point, hold_begin, hold_end, hold_with, hold_of}
use Rattle.rules.specs.Sheet.{fresh, least_start, block_named, sheet_after}
use Rattle.rules.specs.Refusal.{first_broken, refusal, whole, nothing_after, line_sizes, train_sizes, limit_points_rule, limits_rule, blocks_rule, balises_rule}
use Rattle.rules.specs.Refusal.{bands_rule, stops_rule, last_block_rule, train_there, buffers_long, sheet_rule, hold_rule}
use Rattle.rules.specs.Calls.{file_refusal, train_refusal, train_record, run_refusal, held, accepted, added, opened, headway_of, headway}
use Rattle.rules.specs.Demand.{answers, left_by}
use Rattle.rules.specs.Diagram.{double, record_of, diagram_point, dot, diagram_dot, low_first, double_bytes, figures_bytes, point_bytes, diagram_bytes}
use Rattle.rules.specs.Period.{period, percentage, period_answer}
use Rattle.rules.specs.Text.{digits_of, decimal, field, header, train_line, refusal_text, joined, holds_from, file_answers, running_time, line_of_train}
use Rattle.rules.specs.Text.{sheet_text, program_text}

-- numbers as a file has them, low byte first
unfoldable pub bytes : List ℕ → List ℕ
bytes [] = []
bytes (n ∷ ns) = n % 256 ∷ n / 256 ∷ bytes ns

-- the sample line, and one of its trains by its length and its second stop
sample_line : List ℕ
sample_line = 7 ∷ 100 ∷ 1 ∷ 2 ∷ 10 ∷ 20 ∷ 0 ∷ 0 ∷ 72 ∷ 0 ∷ 2 ∷ 2 ∷ 5 ∷ 2 ∷ []

sample_train : ℕ → ℕ → List ℕ
sample_train len stop = 0 ∷ len ∷ 1 ∷ 2 ∷ 72 ∷ 50 ∷ 0 ∷ stop ∷ 0 ∷ 0 ∷ []

pub sample_with : ℕ → ℕ → List ℕ
sample_with len stop = bytes (sample_line ++ (sample_train len stop ++ sample_train len stop))

pub sample : List ℕ
sample = sample_with 100 6

-- the hold record of two blocks with these beginnings and ends
abbrev two_blocks : ℕ → ℕ → ℕ → ℕ → Hold
two_blocks b₁ b₂ e₁ e₂ = record { blocks = 2; begins = b₁ ∷ b₂ ∷ replicate 30 0; ends = e₁ ∷ e₂ ∷ replicate 30 0 }

pub record Marked : Type 0 where
  pub m1 : run_row (line_of sample) (train_of sample 0) ≡ 0 ∷ 12960000 ∷ 25920000 ∷ 38880000 ∷ 25920000 ∷ 12960000 ∷ 0 ∷ []
  pub m2 : run_times (line_of sample) (train_of sample 0) ≡ 0 ∷ 20000000 ∷ 28284433 ∷ 34641488 ∷ 40998543 ∷ 49282976 ∷ 69282976 ∷ []
  pub m3 : hold_of (line_of sample) (train_of sample 1) ≡ two_blocks 0 20000000 42641488 77282976
  pub m3_call : held sample 1 7 7 ≡ record { number = 0; hold = two_blocks 0 20000000 42641488 77282976 }
  pub m4 : file_answers sample ≡ accepted 0 0 ∷ accepted 57282976 2 ∷ []
  pub m4_headway : headway (hold_of (line_of sample) (train_of sample 0)) (hold_of (line_of sample) (train_of sample 1)) ≡ headway_of 57282976
  -- "train start run block", "1 0 69282976 0" and "2 57282976 69282976 2", each with a line feed
  pub m4_text :
      program_text sample ≡
      116 ∷ 114 ∷ 97 ∷ 105 ∷ 110 ∷ 32 ∷ 115 ∷ 116 ∷ 97 ∷ 114 ∷ 116 ∷ 32 ∷ 114 ∷ 117 ∷ 110 ∷ 32 ∷ 98 ∷ 108 ∷ 111 ∷ 99 ∷ 107 ∷ 10 ∷ 49 ∷ 32 ∷ 48 ∷ 32 ∷ 54 ∷
      57 ∷ 50 ∷ 56 ∷ 50 ∷ 57 ∷ 55 ∷ 54 ∷ 32 ∷ 48 ∷ 10 ∷ 50 ∷ 32 ∷ 53 ∷ 55 ∷ 50 ∷ 56 ∷ 50 ∷ 57 ∷ 55 ∷ 54 ∷ 32 ∷ 54 ∷ 57 ∷ 50 ∷ 56 ∷ 50 ∷ 57 ∷ 55 ∷ 54 ∷
      32 ∷ 50 ∷ 10 ∷ []
  pub m5_zero : (root 0).number ≡ 0
  pub m5 : (root 25920000).number ≡ 5091
  pub m6_below : (root 12959999).number ≡ 3599
  pub m6 : (root 12960000).number ≡ 3600
  pub m7 : cell_time 100 5091 6235 ≡ 6357055
  pub m8 : cell_time 1 0 360 ≡ 2000000
  pub m9 : bands_step 10 (30 ∷ 60 ∷ []) (100 ∷ 50 ∷ []) 7000000 ≡ 9000000
  pub m9_above : bands_step 10 (30 ∷ 60 ∷ []) (100 ∷ 50 ∷ []) 8000000 ≡ 9296000
  pub m10_empty : file_refusal [] ≡ 1
  pub m10_less : file_refusal (take 67 sample) ≡ 1
  -- "refused 1" and a line feed
  pub m10_text : program_text [] ≡ 114 ∷ 101 ∷ 102 ∷ 117 ∷ 115 ∷ 101 ∷ 100 ∷ 32 ∷ 49 ∷ 10 ∷ []
  pub m10_more : file_refusal (sample ++ (0 ∷ [])) ≡ 2
  pub m11 : file_refusal (sample_with 101 6) ≡ 9
  pub m12 : file_refusal (sample_with 100 1) ≡ 8

-- ---- sixty points of 50 m, four limits, four blocks, four balises, and a train of each class with one to four stops and two or three bands

-- by the last block's end and the last balise
middle_line : ℕ → ℕ → ℕ → List ℕ
middle_line end point metres = 60 ∷ 50 ∷ 4 ∷ 4 ∷ 15 ∷ 25 ∷ 4 ∷ 0 ∷ 12 ∷ 20 ∷ 41 ∷ 90 ∷ 60 ∷ 120 ∷ 80 ∷ 0 ∷ 10 ∷ 25 ∷ 37 ∷ 10 ∷ 22 ∷ 37 ∷ end ∷
    7 ∷ 7 ∷ 30 ∷ point ∷ 13 ∷ 40 ∷ 0 ∷ metres ∷ 3 ∷ []

-- the first train by its class and its first band's top
first_train : ℕ → ℕ → List ℕ
first_train class top = class ∷ 180 ∷ 3 ∷ 4 ∷ top ∷ 80 ∷ 140 ∷ 110 ∷ 80 ∷ 45 ∷ 0 ∷ 17 ∷ 33 ∷ 59 ∷ 30 ∷ 45 ∷ 20 ∷ 60 ∷ []

pub second_train : List ℕ
second_train = 2 ∷ 330 ∷ 2 ∷ 1 ∷ 30 ∷ 100 ∷ 40 ∷ 20 ∷ 44 ∷ 7 ∷ []

third_train : List ℕ
third_train = 0 ∷ 151 ∷ 3 ∷ 1 ∷ 60 ∷ 130 ∷ 160 ∷ 70 ∷ 50 ∷ 30 ∷ 9 ∷ 90 ∷ []

pub middle_with : ℕ → ℕ → ℕ → ℕ → ℕ → List ℕ
middle_with end point metres class top = bytes (middle_line end point metres ++ (first_train class top ++ (second_train ++ third_train)))

pub middle : List ℕ
middle = middle_with 52 58 49 1 40

abbrev four_blocks : List ℕ → List ℕ → Hold
four_blocks begins ends = record { blocks = 4; begins = begins ++ replicate 28 0; ends = ends ++ replicate 28 0 }

pub record Middle : Type 0 where
  pub taken : file_refusal middle ≡ 0
  pub train : train_record middle 1 ≡ bytes second_train
  pub missing : train_refusal middle 3 ≡ 10
  pub speeds :
      run_row (line_of middle) (train_of middle 0) ≡
      0 ∷ 14256000 ∷ 24624000 ∷ 34992000 ∷ 45360000 ∷ 55728000 ∷ 64000000 ∷ 69832000 ∷ 67104000 ∷ 59328000 ∷ 51552000 ∷ 43776000 ∷ 36000000 ∷ 31104000 ∷
      23328000 ∷ 15552000 ∷ 7776000 ∷ 0 ∷ 14256000 ∷ 24624000 ∷ 34992000 ∷ 36000000 ∷ 36000000 ∷ 36000000 ∷ 46368000 ∷ 56736000 ∷ 54432000 ∷ 46656000 ∷
      38880000 ∷ 31104000 ∷ 23328000 ∷ 15552000 ∷ 7776000 ∷ 0 ∷ 14256000 ∷ 24624000 ∷ 34992000 ∷ 45360000 ∷ 55728000 ∷ 64000000 ∷ 69832000 ∷ 64000000 ∷
      64000000 ∷ 64000000 ∷ 64000000 ∷ 64000000 ∷ 64000000 ∷ 64000000 ∷ 64000000 ∷ 64000000 ∷ 64000000 ∷ 62208000 ∷ 54432000 ∷ 46656000 ∷ 38880000 ∷
      31104000 ∷ 23328000 ∷ 15552000 ∷ 7776000 ∷ 0 ∷ []
  pub enters_at_speed :
      run_row (line_of middle) (train_of middle 1) ≡
      81000000 ∷ 80193600 ∷ 76176000 ∷ 72158400 ∷ 68140800 ∷ 64123200 ∷ 60105600 ∷ 56088000 ∷ 52070400 ∷ 48052800 ∷ 44035200 ∷ 40017600 ∷ 36000000 ∷
      36000000 ∷ 36000000 ∷ 36000000 ∷ 36000000 ∷ 36000000 ∷ 36000000 ∷ 36000000 ∷ 36000000 ∷ 36000000 ∷ 36000000 ∷ 36000000 ∷ 36000000 ∷ 36000000 ∷
      36000000 ∷ 36000000 ∷ 38592000 ∷ 41184000 ∷ 43776000 ∷ 46368000 ∷ 48211200 ∷ 44193600 ∷ 40176000 ∷ 36158400 ∷ 32140800 ∷ 28123200 ∷ 24105600 ∷
      20088000 ∷ 16070400 ∷ 12052800 ∷ 8035200 ∷ 4017600 ∷ 0 ∷ 5184000 ∷ 9000000 ∷ 11592000 ∷ 14184000 ∷ 16776000 ∷ 19368000 ∷ 21960000 ∷ 24552000 ∷
      27144000 ∷ 29736000 ∷ 32328000 ∷ 34920000 ∷ 37512000 ∷ 40104000 ∷ 42696000 ∷ []
  pub times :
      run_times (line_of middle) (train_of middle 0) ≡
      0 ∷ 9536424 ∷ 13656832 ∷ 16966569 ∷ 19812644 ∷ 22348034 ∷ 24675872 ∷ 26876900 ∷ 29052521 ∷ 31317670 ∷ 33736863 ∷ 36346505 ∷ 39200025 ∷ 42309639 ∷
      45769182 ∷ 49873150 ∷ 55221539 ∷ 68134022 ∷ 122670446 ∷ 126790854 ∷ 130100591 ∷ 133121993 ∷ 136121993 ∷ 139121993 ∷ 141932517 ∷ 144442803 ∷
      146857452 ∷ 149391415 ∷ 152146869 ∷ 155194618 ∷ 158654161 ∷ 162758129 ∷ 168106518 ∷ 181019001 ∷ 210555425 ∷ 214675833 ∷ 217985570 ∷ 220831645 ∷
      223367035 ∷ 225694873 ∷ 227895901 ∷ 230096929 ∷ 232346929 ∷ 234596929 ∷ 236846929 ∷ 239096929 ∷ 241346929 ∷ 243596929 ∷ 245846929 ∷ 248096929 ∷
      250346929 ∷ 252612933 ∷ 254971424 ∷ 257505387 ∷ 260260841 ∷ 263308590 ∷ 266768133 ∷ 270872101 ∷ 276220490 ∷ 289132973 ∷ []
  pub hold_1 : hold_of (line_of middle) (train_of middle 0) ≡
      four_blocks (0 ∷ 19812644 ∷ 130100591 ∷ 210555425 ∷ []) (54769182 ∷ 155857452 ∷ 239096929 ∷ 275768133 ∷ [])
  pub hold_2 : hold_of (line_of middle) (train_of middle 1) ≡ four_blocks (0 ∷ 0 ∷ 40486502 ∷ 73486502 ∷ []) (52486502 ∷ 88285005 ∷ 158573828 ∷ 237306744 ∷ [])
  pub hold_3 : hold_of (line_of middle) (train_of middle 2) ≡
      four_blocks (0 ∷ 132431166 ∷ 174348358 ∷ 196732026 ∷ []) (168348358 ∷ 203381082 ∷ 233221240 ∷ 266971240 ∷ [])
  -- header and "1 0 289132973 0", "2 202281631 228306744 4", "3 254768133 264721240 1"
  pub text :
      program_text middle ≡
      header ++ (49 ∷ 32 ∷ 48 ∷ 32 ∷ 50 ∷ 56 ∷ 57 ∷ 49 ∷ 51 ∷ 50 ∷ 57 ∷ 55 ∷ 51 ∷ 32 ∷ 48 ∷ 10 ∷ 50 ∷ 32 ∷ 50 ∷ 48 ∷ 50 ∷ 50 ∷ 56 ∷ 49 ∷ 54 ∷ 51 ∷ 49 ∷ 32 ∷
      50 ∷ 50 ∷ 56 ∷ 51 ∷ 48 ∷ 54 ∷ 55 ∷ 52 ∷ 52 ∷ 32 ∷ 52 ∷ 10 ∷ 51 ∷ 32 ∷ 50 ∷ 53 ∷ 52 ∷ 55 ∷ 54 ∷ 56 ∷ 49 ∷ 51 ∷ 51 ∷ 32 ∷ 50 ∷ 54 ∷ 52 ∷ 55 ∷ 50 ∷ 49 ∷
      50 ∷ 52 ∷ 48 ∷ 32 ∷ 49 ∷ 10 ∷ [])

-- ---- document 02, requests 01 and 02: what roots leave, and the diagram of the sample's first train, a line for each point: position,
-- speed, arrival and dot

pub record Diagram : Type 0 where
  pub left_zero : (root 0).left ≡ 0
  pub left-most : (root 12959999).left ≡ 7198
  pub left-none : (root 12960000).left ≡ 0
  pub left_one : (root 12960001).left ≡ 1
  pub left_some : (root 25920000).left ≡ 1719
  pub sample_bytes :
      diagram_bytes (line_of sample) (train_of sample 0) ≡
      (0 ∷ 0 ∷ 0 ∷ 0 ∷ 0 ∷ 0 ∷ 0 ∷ 0 ∷ 0 ∷ 0 ∷ 0 ∷ 0 ∷ 0 ∷ 0 ∷ 0 ∷ 0 ∷ 0 ∷ 0 ∷ 0 ∷ 0 ∷ 0 ∷ 0 ∷ 0 ∷ 0 ∷ 1 ∷ [])
      ++ ((0 ∷ 0 ∷ 0 ∷ 0 ∷ 0 ∷ 0 ∷ 89 ∷ 64 ∷ 0 ∷ 0 ∷ 0 ∷ 0 ∷ 0 ∷ 32 ∷ 172 ∷ 64 ∷ 0 ∷ 0 ∷ 0 ∷ 0 ∷ 208 ∷ 18 ∷ 115 ∷ 65 ∷ 1 ∷ [])
      ++ ((0 ∷ 0 ∷ 0 ∷ 0 ∷ 0 ∷ 0 ∷ 105 ∷ 64 ∷ 0 ∷ 0 ∷ 0 ∷ 0 ∷ 0 ∷ 227 ∷ 179 ∷ 64 ∷ 0 ∷ 0 ∷ 0 ∷ 16 ∷ 97 ∷ 249 ∷ 122 ∷ 65 ∷ 0 ∷ [])
      ++ ((0 ∷ 0 ∷ 0 ∷ 0 ∷ 0 ∷ 192 ∷ 114 ∷ 64 ∷ 0 ∷ 0 ∷ 0 ∷ 0 ∷ 0 ∷ 91 ∷ 184 ∷ 64 ∷ 0 ∷ 0 ∷ 0 ∷ 128 ∷ 178 ∷ 132 ∷ 128 ∷ 65 ∷ 0 ∷ [])
      ++ ((0 ∷ 0 ∷ 0 ∷ 0 ∷ 0 ∷ 0 ∷ 121 ∷ 64 ∷ 0 ∷ 0 ∷ 0 ∷ 0 ∷ 0 ∷ 227 ∷ 179 ∷ 64 ∷ 0 ∷ 0 ∷ 0 ∷ 120 ∷ 180 ∷ 140 ∷ 131 ∷ 65 ∷ 0 ∷ [])
      ++ ((0 ∷ 0 ∷ 0 ∷ 0 ∷ 0 ∷ 64 ∷ 127 ∷ 64 ∷ 0 ∷ 0 ∷ 0 ∷ 0 ∷ 0 ∷ 32 ∷ 172 ∷ 64 ∷ 0 ∷ 0 ∷ 0 ∷ 0 ∷ 253 ∷ 127 ∷ 135 ∷ 65 ∷ 1 ∷ [])
      ++ (0 ∷ 0 ∷ 0 ∷ 0 ∷ 0 ∷ 192 ∷ 130 ∷ 64 ∷ 0 ∷ 0 ∷ 0 ∷ 0 ∷ 0 ∷ 0 ∷ 0 ∷ 0 ∷ 0 ∷ 0 ∷ 0 ∷ 128 ∷ 178 ∷ 132 ∷ 144 ∷ 65 ∷ 1 ∷ []))))))

-- ---- document 02, request 03: the period of the sample's sheet, and percentages of an hour

-- minutes and seconds in microseconds
abbrev clock : ℕ → ℕ → ℕ
clock minutes seconds = (60 * minutes + seconds) * 1000000

pub record Pattern : Type 0 where
  pub sample_period : period_answer (left_by (fresh 2) (holds_from sample 0 2)) ≡ record { number = 0; period = 114565952; percent = 3 }
  pub empty-period : period_answer (fresh 2) ≡ record { number = 0; period = 0; percent = 0 }
  pub to_the_nearest : percentage (clock 52 34) ≡ 88
  pub half_up : percentage (clock 54 18) ≡ 91
  pub half_a_percent : percentage (clock 0 18) ≡ 1
  pub below_a_half : percentage (clock 0 18 - 1) ≡ 0

-- ---- document 02, request 04: the second train's length for the cap, between balises and past each, and the places of balises that are refused

pub record Uncertainty : Type 0 where
  pub at_point_0 : grown_length (line_of middle) (train_of middle 1) 0 ≡ 332
  pub before-balises : grown_length (line_of middle) (train_of middle 1) 7 ≡ 339
  pub past_two : grown_length (line_of middle) (train_of middle 1) 8 ≡ 333
  pub before_third : grown_length (line_of middle) (train_of middle 1) 29 ≡ 354
  pub at_third : grown_length (line_of middle) (train_of middle 1) 30 ≡ 332
  pub eight_cells : grown_cells (line_of middle) (train_of middle 1) 27 ≡ 8
  pub seven_cells : grown_cells (line_of middle) (train_of middle 1) 30 ≡ 7
  pub plain_cells : train_cells (line_of middle) (train_of middle 1) ≡ 7
  pub at_the_last_point : file_refusal (middle_with 52 59 0 1 40) ≡ 0
  pub beyond_the_last_point : file_refusal (middle_with 52 59 1 1 40) ≡ 15
  pub metres_reach_L : file_refusal (middle_with 52 58 50 1 40) ≡ 15
  pub one_metre_on : file_refusal (middle_with 52 30 1 1 40) ≡ 0
  pub same_place : file_refusal (middle_with 52 30 0 1 40) ≡ 15
  pub after_6 : file_refusal (middle_with 60 30 0 1 40) ≡ 6
  pub before_7 : file_refusal (middle_with 52 30 0 1 0) ≡ 15
  pub after_3_of_a_train : file_refusal (middle_with 52 30 0 3 40) ≡ 3

pub tables : Marked × Middle × Diagram × Pattern × Uncertainty
unfolding bytes sample_line sample_train sample_with sample middle_line first_train second_train third_train middle_with middle ◌and◌ row_from set_below every within
    greatest_below lowest_from last_below ceil_div word words record_at line_of train_at squared change braking_loss train_cells balise_place latest_balise
    distance grown_length grown_cells limit_from cell_limit last_or lowest_covered cap_speed listed cap_of cap band_step bands_step traction_step forward_sweep
    backward_before backward_sweep forward run_at run_row next_digit root_digits leaving root cell_time dwell_from dwell arrival departure arrivals approach_point
    hold_begin hold_end hold_with fresh least_start block_named sheet_after first_broken refusal whole nothing_after line_sizes train_sizes limit_points_rule limits_rule
    blocks_rule balises_rule bands_rule stops_rule last_block_rule train_there buffers_long sheet_rule hold_rule file_refusal train_refusal train_record run_refusal held
    added opened headway answers left_by digits_of decimal field header train_line refusal_text joined holds_from file_answers running_time line_of_train sheet_text
    program_text double record_of diagram_point dot diagram_dot low_first double_bytes figures_bytes point_bytes diagram_bytes of_int to_bits period percentage
    period_answer
tables = (
  record {
    m1 = refl;
    m2 = refl;
    m3 = refl;
    m3_call = refl;
    m4 = refl;
    m4_headway = refl;
    m4_text = refl;
    m5_zero = refl;
    m5 = refl;
    m6_below = refl;
    m6 = refl;
    m7 = refl;
    m8 = refl;
    m9 = refl;
    m9_above = refl;
    m10_empty = refl;
    m10_less = refl;
    m10_text = refl;
    m10_more = refl;
    m11 = refl;
    m12 = refl;
  },
  record {
    taken = refl;
    train = refl;
    missing = refl;
    speeds = refl;
    enters_at_speed = refl;
    times = refl;
    hold_1 = refl;
    hold_2 = refl;
    hold_3 =
        refl;
    text = refl;
  },
  record { left_zero = refl; left-most = refl; left-none = refl; left_one = refl; left_some = refl; sample_bytes = refl },
  record {
    sample_period = refl;
    empty-period = refl;
    to_the_nearest = refl;
    half_up = refl;
    half_a_percent = refl;
    below_a_half = refl;
  },
  record {
    at_point_0 = refl;
    before-balises = refl;
    past_two = refl;
    before_third = refl;
    at_third = refl;
    eight_cells = refl;
    seven_cells = refl;
    plain_cells = refl;
    at_the_last_point = refl;
    beyond_the_last_point = refl;
    metres_reach_L = refl;
    one_metre_on = refl;
    same_place = refl;
    after_6 = refl;
    before_7 = refl;
    after_3_of_a_train = refl;
  },
)
