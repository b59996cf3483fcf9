-- Document 01, "The sheet of starts": the list of the third demand. It begins with a sheet just opened; its calls are adding calls
-- with any arguments, refused ones included; each gets the sheet that the one before left.
use Rattle.std.specs.Prelude.{ℕ, ◌+◌, ◌≤◌, ◌<◌, List, [], ◌∷◌, ◌++◌, ◌≡◌, length, get_or, take}
use Rattle.std.proofs.Math.Option.{Option, none, some}
use Rattle.rules.specs.Count.{entry}
use Rattle.rules.specs.Hold.{Hold, empty_hold}
use Rattle.rules.specs.Sheet.{Sheet, begin, end, free_time, first_begin}
use Rattle.rules.specs.Calls.{Answer, accepted, refused, added}
use Rattle.rules.specs.Admitted.{Rule12}
use Rattle.rules.specs.Numbers.{AnswersBy, hold_checks}

-- the answers to a list of adding calls, and the sheet that it leaves
unfoldable pub answers : Sheet → List Hold → List Answer
answers s [] = []
answers s (h ∷ calls) = (added s h).answer ∷ answers (added s h).sheet calls

unfoldable pub left_by : Sheet → List Hold → Sheet
left_by s [] = s
left_by s (h ∷ calls) = left_by (added s h).sheet calls

-- the starts that accepted calls returned, in the order of these calls
unfoldable pub starts : List Answer → List ℕ
starts [] = []
starts (accepted start block ∷ got) = start ∷ starts got
starts (refused n ∷ got) = starts got

-- the trains: the records of the accepted calls, in the order of these calls
unfoldable pub trains : List Hold → List Answer → List Hold
trains [] got = []
trains (h ∷ calls) [] = []
trains (h ∷ calls) (accepted start block ∷ got) = h ∷ trains calls got
trains (h ∷ calls) (refused n ∷ got) = trains calls got

-- the number of a refusal; an accepted call has none
abbrev pub refusal_of : Answer → Option ℕ
refusal_of (accepted start block) = none
refusal_of (refused n) = some n

-- Call i is refused by the first broken rule in checking order, and accepted exactly when none is broken: 12 never is, 13 is exactly
-- when 64 earlier calls of the list were accepted, 14 is judged by the call's own record and the block count n opened with.
abbrev pub RightNumbers : ℕ → List Hold → List Answer → Type 0
RightNumbers n calls got =
    (i : ℕ) → i < length calls →
    AnswersBy (hold_checks (length (starts (take i got))) n (get_or calls i empty_hold)) some none (refusal_of (get_or got i (refused 0)))

-- Starts are without overlap if, in every block within the block count n, each train's start plus beginning is at least the start
-- plus end of every train before it.
abbrev pub WithoutOverlap : ℕ → List Hold → List ℕ → Type 0
WithoutOverlap n hs ts =
    (i j b : ℕ) → i < j → j < length hs → b < n →
    entry ts i + end (get_or hs i empty_hold) b ≤ entry ts j + begin (get_or hs j empty_hold) b

-- A rival sequence gives each of these trains a whole number of 0 or more as its start, and is without overlap. Each start is at most
-- the rival's start for the same train.
abbrev pub NoneEarlier : ℕ → List Hold → List ℕ → Type 0
NoneEarlier n hs ts =
    (rival : List ℕ) → length rival ≡ length hs → WithoutOverlap n hs rival → (k : ℕ) → k < length hs → entry ts k ≤ entry rival k

-- two records have the same block count, and the same beginnings and ends within the block count n
pub record SameWithin (n : ℕ) (h h' : Hold) : Type 0 where
  pub count : h.blocks ≡ h'.blocks
  pub begins : (b : ℕ) → b < n → begin h b ≡ begin h' b
  pub ends : (b : ℕ) → b < n → end h b ≡ end h' b

-- The third demand for starts, of the sheet s with n blocks, as one claim about a list of adding calls.
pub record LeastStarts (n : ℕ) (s : Sheet) (calls : List Hold) : Type 0 where
  pub answered : length (answers s calls) ≡ length calls
  -- the answers to more calls are those to them on the sheet that this list leaves
  pub followed : (more : List Hold) → answers s (calls ++ more) ≡ answers s calls ++ answers (left_by s calls) more
  -- the numbers of refusal; no sheet of the list breaks 12
  pub numbers : RightNumbers n calls (answers s calls)
  pub sheets : (i : ℕ) → Rule12 (left_by s (take i calls))
  -- the trains at the starts returned
  pub as_many : length (starts (answers s calls)) ≡ length (trains calls (answers s calls))
  pub apart : WithoutOverlap n (trains calls (answers s calls)) (starts (answers s calls))
  pub least : NoneEarlier n (trains calls (answers s calls)) (starts (answers s calls))
  -- places beyond the block count are neither read nor altered
  pub unread :
      (others : List Hold) → length others ≡ length calls →
      ((i : ℕ) → i < length calls → SameWithin n (get_or calls i empty_hold) (get_or others i empty_hold)) →
      (answers s others ≡ answers s calls) × (left_by s others ≡ left_by s calls)
  pub unaltered :
      (b : ℕ) → n ≤ b → (free_time (left_by s calls) b ≡ free_time s b) × (first_begin (left_by s calls) b ≡ first_begin s b)

-- the third demand for starts, of a sheet just opened with n blocks
abbrev pub ThirdDemand : ℕ → Sheet → Type 0
ThirdDemand n s = (calls : List Hold) → LeastStarts n s calls
