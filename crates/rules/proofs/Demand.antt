-- The third demand for starts: every list of adding calls from a sheet just opened. Assumes nothing.
use Prim.Native.Nat.{ℕ, zero, suc, ◌+◌, ◌≤◌, ◌<◌}
use mathlib.Core.Bool.{Bool, true, false, cond}
use mathlib.Core.List.{List, [], ◌∷◌, ◌++◌}
use mathlib.Core.Option.{Option, none, some}
use mathlib.Core.Path.{◌≡◌, refl, sym, ap, ◌∙◌}
use native.Mathlib.Nat.{add-zero, zero-add, le_of_suc-le-suc}
use native.Mathlib.Omega.{arith}
use lib.ListN.{length, get_or, take}
use Rattle.rules.specs.Count.{entry}
use Rattle.rules.specs.Hold.{Hold, empty_hold}
use Rattle.rules.specs.Sheet.{Sheet, begin, end, fresh, least_start, block_named, sheet_after}
use Rattle.rules.specs.Refusal.{rule, first_broken, count_rule, room_rule, hold_rule, adding_rules}
use Rattle.rules.specs.Calls.{Opening, Answer, accepted, refused, added, opened}
use Rattle.rules.specs.Demand.{answers, left_by, starts, trains, refusal_of, WithoutOverlap, ThirdDemand}
use Rattle.rules.specs.Meaning.{Clears}
use Rattle.rules.proofs.Count.{within_means}
use Rattle.rules.proofs.Sheet.{rule_12, start_is, either_way, all_kept_lem, Sound, freed, sound_added, fresh-free, sound_fresh}
use Rattle.rules.proofs.Numbers.{judges_hold}
use Rattle.rules.proofs.Beyond.{unread_list, unaltered_list}

-- the first broken rule where 12 is kept
abbrev judged : ℕ → ℕ → Hold → Option ℕ
judged n trains h = first_broken (rule 13 (room_rule trains) ∷ rule 14 (hold_rule n h) ∷ [])

judged_adding : (s : Sheet) → Sound s → (h : Hold) → first_broken (adding_rules s h) ≡ judged s.blocks s.trains h
unfolding first_broken
judged_adding s ok h = rw ((rule_12 s).1 ok.keeps)

pub sound_left : (s : Sheet) → Sound s → (calls : List Hold) → Sound (left_by s calls)
unfolding left_by
sound_left s ok [] = ok
sound_left s ok (h ∷ calls) = sound_left (added s h).sheet (sound_added s ok h) calls

answers_more : (s : Sheet) (calls more : List Hold) → answers s (calls ++ more) ≡ answers s calls ++ answers (left_by s calls) more
unfolding answers left_by
answers_more s [] more = refl
answers_more s (h ∷ calls) more = ap (λ got. (added s h).answer ∷ got) (answers_more (added s h).sheet calls more)

-- The parts of the claim from any sheet on: it has trains already, and the starts ts of the trains hs clear its free times.
abbrev NumbersFrom : Sheet → List Hold → List Answer → Type 0
NumbersFrom s calls got =
    (i : ℕ) → i < length calls →
    refusal_of (get_or got i (refused 0)) ≡ judged s.blocks (s.trains + length (starts (take i got))) (get_or calls i empty_hold)

abbrev AllClear : Sheet → List Hold → List ℕ → Type 0
AllClear s hs ts = (j : ℕ) → j < length hs → Clears s (get_or hs j empty_hold) (entry ts j)

abbrev NoneEarlierFrom : Sheet → List Hold → List ℕ → Type 0
NoneEarlierFrom s hs ts =
    (rival : List ℕ) → length rival ≡ length hs → AllClear s hs rival → WithoutOverlap s.blocks hs rival →
    (k : ℕ) → k < length hs → entry ts k ≤ entry rival k

record From (s : Sheet) (calls : List Hold) (got : List Answer) : Type 0 where
  answered : length got ≡ length calls
  numbers : NumbersFrom s calls got
  as_many : length (starts got) ≡ length (trains calls got)
  clear : AllClear s (trains calls got) (starts got)
  apart : WithoutOverlap s.blocks (trains calls got) (starts got)
  least : NoneEarlierFrom s (trains calls got) (starts got)

-- a refused call changes nothing
module _ (s : Sheet) (ok : Sound s) (h : Hold) (calls : List Hold) (got : List Answer) (n : ℕ)
    (e : first_broken (adding_rules s h) ≡ some n) (r : From s calls got) where
  refused-numbers : NumbersFrom s (h ∷ calls) (refused n ∷ got)
  unfolding starts
  refused-numbers zero l = rw add-zero (sym e ∙ judged_adding s ok h)
  refused-numbers (suc i) l = r.numbers i (le_of_suc-le-suc l)

  refused_from : From s (h ∷ calls) (refused n ∷ got)
  unfolding starts trains
  refused_from =
      record {
        answered = ap suc r.answered;
        numbers = refused-numbers;
        as_many = r.as_many;
        clear = r.clear;
        apart = r.apart;
        least = r.least;
      }

-- an accepted call: the later trains go from the sheet after it
module _ (s : Sheet) (ok : Sound s) (h : Hold) (calls : List Hold) (got : List Answer) (block : ℕ)
    (e : first_broken (adding_rules s h) ≡ none) (r : From (sheet_after s h (least_start s h)) calls got) where
  abbrev start : ℕ
  start = least_start s h

  accepted-numbers : NumbersFrom s (h ∷ calls) (accepted start block ∷ got)
  unfolding starts sheet_after
  accepted-numbers zero l = rw add-zero (sym e ∙ judged_adding s ok h)
  accepted-numbers (suc i) l =
      let m : s.trains + suc (length (starts (take i got))) ≡ s.trains + 1 + length (starts (take i got)) = omega arith in
      rw m (r.numbers i (le_of_suc-le-suc l))

  later : (j b : ℕ) → j < length (trains calls got) → b < s.blocks → start + end h b ≤ entry (starts got) j + begin (get_or (trains calls got) j empty_hold) b
  unfolding sheet_after
  later j b l k = omega (arith, freed s ok h b k, r.clear j l b k)

  accepted_clear : AllClear s (h ∷ trains calls got) (start ∷ starts got)
  accepted_clear zero l = (start_is s h).clears
  accepted_clear (suc j) l = λ b k. omega (arith, (start_is s h).clears b k, ((all_kept_lem s h).0 e).2.ordered b k, later j b (le_of_suc-le-suc l) k)

  accepted-apart : WithoutOverlap s.blocks (h ∷ trains calls got) (start ∷ starts got)
  unfolding sheet_after
  accepted-apart i zero b l m k = absurd (omega arith)
  accepted-apart zero (suc j) b l m k = later j b (le_of_suc-le-suc m) k
  accepted-apart (suc i) (suc j) b l m k = r.apart i j b (le_of_suc-le-suc l) (le_of_suc-le-suc m) k

  accepted-least : NoneEarlierFrom s (h ∷ trains calls got) (start ∷ starts got)
  unfolding sheet_after
  accepted-least [] q c w k l = absurd (omega arith)
  accepted-least (x ∷ xs) q c w zero l = (start_is s h).least x (c 0 (omega arith))
  accepted-least (x ∷ xs) q c w (suc k) l =
      let first : start ≤ x = (start_is s h).least x (c 0 (omega arith)) in
      r.least xs (omega arith) (λ j m b o. omega (arith, freed s ok h b o, w 0 (suc j) b (omega arith) (omega arith) o))
      (λ i j b i-j m o. w (suc i) (suc j) b (omega arith) (omega arith) o)
      k
      (le_of_suc-le-suc l)

  accepted_from : From s (h ∷ calls) (accepted start block ∷ got)
  unfolding starts trains
  accepted_from =
      record {
        answered = ap suc r.answered;
        numbers = accepted-numbers;
        as_many = ap suc r.as_many;
        clear = accepted_clear;
        apart = accepted-apart;
        least = accepted-least;
      }

from : (s : Sheet) → Sound s → (calls : List Hold) → From s calls (answers s calls)
unfolding answers starts trains
from s ok [] =
    record {
      answered = refl;
      numbers = λ i l. absurd (omega arith);
      as_many = refl;
      clear = λ j l. absurd (omega arith);
      apart = λ i j b l m. absurd (omega arith);
      least = λ rival q c w k l. absurd (omega arith);
    }
from s ok (h ∷ calls) =
    either_way (λ a. From a.sheet calls (answers a.sheet calls) → From s (h ∷ calls) (a.answer ∷ answers a.sheet calls)) s h
    (λ e. accepted_from s ok h calls (answers (sheet_after s h (least_start s h)) calls) (block_named s h (least_start s h)) e)
    (λ n e. refused_from s ok h calls (answers s calls) n e)
    (from (added s h).sheet (sound_added s ok h) calls)

-- ---- a fresh sheet

pub third_demand : (n : ℕ) → 1 ≤ n → n ≤ 32 → ThirdDemand n (fresh n)
unfolding fresh
third_demand n low high calls =
    let ok : Sound (fresh n) = sound_fresh n low high in
    let f : From (fresh n) calls (answers (fresh n) calls) = from (fresh n) ok calls in
    record {
      answered = f.answered;
      followed = answers_more (fresh n) calls;
      numbers = λ i l. rw (f.numbers i l, zero-add) (judges_hold _ n (get_or calls i empty_hold)).first;
      sheets = λ i. (sound_left (fresh n) ok (take i calls)).keeps;
      as_many = f.as_many;
      apart = f.apart;
      least = λ rival q w. f.least rival q (λ j m b o. omega (arith, fresh-free n b (omega arith))) w;
      unread = unread_list (fresh n) calls;
      unaltered = unaltered_list (fresh n) calls;
    }

pub opened-fresh : (n : ℕ) → count_rule n ≡ true → opened n ≡ record { number = 0; sheet = fresh n }
unfolding opened
opened-fresh n e = rw e

pub opened-refused : (n : ℕ) → count_rule n ≡ false → opened n ≡ record { number = 12; sheet = fresh 0 }
unfolding opened
opened-refused n e = rw e

pub opened-count : (n : ℕ) → (opened n).number ≡ 0 → count_rule n ≡ true
unfolding opened
opened-count n = go (count_rule n)
  where
    go : (b : Bool) → (cond {A = Opening} b (record { number = 0; sheet = fresh n }) (record { number = 12; sheet = fresh 0 })).number ≡ 0 → b ≡ true
    go true e = refl
    go false e = cc

pub opened_demand : (n : ℕ) → (opened n).number ≡ 0 → ThirdDemand n (opened n).sheet
opened_demand n e =
    let c : count_rule n ≡ true = opened-count n e in
    let (low, high) = within_means 1 32 n c in
    rw (opened-fresh n c) (third_demand n low high)
