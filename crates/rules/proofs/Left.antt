-- What a list of adding calls leaves on the sheet: the number of trains, the last train's ends and the first train's beginnings. Assumes
-- nothing.
use Prim.Native.Nat.{ℕ, zero, suc, ◌+◌, ◌≤◌, ◌<◌}
use mathlib.Core.List.{List, [], ◌∷◌}
use mathlib.Core.Option.{none}
use mathlib.Core.Path.{◌≡◌, refl, ap, ◌∙◌}
use native.Mathlib.Nat.{le_of_suc-le-suc}
use native.Mathlib.Omega.{arith}
use lib.ListN.{length, get_or}
use Rattle.rules.specs.Count.{entry}
use Rattle.rules.specs.Hold.{Hold, empty_hold}
use Rattle.rules.specs.Sheet.{Sheet, begin, end, free_time, first_begin, least_start, sheet_after}
use Rattle.rules.specs.Refusal.{first_broken, adding_rules}
use Rattle.rules.specs.Calls.{added}
use Rattle.rules.specs.Demand.{answers, left_by, starts, trains}
use Rattle.rules.specs.Admitted.{Rule14}
use Rattle.rules.proofs.Sheet.{start_zero, after_is, either_way, all_kept_lem, Sound, freed, sound_added}

-- the sheet `left` after the trains hs with the starts ts are added to s
pub record Leaves (s : Sheet) (hs : List Hold) (ts : List ℕ) (left : Sheet) : Type 0 where
  pub unchanged : length hs ≡ 0 → left ≡ s
  pub count : left.trains ≡ s.trains + length hs
  pub kept : (k : ℕ) → k < length hs → Rule14 s.blocks (get_or hs k empty_hold)
  -- the first train starts at 0 on a sheet whose blocks are all free
  pub at_zero : ((b : ℕ) → b < s.blocks → free_time s b ≡ 0) → 1 ≤ length hs → entry ts 0 ≡ 0
  pub first : s.trains ≡ 0 → 1 ≤ length hs → (b : ℕ) → b < s.blocks → first_begin left b ≡ begin (get_or hs 0 empty_hold) b
  pub later : 1 ≤ s.trains → left.first ≡ s.first
  pub last : (k : ℕ) → length hs ≡ suc k → (b : ℕ) → b < s.blocks → free_time left b ≡ entry ts k + end (get_or hs k empty_hold) b

-- an accepted call: the later trains go on from the sheet after it
module _ (s : Sheet) (ok : Sound s) (h : Hold) (e : first_broken (adding_rules s h) ≡ none) (hs : List Hold) (ts : List ℕ) (left : Sheet)
    (r : Leaves (sheet_after s h (least_start s h)) hs ts left) where
  abbrev start : ℕ
  start = least_start s h

  kept_more : (k : ℕ) → k < suc (length hs) → Rule14 s.blocks (get_or (h ∷ hs) k empty_hold)
  unfolding sheet_after
  kept_more zero l = ((all_kept_lem s h).0 e).2
  kept_more (suc k) l = r.kept k (le_of_suc-le-suc l)

  first_more : s.trains ≡ 0 → (b : ℕ) → b < s.blocks → first_begin left b ≡ begin h b
  unfolding sheet_after
  first_more z b l =
      ap (λ list. entry list b) (r.later (omega arith)) ∙ (after_is s h start).first-addition z b l (omega (arith, ok.first-places))

  last_more : (k : ℕ) → length hs ≡ k → (b : ℕ) → b < s.blocks → free_time left b ≡ entry (start ∷ ts) k + end (get_or (h ∷ hs) k empty_hold) b
  unfolding sheet_after
  last_more zero z b l = rw (r.unchanged z) (freed s ok h b l)
  last_more (suc k) z b l = r.last k z b l

  leaves_more : Leaves s (h ∷ hs) (start ∷ ts) left
  unfolding sheet_after
  leaves_more =
      record {
        unchanged = λ z. absurd (omega arith);
        count = omega (arith, r.count);
        kept = kept_more;
        at_zero = λ free m. start_zero s h free;
        first = λ z m. first_more z;
        later = λ m. r.later (omega arith) ∙ (after_is s h start).later-addition m;
        last = λ k z. last_more k (omega arith);
      }

pub leaves : (s : Sheet) → Sound s → (calls : List Hold) → Leaves s (trains calls (answers s calls)) (starts (answers s calls)) (left_by s calls)
unfolding answers starts trains left_by
leaves s ok [] =
    record {
      unchanged = λ z. refl;
      count = omega arith;
      kept = λ k l. absurd (omega arith);
      at_zero = λ free m. absurd (omega arith);
      first = λ z m. absurd (omega arith);
      later = λ m. refl;
      last = λ k z. absurd (omega arith);
    }
leaves s ok (h ∷ calls) =
    either_way
    (λ a.
    Leaves a.sheet (trains calls (answers a.sheet calls)) (starts (answers a.sheet calls)) (left_by a.sheet calls) →
    Leaves s (trains (h ∷ calls) (a.answer ∷ answers a.sheet calls)) (starts (a.answer ∷ answers a.sheet calls)) (left_by a.sheet calls))
    s h
    (λ e. leaves_more s ok h e _ _ _)
    (λ n e r. r)
    (leaves (added s h).sheet (sound_added s ok h) calls)
