-- An addition neither reads nor alters a place beyond the block count. Assumes nothing.
use Prim.Native.Nat.{ℕ, suc, ◌+◌, ◌-◌, ◌*◌, ◌^◌, ◌≤◌, ◌<◌}
use mathlib.Core.Bool.{cond}
use mathlib.Core.List.{List, [], ◌∷◌}
use mathlib.Core.Option.{Option, none, some}
use mathlib.Core.Path.{◌≡◌, refl, ap, ap₂, ◌∙◌}
use native.Mathlib.Omega.{arith}
use lib.Dec.{leb, ltb, eqb}
use lib.ListN.{length, get_or}
use Rattle.rules.specs.Count.{counted_from1}
use Rattle.rules.specs.Hold.{Hold, empty_hold}
use Rattle.rules.specs.Sheet.{Sheet, begin, end, free_time, first_begin, least_start, block_named, sheet_after}
use Rattle.rules.specs.Refusal.{first_broken, sheet_rule, hold_rule, adding_rules}
use Rattle.rules.specs.Calls.{accepted, addition, added}
use Rattle.rules.specs.Demand.{SameWithin, answers, left_by}
use Rattle.rules.proofs.Count.{set_below_agree, every_agree, greatest_agree, last_agree}
use Rattle.rules.proofs.Sheet.{after_is, either_way}

-- two sheets with the same counts, and the same free times and first train's beginnings within the block count
pub record SameSheet (s s' : Sheet) : Type 0 where
  pub blocks : s.blocks ≡ s'.blocks
  pub trains : s.trains ≡ s'.trains
  pub free : (b : ℕ) → b < s.blocks → free_time s b ≡ free_time s' b
  pub first : (b : ℕ) → b < s.blocks → first_begin s b ≡ first_begin s' b

module _ (s s' : Sheet) (h h' : Hold) (of : SameSheet s s') (same : SameWithin s.blocks h h') where
  same_12 : sheet_rule s ≡ sheet_rule s'
  unfolding sheet_rule
  same_12 =
      rw (
        ← of.blocks,
        ← of.trains,
        every_agree _ _ s.blocks (λ b l. ap (λ x. leb x (s.trains * 2 ^ 44)) (of.free b l)),
        every_agree _ _ s.blocks (λ b l. ap₂ ltb (of.first b l) (of.free b l)),
      )

  same_14 : hold_rule s.blocks h ≡ hold_rule s'.blocks h'
  unfolding hold_rule
  same_14 =
      rw (
        ← of.blocks,
        same.count,
        every_agree _ _ s.blocks (λ b l. ap₂ ltb (same.begins b l) (same.ends b l)),
        every_agree _ _ s.blocks (λ b l. ap (λ x. leb x (2 ^ 44)) (same.ends b l)),
      )

  same_start : least_start s h ≡ least_start s' h'
  unfolding least_start
  same_start = rw (← of.blocks) (greatest_agree s.blocks _ _ (λ b l. ap₂ ◌-◌ (of.free b l) (same.begins b l)))

  same_block : (start : ℕ) → block_named s h start ≡ block_named s' h' start
  unfolding block_named
  same_block start =
      rw (← of.blocks)
      (ap (λ o. cond (eqb start 0) 0 (counted_from1 o)) (last_agree s.blocks _ _ (λ b l. ap₂ eqb (ap (λ x. start + x) (same.begins b l)) (of.free b l))))

  same_rules : first_broken (adding_rules s h) ≡ first_broken (adding_rules s' h')
  same_rules = rw (same_12, of.trains, same_14)

  -- the same answer
  pub unread : (added s h).answer ≡ (added s' h').answer
  unfolding added
  unread = rw same_rules (go (first_broken (adding_rules s' h')))
    where
      go : (o : Option ℕ) → (addition s h o).answer ≡ (addition s' h' o).answer
      go none = rw same_start (ap (accepted (least_start s' h')) (same_block (least_start s' h')))
      go (some n) = refl

-- an answer does not depend on what the sheet holds beyond the block count
pub unread-sheet : (s s' : Sheet) → SameSheet s s' → (h : Hold) → (added s h).answer ≡ (added s' h).answer
unread-sheet s s' of h = unread s s' h h of (record { count = refl; begins = λ b l. refl; ends = λ b l. refl })

-- nor does the addition depend on what the record holds there
pub unread_one : (s : Sheet) (h h' : Hold) → SameWithin s.blocks h h' → added s h ≡ added s h'
unfolding added sheet_after
unread_one s h h' same = rw (same_rules s s h h' of same) (go (first_broken (adding_rules s h')))
  where
    of : SameSheet s s
    of = record { blocks = refl; trains = refl; free = λ b l. refl; first = λ b l. refl }

    go : (o : Option ℕ) → addition s h o ≡ addition s h' o
    go none =
        rw (
          same_start s s h h' of same,
          same_block s s h h' of same (least_start s h'),
          set_below_agree (λ b. least_start s h' + end h b) (λ b. least_start s h' + end h' b) s.blocks s.free
              (λ b l. ap (λ x. least_start s h' + x) (same.ends b l)),
          set_below_agree (λ b. begin h b) (λ b. begin h' b) s.blocks s.first same.begins,
        )
    go (some n) = refl

pub blocks-added : (s : Sheet) (h : Hold) → (added s h).sheet.blocks ≡ s.blocks
unfolding sheet_after
blocks-added s h = either_way (λ a. a.sheet.blocks ≡ s.blocks) s h (λ e. refl) (λ n e. refl)

-- two sheets hold the same at place b
abbrev SameAt : ℕ → Sheet → Sheet → Type 0
SameAt b s s' = (free_time s b ≡ free_time s' b) × (first_begin s b ≡ first_begin s' b)

unaltered_one : (s : Sheet) (h : Hold) (b : ℕ) → s.blocks ≤ b → SameAt b (added s h).sheet s
unaltered_one s h b l = either_way (λ a. SameAt b a.sheet s) s h (λ e. (after_is s h (least_start s h)).beyond b l) (λ n e. (refl, refl))

-- ---- a list of additions

pub blocks-left : (s : Sheet) (calls : List Hold) → (left_by s calls).blocks ≡ s.blocks
unfolding left_by
blocks-left s [] = refl
blocks-left s (h ∷ calls) = blocks-left (added s h).sheet calls ∙ blocks-added s h

pub unread_list :
    (s : Sheet) (calls others : List Hold) → length others ≡ length calls →
    ((i : ℕ) → i < length calls → SameWithin s.blocks (get_or calls i empty_hold) (get_or others i empty_hold)) →
    (answers s others ≡ answers s calls) × (left_by s others ≡ left_by s calls)
unfolding answers left_by
unread_list s [] [] q same = (refl, refl)
unread_list s [] (h' ∷ others) q same = absurd (omega arith)
unread_list s (h ∷ calls) [] q same = absurd (omega arith)
unread_list s (h ∷ calls) (h' ∷ others) q same =
    let e : added s h ≡ added s h' = unread_one s h h' (same 0 (omega arith)) in
    let r = unread_list (added s h).sheet calls others (omega arith) (λ i l. rw (blocks-added s h) (same (suc i) (omega arith))) in
    rw (← e) (ap (λ got. (added s h).answer ∷ got) r.0, r.1)

pub unaltered_list : (s : Sheet) (calls : List Hold) (b : ℕ) → s.blocks ≤ b → SameAt b (left_by s calls) s
unfolding left_by
unaltered_list s [] b l = (refl, refl)
unaltered_list s (h ∷ calls) b l =
    let later = unaltered_list (added s h).sheet calls b (rw (blocks-added s h) l) in
    let one = unaltered_one s h b l in
    (later.0 ∙ one.0, later.1 ∙ one.1)
