-- One addition to a sheet: what rules 12 to 14, the least start, the block named and the sheet after mean. Assumes nothing.
use Prim.Native.Nat.{ℕ, ◌+◌, ◌-◌, ◌*◌, ◌^◌, ◌≤◌, ◌<◌}
use mathlib.Core.Bool.{Bool, true, false, cond}
use mathlib.Core.List.{List, [], ◌∷◌}
use mathlib.Core.Logic.{◌↔◌, ⊎_elim}
use mathlib.Core.Option.{Option, none, some}
use mathlib.Core.Path.{◌≡◌, refl, ap}
use native.Mathlib.Nat.{eq-zero-or-pos}
use native.Mathlib.Numerals.{add-one}
use native.Mathlib.Omega.{arith}
use lib.Dec.{eqb, ltb}
use lib.ListN.{length, get_or-replicate}
use borrow.Author.Tests.{leb-true, le-leb, ltb-true, lt-ltb, eqb-true, eq-eqb, eqb-false, ne_eqb, not-true}
use Rattle.rules.specs.Count.{entry, every, set_below, counted_from1}
use Rattle.rules.specs.Hold.{Hold}
use Rattle.rules.specs.Sheet.{Sheet, begin, end, free_time, first_begin, fresh, least_start, block_named, sheet_after}
use Rattle.rules.specs.Refusal.{rule, first_broken, sheet_rule, room_rule, hold_rule, adding_rules}
use Rattle.rules.specs.Calls.{Addition, refused, accept, refuse, added}
use Rattle.rules.specs.Admitted.{Rule12, Rule14}
use Rattle.rules.specs.Meaning.{Binds, IsLeastStart, IsBlockNamed, IsSheetAfter}
use Rattle.rules.proofs.Count.{length-set_below, set_below-at, set_below-beyond, and_left, and_right}
use Rattle.rules.proofs.Count.{and_both, every-at, every_all, within_means, within_holds, at_most-greatest, greatest-at_most}
use Rattle.rules.proofs.Count.{greatest-attained, last_passes}

-- ---- rules

-- the first train's beginnings are judged on a sheet with trains alone
firsts : (s : Sheet) → (cond (eqb s.trains 0) true (every s.blocks (λ b. ltb (first_begin s b) (free_time s b))) ≡ true)
    ↔ (1 ≤ s.trains → (b : ℕ) → b < s.blocks → first_begin s b < free_time s b)
firsts s = (
  λ e m b l. ltb-true (first_begin s b) (free_time s b) (every-at _ s.blocks (rw (ne_eqb s.trains 0 (λ z. omega arith)) at e) b l),
  λ h.
      ⊎_elim (λ z. rw z)
      (λ m. rw (ne_eqb s.trains 0 (λ z. omega arith)) (every_all _ s.blocks (λ b l. lt-ltb (first_begin s b) (free_time s b) (h m b l))))
      (eq-zero-or-pos s.trains),
)

pub rule_12 : (s : Sheet) → (sheet_rule s ≡ true) ↔ Rule12 s
unfolding sheet_rule
rule_12 s = (
  λ e.
      record {
        blocks-least = (within_means 1 32 s.blocks (and_left _ _ e)).0;
        blocks-most = (within_means 1 32 s.blocks (and_left _ _ e)).1;
        trains-most = leb-true s.trains 64 (and_left _ _ (and_right _ _ e));
        free-most = λ b l.
            leb-true (free_time s b) (s.trains * 2 ^ 44) (every-at _ s.blocks (and_left _ _ (and_right _ _ (and_right _ _ e))) b l);
        first_below = (firsts s).0 (and_right _ _ (and_right _ _ (and_right _ _ e)));
      },
  λ r.
      and_both (within_holds 1 32 s.blocks r.blocks-least r.blocks-most)
      (and_both (le-leb s.trains 64 r.trains-most)
      (and_both (every_all _ s.blocks (λ b l. le-leb (free_time s b) (s.trains * 2 ^ 44) (r.free-most b l))) ((firsts s).1 r.first_below))),
)

pub rule_13 : (trains : ℕ) → (room_rule trains ≡ true) ↔ (trains ≡ 64 → ⊥)
rule_13 trains = (λ e. eqb-false trains 64 (not-true (eqb trains 64) e), λ ne. rw (ne_eqb trains 64 ne))

pub rule_14 : (n : ℕ) (h : Hold) → (hold_rule n h ≡ true) ↔ Rule14 n h
unfolding hold_rule
rule_14 n h = (
  λ e.
      record {
        count = eqb-true h.blocks n (and_left _ _ e);
        ordered = λ b l. ltb-true (begin h b) (end h b) (every-at _ n (and_left _ _ (and_right _ _ e)) b l);
        end-most = λ b l. leb-true (end h b) (2 ^ 44) (every-at _ n (and_right _ _ (and_right _ _ e)) b l);
      },
  λ r.
      and_both (eq-eqb h.blocks n r.count)
      (and_both (every_all _ n (λ b l. lt-ltb (begin h b) (end h b) (r.ordered b l))) (every_all _ n (λ b l. le-leb (end h b) (2 ^ 44) (r.end-most b l)))),
)

-- ---- the least start and the block named

pub start_is : (s : Sheet) (h : Hold) → IsLeastStart s h (least_start s h)
unfolding least_start
start_is s h =
    record {
      clears = λ b l. omega (arith, at_most-greatest s.blocks (λ b. free_time s b - begin h b) b l);
      least = λ other c. greatest-at_most s.blocks (λ b. free_time s b - begin h b) other (λ b l. omega (arith, c b l));
    }

-- where every block is free, a train starts at 0
pub start_zero : (s : Sheet) (h : Hold) → ((b : ℕ) → b < s.blocks → free_time s b ≡ 0) → least_start s h ≡ 0
start_zero s h free = omega (arith, (start_is s h).least 0 (λ b l. omega (arith, free b l)))

pub start-most : (s : Sheet) → Rule12 s → (h : Hold) → least_start s h ≤ s.trains * 2 ^ 44
start-most s r h = (start_is s h).least (s.trains * 2 ^ 44) (λ b l. omega (arith, r.free-most b l))

-- a start above 0 binds in some block
start_binds : (s : Sheet) (h : Hold) → 0 < least_start s h → (b : ℕ) × (b < s.blocks) × Binds s h (least_start s h) b
unfolding least_start
start_binds s h p = let (b, l, e) = greatest-attained s.blocks (λ b. free_time s b - begin h b) p in (b, l, omega arith)

pub block_is : (s : Sheet) (h : Hold) → IsBlockNamed s h (least_start s h) (block_named s h (least_start s h))
unfolding block_named
block_is s h =
    record {
      at_zero = λ e. rw e;
      last = λ p.
          let binding : ℕ → Bool = λ b. eqb (least_start s h + begin h b) (free_time s b) in
          let (i, there, binds) = start_binds s h p in
          let (b, f) = last_passes s.blocks binding i there (eq-eqb _ _ binds) in
          let named : block_named s h (least_start s h) ≡ b + 1 = rw (ne_eqb (least_start s h) 0 (λ z. omega arith), add-one) (ap counted_from1 f.found) in
          (b, f.there, named, eqb-true _ _ f.passes, λ c l e. f.last c l (eq-eqb _ _ e));
    }

-- ---- the sheet after

-- the first train's beginnings after an addition
first_set : (s : Sheet) (h : Hold) (start : ℕ) → s.trains ≡ 0 → (sheet_after s h start).first ≡ set_below s.blocks (λ b. begin h b) s.first
unfolding sheet_after
first_set s h start z = rw z

first-kept : (s : Sheet) (h : Hold) (start : ℕ) → 1 ≤ s.trains → (sheet_after s h start).first ≡ s.first
unfolding sheet_after
first-kept s h start m = rw (ne_eqb s.trains 0 (λ z. omega arith))

-- what holds of them set and kept holds of them
first-after : (P : List ℕ → Type 0) (s : Sheet) (h : Hold) (start : ℕ) → P (set_below s.blocks (λ b. begin h b) s.first) → P s.first →
    P (sheet_after s h start).first
first-after P s h start set kept =
    ⊎_elim (λ z. rw (first_set s h start z) set) (λ m. rw (first-kept s h start m) kept) (eq-zero-or-pos s.trains)

pub after_is : (s : Sheet) (h : Hold) (start : ℕ) → IsSheetAfter s h start (sheet_after s h start)
unfolding sheet_after
after_is s h start =
    record {
      blocks = refl;
      trains = refl;
      free-within = set_below-at (λ b. start + end h b) s.free s.blocks;
      first-addition = λ z b l m. rw (first_set s h start z) (set_below-at (λ b. begin h b) s.first s.blocks b l m);
      later-addition = first-kept s h start;
      beyond = λ b l. (
        set_below-beyond (λ b. start + end h b) s.free s.blocks b l,
        first-after (λ first. entry first b ≡ first_begin s b) s h start (set_below-beyond (λ b. begin h b) s.first s.blocks b l) refl,
      );
      free-places = length-set_below (λ b. start + end h b) s.free s.blocks;
      first-places = first-after (λ first. length first ≡ length s.first) s h start (length-set_below (λ b. begin h b) s.first s.blocks) refl;
    }

-- ---- the adding call

pub added-kept : (s : Sheet) (h : Hold) → first_broken (adding_rules s h) ≡ none → added s h ≡ accept s h
unfolding added
added-kept s h e = rw e

pub added-broken : (s : Sheet) (h : Hold) (n : ℕ) → first_broken (adding_rules s h) ≡ some n → added s h ≡ refuse s n
unfolding added
added-broken s h n e = rw e

-- what holds of an acceptance where no rule is broken, and of each refusal where its rule is the first broken, holds of an addition
pub either_way :
    (P : Addition → Type 0) (s : Sheet) (h : Hold) → (first_broken (adding_rules s h) ≡ none → P (accept s h)) →
    ((n : ℕ) → first_broken (adding_rules s h) ≡ some n → P (refuse s n)) → P (added s h)
either_way P s h kept broken = go (first_broken (adding_rules s h)) refl
  where
    go : (o : Option ℕ) → first_broken (adding_rules s h) ≡ o → P (added s h)
    go none e = rw (added-kept s h e) (kept e)
    go (some n) e = rw (added-broken s h n e) (broken n e)

pub added-refused : (s : Sheet) (h : Hold) (n : ℕ) → (added s h).answer ≡ refused n → (added s h).sheet ≡ s
added-refused s h n = either_way (λ a. a.answer ≡ refused n → a.sheet ≡ s) s h (λ e f. cc) (λ m e f. refl)

none-broken : (a b c : Bool) → first_broken (rule 12 a ∷ rule 13 b ∷ rule 14 c ∷ []) ≡ none → (a ≡ true) × (b ≡ true) × (c ≡ true)
unfolding first_broken
none-broken true true true e = (refl, refl, refl)
none-broken true true false e = (refl, refl, cc)
none-broken true false c e = (refl, cc, cc)
none-broken false b c e = (cc, cc, cc)

-- no rule is broken exactly if 12, 13 and 14 are kept
pub all_kept_lem : (s : Sheet) (h : Hold) → (first_broken (adding_rules s h) ≡ none) ↔ (Rule12 s × (room_rule s.trains ≡ true) × Rule14 s.blocks h)
unfolding first_broken
all_kept_lem s h = (
  λ e. let k = none-broken (sheet_rule s) (room_rule s.trains) (hold_rule s.blocks h) e in ((rule_12 s).0 k.0, k.1, (rule_14 s.blocks h).0 k.2),
  λ k. rw ((rule_12 s).1 k.0, k.1, (rule_14 s.blocks h).1 k.2),
)

-- ---- the sheets that calls leave

-- a sheet that keeps rule 12 and has the places for each block
pub record Sound (s : Sheet) : Type 0 where
  pub keeps : Rule12 s
  pub free-places : s.blocks ≤ length s.free
  pub first-places : s.blocks ≤ length s.first

module _ (s : Sheet) (ok : Sound s) (h : Hold) where
  abbrev start : ℕ
  start = least_start s h

  abbrev after : Sheet
  after = sheet_after s h start

  -- the free times that an addition leaves
  pub freed : (b : ℕ) → b < s.blocks → free_time after b ≡ start + end h b
  freed b l = (after_is s h start).free-within b l (omega (arith, ok.free-places))

  -- an addition keeps the sheet sound
  module _ (e : room_rule s.trains ≡ true) (f : Rule14 s.blocks h) where
    first_freed : (b : ℕ) → b < s.blocks → first_begin after b < free_time after b
    first_freed b l =
        ⊎_elim
        (λ z. omega (arith, freed b l, f.ordered b l, (after_is s h start).first-addition z b l (omega (arith, ok.first-places))))
        (λ m.
        omega (
          arith,
          freed b l,
          f.ordered b l,
          ap (λ first. entry first b) ((after_is s h start).later-addition m),
          ok.keeps.first_below m b l,
          (start_is s h).clears b l,
        ))
        (eq-zero-or-pos s.trains)

    rule_12_after : Rule12 after
    unfolding sheet_after
    rule_12_after =
        let ne : s.trains ≡ 64 → ⊥ = (rule_13 s.trains).0 e in
        record {
          blocks-least = ok.keeps.blocks-least;
          blocks-most = ok.keeps.blocks-most;
          trains-most = omega (arith, ok.keeps.trains-most);
          free-most = λ b l. omega (arith, freed b l, f.end-most b l, start-most s ok.keeps h);
          first_below = λ m b l. first_freed b l;
        }

    pub sound_after : Sound after
    unfolding sheet_after
    sound_after =
        record {
          keeps = rule_12_after;
          free-places = rw (after_is s h start).free-places ok.free-places;
          first-places = rw (after_is s h start).first-places ok.first-places;
        }

pub sound_added : (s : Sheet) → Sound s → (h : Hold) → Sound (added s h).sheet
sound_added s ok h =
    either_way (λ a. Sound a.sheet) s h (λ e. let k = (all_kept_lem s h).0 e in sound_after s ok h k.1 k.2) (λ n e. ok)

pub fresh-free : (n b : ℕ) → b < 32 → free_time (fresh n) b ≡ 0
unfolding fresh
fresh-free n b l = get_or-replicate {A = ℕ} 32 b 0 0 l

pub sound_fresh : (n : ℕ) → 1 ≤ n → n ≤ 32 → Sound (fresh n)
unfolding fresh
sound_fresh n low high =
    record {
      keeps =
          record {
            blocks-least = low;
            blocks-most = high;
            trains-most = omega arith;
            free-most = λ b l. omega (arith, fresh-free n b (omega arith));
            first_below = λ m. absurd (omega arith);
          };
      free-places = high;
      first-places = high;
    }
