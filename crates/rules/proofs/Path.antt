-- Placed rows, a place in their order, and the path call. Assumes nothing.
use Prim.Native.Nat.{ℕ, zero, suc, ◌+◌, ◌-◌, ◌*◌, ◌≤◌, ◌<◌}
use mathlib.Core.Bool.{true, false, cond, false≢true}
use mathlib.Core.List.{List, [], ◌∷◌, ◌++◌}
use mathlib.Core.Logic.{◌↔◌, ◌⊎◌, inl, inr}
use mathlib.Core.Option.{some}
use mathlib.Core.Path.{◌≡◌, refl, sym, ap, ap₂, ◌∙◌}
use native.Mathlib.Decide.{dec_lt}
use native.Mathlib.Nat.{le_refl, suc-mul, zero-mul}
use native.Mathlib.Omega.{arith}
use lib.Dec.{eqb}
use lib.ListN.{length, get_or, take, drop, length-append, length-drop, get_or-append}
use lib.Seq.{length-take-le, get_or-take, get_or-drop, get_or_at, get_or-append-add, drop-drop}
use borrow.Author.Tests.{leb-true, le-leb, eqb-true, eq-eqb, ne_eqb}
use Rattle.rules.specs.Count.{◌and◌, entry, or_zero, is_there}
use Rattle.rules.specs.Hold.{Hold, empty_hold}
use Rattle.rules.specs.Sheet.{begin, end}
use Rattle.rules.specs.Refusal.{Rule, rule, refusal}
use Rattle.rules.specs.Admitted.{Rule14}
use Rattle.rules.specs.Numbers.{AnswersBy}
use Rattle.rules.specs.Demand.{WithoutOverlap}
use Rattle.rules.specs.Path.{PlacedRows, row_holds, placed_holds, begun_at, ended_at, in_order, placed_behind, place_of, least_in_window, put_in}
use Rattle.rules.specs.Path.{rows_rule, window_rule, placing_rules, path_start, path_rules, PathAnswer, path_of, path_at, no_path, path_answer}
use Rattle.rules.specs.Path.{Rule16Rows, Rule16Window, IsPlace, SomePath, path_checks, LeastPath, Placeable, RightPath}
use Rattle.rules.proofs.Count.{and_left, and_right, and_both, every-at, every_all, within_means, within_holds}
use Rattle.rules.proofs.Count.{first_known, first-there}
use Rattle.rules.proofs.Refusal.{refusal-none, head_kept, head_passed, head_accepted}
use Rattle.rules.proofs.Sheet.{rule_14}
use Rattle.rules.proofs.Numbers.{judges_none, judges_first, answers_by, both_kept}

-- ---- placed rows

-- a record for each row
pub holds_count : (n rows : ℕ) (begins ends : List ℕ) → length (row_holds n rows begins ends) ≡ rows
unfolding row_holds
holds_count n zero begins ends = refl
holds_count n (suc rows) begins ends = ap suc (holds_count n rows (drop n begins) (drop n ends))

-- row i has the n entries from i times n on
pub hold_at :
    (n rows i at : ℕ) (begins ends : List ℕ) → at ≡ i * n → i < rows →
    get_or (row_holds n rows begins ends) i empty_hold ≡ record { blocks = n; begins = take n (drop at begins); ends = take n (drop at ends) }
unfolding row_holds
hold_at n zero i at begins ends e l = absurd (omega arith)
hold_at n (suc rows) zero at begins ends e l = rw (e ∙ zero-mul n)
hold_at n (suc rows) (suc i) at begins ends e l =
    let next : n + i * n ≡ at = omega (arith, e, suc-mul i n) in
    hold_at n rows i (i * n) (drop n begins) (drop n ends) refl (omega arith)
    ∙ rw (drop-drop (i * n) n begins, drop-drop (i * n) n ends, next)

pub in_order_lem : (n : ℕ) (hs : List Hold) (ts : List ℕ) → (in_order n hs ts ≡ true) ↔ WithoutOverlap n hs ts
unfolding in_order
in_order_lem n hs ts = (
  λ e i j b l m c. leb-true _ _ (every-at _ n (every-at _ j (every-at _ (length hs) e j m) i l) b c),
  λ w. every_all _ (length hs) (λ j m. every_all _ j (λ i l. every_all _ n (λ b c. le-leb _ _ (w i j b l m c)))),
)

pub rule_16_rows : (n : ℕ) (p : PlacedRows) → (rows_rule n p ≡ true) ↔ Rule16Rows n p
unfolding rows_rule
rule_16_rows n p = (
  λ e.
      let e₂ = and_right _ _ e in
      let e₃ = and_right _ _ e₂ in
      let e₄ = and_right _ _ e₃ in
      let e₅ = and_right _ _ e₄ in
      record {
        begins-rows = eqb-true _ _ (and_left _ _ e);
        ends-rows = eqb-true _ _ (and_left _ _ e₂);
        rows-most = leb-true _ 64 (and_left _ _ e₃);
        start-most = λ k l. leb-true _ _ (every-at _ (length p.starts) (and_left _ _ e₄) k l);
        rows-kept = λ k l. (rule_14 n _).0 (every-at _ (length p.starts) (and_left _ _ e₅) k l);
        apart = (in_order_lem n (placed_holds n p) p.starts).0 (and_right _ _ e₅);
      },
  λ r.
      and_both (eq-eqb _ _ r.begins-rows)
      (and_both (eq-eqb _ _ r.ends-rows)
      (and_both (le-leb _ 64 r.rows-most)
      (and_both (every_all _ (length p.starts) (λ k l. le-leb _ _ (r.start-most k l)))
      (and_both (every_all _ (length p.starts) (λ k l. (rule_14 n _).1 (r.rows-kept k l))) ((in_order_lem n (placed_holds n p) p.starts).1 r.apart))))),
)

pub rule_16_window : (low high : ℕ) → (window_rule low high ≡ true) ↔ Rule16Window low high
unfolding window_rule
rule_16_window low high = (
  λ e.
      record {
        low_most = leb-true low _ (and_left _ _ e);
        high_most = leb-true high _ (and_left _ _ (and_right _ _ e));
        not_before = leb-true low high (and_right _ _ (and_right _ _ e));
      },
  λ r. and_both (le-leb low _ r.low_most) (and_both (le-leb high _ r.high_most) (le-leb low high r.not_before)),
)

-- ---- a place

module _ (h : Hold) (hs : List Hold) (ts : List ℕ) where
  place_means : (start k : ℕ) → k ≤ length hs → (placed_behind h hs ts start k ≡ true) ↔ IsPlace h hs ts start k
  unfolding placed_behind
  place_means start k within = (
    λ e.
        record {
          there = within;
          after = λ i b l m. leb-true _ _ (every-at _ h.blocks (every-at _ k (and_left _ _ e) i l) b m);
          before = λ i b l j m.
              let at : k + (i - k) ≡ i = omega arith in
              let clear : start + end h b ≤ begun_at hs ts (k + (i - k)) b =
              leb-true _ _ (every-at _ h.blocks (every-at _ (length hs - k) (and_right _ _ e) (i - k) (omega arith)) b m) in
              rw at at clear;
        },
    λ r.
        and_both (every_all _ k (λ i l. every_all _ h.blocks (λ b m. le-leb _ _ (r.after i b l m))))
        (every_all _ (length hs - k) (λ i l. every_all _ h.blocks (λ b m. le-leb _ _ (r.before (k + i) b (omega arith) (omega arith) m)))),
  )

  has_place : (start : ℕ) → (is_there (place_of h hs ts start) ≡ true) ↔ ((k : ℕ) × IsPlace h hs ts start k)
  unfolding place_of
  has_place start = (
    λ e. let (k, l, t) = (first-there (suc (length hs)) (placed_behind h hs ts start)).0 e in (k, (place_means start k (omega arith)).0 t),
    λ f.
        (first-there (suc (length hs)) (placed_behind h hs ts start)).1
        (f.0, omega (arith, f.1.there), (place_means start f.0 f.1.there).1 f.1),
  )

  pub some_path : (low high : ℕ) → (is_there (least_in_window h hs ts low high) ≡ true) ↔ SomePath h hs ts low high
  unfolding least_in_window
  some_path low high = (
    λ e.
        let (start, l, t) = (first-there (suc high) _).0 e in
        let (k, placed) = (has_place start).0 (and_right _ _ t) in
        record { start = start; place = k; from_low = leb-true low start (and_left _ _ t); to_high = omega arith; placed = placed },
    λ s.
        (first-there (suc high) _).1
        (s.start, omega (arith, s.to_high), and_both (le-leb low s.start s.from_low) ((has_place s.start).1 (s.place, s.placed))),
  )

  -- No start has two places, since no hold is empty.
  module _ (some_block : 1 ≤ h.blocks) (own : Rule14 h.blocks h) (kept : (k : ℕ) → k < length hs → Rule14 h.blocks (get_or hs k empty_hold)) where
    not_both : (start k other : ℕ) → IsPlace h hs ts start k → IsPlace h hs ts start other → k < other → ⊥
    not_both start k other one two l =
        let within : k < length hs = omega (arith, two.there) in
        omega
        (arith, one.before k 0 (le_refl k) within some_block, two.after k 0 l some_block, own.ordered 0 some_block, (kept k within).ordered 0 some_block)

    pub one_place : (start k other : ℕ) → IsPlace h hs ts start k → IsPlace h hs ts start other → other ≡ k
    one_place start k other one two =
        let low = not_both start k other one two in
        let high = not_both start other k two one in
        go (dec_lt k other) (dec_lt other k) low high
      where
        go : Dec (k < other) → Dec (other < k) → (k < other → ⊥) → (other < k → ⊥) → other ≡ k
        go (yes l) d f g = absurd (f l)
        go (no l) (yes m) f g = absurd (g m)
        go (no l) (no m) f g = omega arith

-- ---- one more put in

module _ {A : Type 0} (x d : A) (list : List A) (k : ℕ) (within : k ≤ length list) where
  put_before : (i : ℕ) → i < k → get_or (put_in k x list) i d ≡ get_or list i d
  unfolding put_in
  put_before i l = get_or-append (take k list) _ d i (omega (arith, length-take-le k list within)) ∙ get_or-take k list i d l

  put_here : get_or (put_in k x list) k d ≡ x
  unfolding put_in
  put_here = get_or_at (take k list) x (drop k list) d k (length-take-le k list within)

  put_behind : (i : ℕ) → k ≤ i → get_or (put_in k x list) (suc i) d ≡ get_or list i d
  unfolding put_in
  put_behind i l =
      let at : length (take k list) + suc (i - k) ≡ suc i = omega (arith, length-take-le k list within) in
      let back : k + (i - k) ≡ i = omega arith in
      ap (λ (j : ℕ). get_or (take k list ++ (x ∷ drop k list)) j d) (sym at)
      ∙ get_or-append-add (take k list) (x ∷ drop k list) (suc (i - k)) d
      ∙ get_or-drop k list (i - k) d
      ∙ ap (λ (j : ℕ). get_or list j d) back

  put_length : length (put_in k x list) ≡ suc (length list)
  unfolding put_in
  put_length = length-append (take k list) (x ∷ drop k list) ∙ omega (arith, length-take-le k list within, length-drop k list)

-- the trains with the new one in its place
module _ (h : Hold) (hs : List Hold) (ts : List ℕ) (same : length hs ≡ length ts) (start k : ℕ) (placed : IsPlace h hs ts start k) where
  abbrev hs' : List Hold
  hs' = put_in k h hs

  abbrev ts' : List ℕ
  ts' = put_in k start ts

  -- a time of a hold, its beginning or its end in a block, on the clock of the starts
  module _ (time : Hold → ℕ) where
    clock_before : (i : ℕ) → i < k → entry ts' i + time (get_or hs' i empty_hold) ≡ entry ts i + time (get_or hs i empty_hold)
    clock_before i l =
        ap₂ (λ t x. t + time x) (put_before start 0 ts k (omega (arith, placed.there)) i l) (put_before h empty_hold hs k placed.there i l)

    clock_here : entry ts' k + time (get_or hs' k empty_hold) ≡ start + time h
    clock_here = ap₂ (λ t x. t + time x) (put_here start 0 ts k (omega (arith, placed.there))) (put_here h empty_hold hs k placed.there)

    clock_behind : (i : ℕ) → k ≤ i → entry ts' (suc i) + time (get_or hs' (suc i) empty_hold) ≡ entry ts i + time (get_or hs i empty_hold)
    clock_behind i l =
        ap₂ (λ t x. t + time x) (put_behind start 0 ts k (omega (arith, placed.there)) i l) (put_behind h empty_hold hs k placed.there i l)

  -- before the place, at it, or behind it
  abbrev Stands : ℕ → Type 0
  Stands j = (j < k) ⊎ ((j ≡ k) ⊎ ((i : ℕ) × (j ≡ suc i) × (k ≤ i)))

  stands : (j : ℕ) → Stands j
  stands j = go j (dec_lt j k) (dec_lt k j)
    where
      go : (j : ℕ) → Dec (j < k) → Dec (k < j) → Stands j
      go j (yes l) d = inl l
      go j (no l) (no m) = inr (inl (omega arith))
      go zero (no l) (yes m) = absurd (omega arith)
      go (suc i) (no l) (yes m) = inr (inr (i, refl, omega arith))

  pub put_apart : WithoutOverlap h.blocks hs ts → WithoutOverlap h.blocks hs' ts'
  put_apart apart i j b l m c =
      let count : length hs' ≡ suc (length hs) = put_length h empty_hold hs k placed.there in
      go (stands i) (stands j) (omega (arith, m, count))
    where
      ended : Hold → ℕ
      ended x = end x b

      begun : Hold → ℕ
      begun x = begin x b

      go : Stands i → Stands j → j < suc (length hs) → ended_at hs' ts' i b ≤ begun_at hs' ts' j b
      go (inl p) (inl q) m = omega (arith, clock_before ended i p, clock_before begun j q, apart i j b l (omega (arith, placed.there)) c)
      go (inl p) (inr (inl e)) m = rw e (omega (arith, clock_before ended i p, clock_here begun, placed.after i b p c))
      go (inl p) (inr (inr (j', e, q))) m = rw e (omega (arith, clock_before ended i p, clock_behind begun j' q, apart i j' b (omega arith) (omega arith) c))
      go (inr (inl e)) (inl q) m = absurd (omega arith)
      go (inr (inl e)) (inr (inl f)) m = absurd (omega arith)
      go (inr (inl e)) (inr (inr (j', f, q))) m = rw (e, f) (omega (arith, clock_here ended, clock_behind begun j' q, placed.before j' b q (omega arith) c))
      go (inr (inr (i', e, p))) (inl q) m = absurd (omega arith)
      go (inr (inr (i', e, p))) (inr (inl f)) m = absurd (omega arith)
      go (inr (inr (i', e, p))) (inr (inr (j', f, q))) m =
          rw (e, f) (omega (arith, clock_behind ended i' p, clock_behind begun j' q, apart i' j' b (omega arith) (omega arith) c))

-- ---- the path call

module _ (h : Hold) (p : PlacedRows) (low high : ℕ) where
  abbrev hs : List Hold
  hs = placed_holds h.blocks p

  abbrev ts : List ℕ
  ts = p.starts

  -- a refusal by the first broken rule's number, an acceptance where all are kept
  pub path-number : AnswersBy (path_checks h p low high) no_path (path_at h p (or_zero (path_start h p low high))) (path_answer h p low high)
  unfolding refusal path_answer
  path-number =
      answers_by (λ o. cond {A = PathAnswer} (eqb (or_zero o) 0) (path_at h p (or_zero (path_start h p low high))) (no_path (or_zero o)))
      (judges_first (λ e. within_means 1 32 h.blocks e, λ k. within_holds 1 32 h.blocks k.0 k.1)
      (judges_first (rule_14 h.blocks h)
      (judges_first (both_kept (rule_16_rows h.blocks p) (rule_16_window low high))
      (judges_first (some_path h hs ts low high) judges_none))))

  told : (path_answer h p low high).number ≡ refusal (path_rules h p low high)
  unfolding path_answer
  told = go (refusal (path_rules h p low high)) (path_at h p (or_zero (path_start h p low high))) refl
    where
      go : (r : ℕ) (a : PathAnswer) → a.number ≡ 0 → (cond (eqb r 0) a (no_path r)).number ≡ r
      go zero a e = e
      go (suc r) a e = rw (ne_eqb (suc r) 0 (λ z. omega arith))

  -- a number that is none of 12, 14 and 16 is that of the rules behind them
  past_16 :
      (rest : List Rule) {m : ℕ} → (12 ≡ m → ⊥) → (14 ≡ m → ⊥) → (16 ≡ m → ⊥) → refusal (placing_rules h p low high ++ rest) ≡ m →
      Placeable h p low high × (refusal rest ≡ m)
  past_16 rest f g e z =
      let (a, y) = head_passed 12 _ _ f z in
      let (b, x) = head_passed 14 _ _ g y in
      let (c, w) = head_passed 16 _ rest e x in (
        record {
          blocks-least = (within_means 1 32 h.blocks a).0;
          blocks-most = (within_means 1 32 h.blocks a).1;
          new_hold = (rule_14 h.blocks h).0 b;
          rows = (rule_16_rows h.blocks p).0 (and_left _ _ c);
          window = (rule_16_window low high).0 (and_right _ _ c);
        },
        w,
      )

  pub placeable : refusal (placing_rules h p low high) ≡ 0 → Placeable h p low high
  placeable z = (past_16 [] (λ e. omega arith) (λ e. omega arith) (λ e. omega arith) z).0

  -- where a start will do: the least, its place, and the answer
  module _ (k : Placeable h p low high) (s : SomePath h hs ts low high) where
    least-path : (start place : ℕ) × (path_start h p low high ≡ some start) × (place_of h hs ts start ≡ some place) × LeastPath h hs ts low high start place
    unfolding least_in_window place_of
    least-path =
        let (start, e, f) = first_known (suc high) _ ((some_path h hs ts low high).1 s) in
        let (place, g, t) = first_known (suc (length hs)) (placed_behind h hs ts start) (and_right _ _ f.passes) in
        let placed : IsPlace h hs ts start place = (place_means h hs ts start place (omega (arith, t.there))).0 t.passes in
        let count : length hs ≡ length ts = holds_count h.blocks (length ts) p.begins p.ends in (
          start,
          place,
          e,
          g,
          record {
            from_low = leb-true low start (and_left _ _ f.passes);
            to_high = omega (arith, f.there);
            placed = placed;
            only_place = λ other q. one_place h hs ts k.blocks-least k.new_hold (λ i l. k.rows.rows-kept i (omega arith)) start place other placed q;
            least = λ earlier other l m q.
                false≢true (sym (f.none_before earlier m) ∙ and_both (le-leb low earlier l) ((has_place h hs ts earlier).1 (other, q)));
            apart = put_apart h hs ts count start place placed k.rows.apart;
          },
        )

    accepted : path_answer h p low high ≡ path_at h p (or_zero (path_start h p low high))
    accepted = (((path-number.1 (k.blocks-least, k.blocks-most)).1 k.new_hold).1 (k.rows, k.window)).1 s

    least-answer : LeastPath h hs ts low high (path_answer h p low high).start (path_answer h p low high).before
    least-answer =
        let (start, place, e, f, path) = least-path in
        let is : path_answer h p low high ≡ path_of start place = accepted ∙ ap (λ o. path_at h p (or_zero o)) e ∙ ap (λ o. path_of start (or_zero o)) f in
        rw is path

  -- 17 is the only rule left, and is kept exactly where some start will do
  abbrev last : List Rule
  last = rule 17 (is_there (path_start h p low high)) ∷ []

  accepted_means : (path_answer h p low high).number ≡ 0 → Placeable h p low high × SomePath h hs ts low high
  accepted_means e =
      let (k, z) = past_16 last (λ e. omega arith) (λ e. omega arith) (λ e. omega arith) (sym told ∙ e) in
      (k, (some_path h hs ts low high).0 (head_accepted 17 _ _ (omega arith) z).0)

  refused_means : (path_answer h p low high).number ≡ 17 → Placeable h p low high × (SomePath h hs ts low high → ⊥)
  refused_means e =
      let (k, z) = past_16 last (λ e. omega arith) (λ e. omega arith) (λ e. omega arith) (sym told ∙ e) in
      (k, λ s. omega (arith, z, head_kept 17 _ [] ((some_path h hs ts low high).1 s), refusal-none))

  right_path : RightPath h p low high (path_answer h p low high)
  right_path =
      record {
        accepted = (accepted_means, λ y. ap (λ a. a.number) (accepted y.0 y.1));
        refused_17 = (
          refused_means,
          λ y.
              let k = y.0 in
              ap (λ a. a.number) ((((path-number.1 (k.blocks-least, k.blocks-most)).1 k.new_hold).1 (k.rows, k.window)).0 y.1),
        );
        path = λ e. let y = accepted_means e in least-answer y.0 y.1;
      }

  -- the claim for an answer that is known by its equation
  pub path_told : {a : PathAnswer} → a ≡ path_answer h p low high → (a ≡ path_answer h p low high) × RightPath h p low high a
  path_told e = (e, rw e right_path)
