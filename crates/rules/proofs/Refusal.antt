-- The number of refusal of a list of rules: the first broken rule's in checking order. Assumes nothing.
use Prim.Native.Nat.{ℕ, zero, suc, ◌≤◌, ◌<◌}
use mathlib.Core.Bool.{Bool, true, false, cond, false≢true}
use mathlib.Core.List.{List, [], ◌∷◌, ◌++◌}
use mathlib.Core.Option.{some}
use mathlib.Core.Path.{◌≡◌, refl, sym, ◌∙◌}
use native.Mathlib.Omega.{arith}
use lib.Dec.{eqb}
use borrow.Author.Tests.{eqb-true, eqb-false, eq-eqb, ne_eqb}
use Rattle.rules.specs.Count.{or_zero}
use Rattle.rules.specs.Refusal.{Rule, rule, first_broken, refusal}
use Rattle.rules.specs.Meaning.{IsFirstBroken}

-- ---- any list of rules

-- the number of a list of rules, one rule after the other
pub refusal-none : refusal [] ≡ 0
unfolding refusal first_broken
refusal-none = refl

pub refusal_cons : (n : ℕ) (b : Bool) (rs : List Rule) → refusal (rule n b ∷ rs) ≡ cond b (refusal rs) n
unfolding refusal first_broken
refusal_cons n true rs = refl
refusal_cons n false rs = refl

-- ---- rules with numbers above 0

abbrev pub Positive : List Rule → Type 0
Positive [] = Unit {0}
Positive (r ∷ rs) = (0 < r.number) × Positive rs

-- ---- the first broken rule in checking order

module _ (r : Rule) (rs : List Rule) where
  -- one rule more in front, kept or broken
  kept-first : r.kept ≡ true → {n : ℕ} → IsFirstBroken rs n → IsFirstBroken (r ∷ rs) n
  kept-first e f =
      record {
        none-broken = λ z. elim [ zero ↦ λ l. e | suc i ↦ λ l. f.none-broken z i (omega arith) ];
        all_kept_lem = λ h. f.all_kept_lem (λ i l. h (suc i) (omega arith));
        first =
            elim [
              | zero ↦ λ b. absurd (false≢true (sym b.broken ∙ e))
              | suc i ↦ λ b. f.first i
                  (record { there = omega (arith, b.there); broken = b.broken; kept-before = λ j l. b.kept-before (suc j) (omega arith) })
            ];
      }

  broken-first : 0 < r.number → r.kept ≡ false → IsFirstBroken (r ∷ rs) r.number
  broken-first p e =
      record {
        none-broken = λ z. absurd (omega arith);
        all_kept_lem = λ h. absurd (false≢true (sym e ∙ h 0 (omega arith)));
        first = elim [ zero ↦ λ b. refl | suc i ↦ λ b. absurd (false≢true (sym e ∙ b.kept-before 0 (omega arith))) ];
      }

pub first-broken : (rules : List Rule) → Positive rules → IsFirstBroken rules (refusal rules)
first-broken [] s =
    rw refusal-none (record { none-broken = λ z i l. absurd (omega arith); all_kept_lem = λ h. refl; first = λ i b. absurd (omega (arith, b.there)) })
first-broken (r ∷ rs) s = rw (refusal_cons r.number r.kept rs) (go r.kept refl (first-broken rs s.1))
  where
    go : (b : Bool) → r.kept ≡ b → IsFirstBroken rs (refusal rs) → IsFirstBroken (r ∷ rs) (cond b (refusal rs) r.number)
    go true e f = kept-first r rs e f
    go false e f = broken-first r rs s.0 e

-- ---- rules in front of others

module _ (n : ℕ) (b : Bool) (rs : List Rule) where
  -- the first of some rules, broken or kept
  pub head_broken : b ≡ false → refusal (rule n b ∷ rs) ≡ n
  head_broken e = refusal_cons n b rs ∙ rw e

  pub head_kept : b ≡ true → refusal (rule n b ∷ rs) ≡ refusal rs
  head_kept e = refusal_cons n b rs ∙ rw e

  -- a number that is not its own
  pub head_passed : {m : ℕ} → (n ≡ m → ⊥) → refusal (rule n b ∷ rs) ≡ m → (b ≡ true) × (refusal rs ≡ m)
  head_passed {m} other z = go b (sym (refusal_cons n b rs) ∙ z)
    where
      go : (c : Bool) → cond c (refusal rs) n ≡ m → (c ≡ true) × (refusal rs ≡ m)
      go true e = (refl, e)
      go false e = absurd (other e)

  pub head_accepted : 0 < n → refusal (rule n b ∷ rs) ≡ 0 → (b ≡ true) × (refusal rs ≡ 0)
  head_accepted p z = head_passed (λ e. omega arith) z

  -- the number that the code holds: n where the test that it holds fails, else what the later rules give
  pub kept_of_lem : {r later : ℕ} {kept : Bool} → r ≡ cond kept later n → kept ≡ b → later ≡ refusal rs → r ≡ refusal (rule n b ∷ rs)
  kept_of_lem e f g = e ∙ rw (f, g) (sym (refusal_cons n b rs))

append_is : (rs qs : List Rule) → Positive rs → refusal (rs ++ qs) ≡ cond (eqb (refusal rs) 0) (refusal qs) (refusal rs)
unfolding refusal first_broken
append_is [] qs s = refl
append_is (r ∷ rs) qs s = go r.kept (append_is rs qs s.1)
  where
    go :
        (c : Bool) →
        or_zero (first_broken (rs ++ qs)) ≡ cond (eqb (or_zero (first_broken rs)) 0) (or_zero (first_broken qs)) (or_zero (first_broken rs)) →
        or_zero (cond c (first_broken (rs ++ qs)) (some r.number)) ≡
        cond (eqb (or_zero (cond c (first_broken rs) (some r.number))) 0) (or_zero (first_broken qs)) (or_zero (cond c (first_broken rs) (some r.number)))
    go true h = h
    go false h = rw (ne_eqb r.number 0 (λ z. omega (arith, s.0)))

module _ (rs qs : List Rule) (s : Positive rs) where
  -- the rules in front come first
  pub append-refused : (refusal rs ≡ 0 → ⊥) → refusal (rs ++ qs) ≡ refusal rs
  append-refused h = rw (append_is rs qs s, ne_eqb (refusal rs) 0 h)

  pub append-kept : refusal rs ≡ 0 → refusal (rs ++ qs) ≡ refusal qs
  append-kept z = rw (append_is rs qs s, eq-eqb (refusal rs) 0 z)

  pub append-accepted : refusal (rs ++ qs) ≡ 0 → (refusal rs ≡ 0) × (refusal qs ≡ 0)
  append-accepted z = go (eqb (refusal rs) 0) refl (sym (append_is rs qs s) ∙ z)
    where
      go : (e : Bool) → eqb (refusal rs) 0 ≡ e → cond e (refusal qs) (refusal rs) ≡ 0 → (refusal rs ≡ 0) × (refusal qs ≡ 0)
      go true q h = (eqb-true (refusal rs) 0 q, h)
      go false q h = absurd (eqb-false (refusal rs) 0 q h)

-- numbers up to m
abbrev pub AtMost : ℕ → List Rule → Type 0
AtMost m [] = Unit {0}
AtMost m (r ∷ rs) = (r.number ≤ m) × AtMost m rs

pub refusal-most : (m : ℕ) (rules : List Rule) → AtMost m rules → refusal rules ≤ m
refusal-most m [] h = omega (arith, refusal-none)
refusal-most m (r ∷ rs) h = rw (refusal_cons r.number r.kept rs) (go r.kept (refusal-most m rs h.1))
  where
    go : (b : Bool) → refusal rs ≤ m → cond b (refusal rs) r.number ≤ m
    go true g = g
    go false g = h.0
