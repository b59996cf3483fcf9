-- A buffer that a loop fills with a function's values, one store a turn, upwards or downwards. Assumes nothing.
use Prim.Native.Nat.{ℕ, suc, ◌+◌, ◌-◌, ◌≤◌, ◌<◌, min}
use mathlib.Core.Path.{◌≡◌, refl, sym, ◌∙◌, ap}
use mathlib.Core.List.{List, ◌++◌}
use native.Mathlib.Decide.{dec_le, dec_lt}
use native.Mathlib.Omega.{arith}
use lib.ListN.{length, set, drop, length-set, length-append, length-drop, get_or-append, get_or-eq_default}
use lib.Seq.{get_or-set_same, get_or-set_other, get_or-drop, get_or-append-add, ext_get_or}
use Rattle.rules.specs.Count.{entry, row, padded}
use Rattle.rules.proofs.Count.{length-row, entry_row}
use Rattle.rules.proofs.Loops.{row_agree}

-- s is s₀ but for the places from a up to, not including, b, where it has f's values
pub record Filled (f : ℕ → ℕ) (a b : ℕ) (s₀ s : List ℕ) : Type 0 where
  pub long : length s ≡ length s₀
  pub inside : (k : ℕ) → a ≤ k → k < b → entry s k ≡ f k
  pub under : (k : ℕ) → k < a → entry s k ≡ entry s₀ k
  pub over : (k : ℕ) → b ≤ k → entry s k ≡ entry s₀ k

pub fill_none : (f : ℕ → ℕ) (a : ℕ) (s : List ℕ) → Filled f a a s s
fill_none f a s = record { long = refl; inside = λ k h g. absurd (omega arith); under = λ k h. refl; over = λ k h. refl }

-- one place that needs no store
pub fill_one : {f : ℕ → ℕ} {a c : ℕ} {s : List ℕ} → c ≡ suc a → entry s a ≡ f a → Filled f a c s s
fill_one {f} {a} {c} {s} e q =
    record {
      long = refl;
      inside = λ k h g. let z : k ≡ a = omega arith in rw z q;
      under = λ k h. refl;
      over = λ k h. refl;
    }

pub fill_up : {f : ℕ → ℕ} {a b c v : ℕ} {s₀ s : List ℕ} → Filled f a b s₀ s → a ≤ b → c ≡ suc b → b < length s₀ → v ≡ f b → Filled f a c s₀ (set s b v)
fill_up {f} {a} {b} {c} {v} {s₀} {s} r l e h q =
    record {
      long = length-set s b v ∙ r.long;
      inside = λ k m n. at k m n (dec_le b k);
      under = λ k m. get_or-set_other s b k v 0 (omega arith) ∙ r.under k m;
      over = λ k m. get_or-set_other s b k v 0 (omega arith) ∙ r.over k (omega arith);
    }
  where
    at : (k : ℕ) → a ≤ k → k < c → Dec (b ≤ k) → entry (set s b v) k ≡ f k
    at k m n (yes g) =
        let z : k ≡ b = omega arith in
        rw z (get_or-set_same s b v 0 (omega (arith, r.long)) ∙ q)
    at k m n (no g) = get_or-set_other s b k v 0 (omega arith) ∙ r.inside k m (omega arith)

-- two fills, one behind the other
pub fill_join : {f : ℕ → ℕ} {a b c : ℕ} {s₀ s s' : List ℕ} → Filled f a b s₀ s → Filled f b c s s' → a ≤ b → b ≤ c → Filled f a c s₀ s'
fill_join {f} {a} {b} {c} {s₀} {s} {s'} r q l m =
    record {
      long = q.long ∙ r.long;
      inside = λ k h g. at k h g (dec_le b k);
      under = λ k h. q.under k (omega arith) ∙ r.under k h;
      over = λ k h. q.over k h ∙ r.over k (omega arith);
    }
  where
    at : (k : ℕ) → a ≤ k → k < c → Dec (b ≤ k) → entry s' k ≡ f k
    at k h g (yes p) = q.inside k p g
    at k h g (no p) = q.under k (omega arith) ∙ r.inside k h (omega arith)

pub fill_down : {f : ℕ → ℕ} {a b c v : ℕ} {s₀ s : List ℕ} → Filled f c b s₀ s → a < b → c ≡ suc a → a < length s₀ → v ≡ f a → Filled f a b s₀ (set s a v)
fill_down {f} {a} {b} {c} {v} {s₀} {s} r l e h q =
    record {
      long = length-set s a v ∙ r.long;
      inside = λ k m n. at k m n (dec_le k a);
      under = λ k m. get_or-set_other s a k v 0 (omega arith) ∙ r.under k (omega arith);
      over = λ k m. get_or-set_other s a k v 0 (omega arith) ∙ r.over k m;
    }
  where
    at : (k : ℕ) → a ≤ k → k < b → Dec (k ≤ a) → entry (set s a v) k ≡ f k
    at k m n (yes g) =
        let z : k ≡ a = omega arith in
        rw z (get_or-set_same s a v 0 (omega (arith, r.long)) ∙ q)
    at k m n (no g) = get_or-set_other s a k v 0 (omega arith) ∙ r.inside k (omega arith) n

module _ (f : ℕ → ℕ) (n : ℕ) (r : List ℕ) where
  entry_in : (k : ℕ) → k < n → entry (row f n ++ r) k ≡ f k
  entry_in k h = get_or-append (row f n) r 0 k (rw length-row h) ∙ entry_row f n k h

  entry_past : (k : ℕ) → entry (row f n ++ r) (n + k) ≡ entry r k
  entry_past k = let g : entry (row f n ++ r) (length (row f n) + k) ≡ entry r k = get_or-append-add (row f n) r k 0 in rw length-row at g

-- the whole buffer, as one equation
pub fill_done : {f : ℕ → ℕ} {n : ℕ} {s₀ s : List ℕ} → Filled f 0 n s₀ s → n ≤ length s₀ → s ≡ row f n ++ drop n s₀
fill_done {f} {n} {s₀} {s} r h =
    ext_get_or 0 s (row f n ++ drop n s₀) (r.long ∙ simp (length-append, length-row, length-drop) (omega arith)) (λ k g. at k (dec_le n k))
  where
    at : (k : ℕ) → Dec (n ≤ k) → entry s k ≡ entry (row f n ++ drop n s₀) k
    at k (yes m) =
        let z : k ≡ n + (k - n) = omega arith in
        r.over k m ∙ ap (entry s₀) z ∙ sym (get_or-drop n s₀ (k - n) 0) ∙ sym (entry_past f n (drop n s₀) (k - n)) ∙ ap (entry (row f n ++ drop n s₀)) (sym z)
    at k (no m) = r.inside k (omega arith) (omega arith) ∙ sym (entry_in f n (drop n s₀) k (omega arith))

-- ---- a list in n places

module _ (f : ℕ → ℕ) where
  pub padded-within : {n m k : ℕ} → k < n → k < m → entry (padded m (row f n)) k ≡ f k
  padded-within {n} {m} {k} h l = entry_row (entry (row f n)) m k l ∙ entry_row f n k h

  pub padded-beyond : {n : ℕ} (m k : ℕ) → n ≤ k → entry (padded m (row f n)) k ≡ 0
  padded-beyond {n} m k h = go (dec_lt k m)
    where
      go : Dec (k < m) → entry (padded m (row f n)) k ≡ 0
      go (yes l) = entry_row (entry (row f n)) m k l ∙ get_or-eq_default (row f n) 0 (rw length-row h)
      go (no l) = get_or-eq_default (padded m (row f n)) 0 (rw length-row (omega arith))

  -- the entries in use
  pub row-padded : {n m : ℕ} → n ≤ m → row (entry (padded m (row f n))) n ≡ row f n
  row-padded {n} {m} h = row_agree _ _ n (λ k l. padded-within l (omega arith))

-- zeros of which as many places are filled as there are values and room
pub fill_padded :
    (n m : ℕ) {f : ℕ → ℕ} {i : ℕ} {s₀ s : List ℕ} → Filled f 0 i s₀ s → i ≡ min n m → length s₀ ≡ m → ((k : ℕ) → k < m → entry s₀ k ≡ 0) →
    s ≡ padded m (row f n)
fill_padded n m {f} {i} {s₀} {s} r e long zeros =
    ext_get_or 0 s (padded m (row f n)) (r.long ∙ long ∙ sym (length-row _ m)) (λ k g. at k (omega (arith, r.long)) (dec_lt k i))
  where
    at : (k : ℕ) → k < m → Dec (k < i) → entry s k ≡ entry (padded m (row f n)) k
    at k g (yes l) = r.inside k (omega arith) l ∙ sym (padded-within f (omega arith) g)
    at k g (no l) = r.over k (omega arith) ∙ zeros k g ∙ sym (padded-beyond f m k (omega arith))
