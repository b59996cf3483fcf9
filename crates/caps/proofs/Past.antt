-- How many places have been reached, one place after the other. Assumes nothing.
use Prim.Native.Nat.{ℕ, zero, suc, ◌+◌, ◌-◌, ◌≤◌, ◌<◌, max}
use mathlib.Core.Bool.{Bool, true, false, cond}
use mathlib.Core.List.{List}
use mathlib.Core.Path.{◌≡◌, refl, sym, ◌∙◌}
use native.Mathlib.Nat.{add-zero}
use native.Mathlib.Omega.{arith}
use lib.Dec.{leb}
use lib.ListN.{length, take}
use lib.Seq.{length-take-le, get_or-take}
use borrow.Author.Tests.{leb-true, leb-false, le-leb, lt-leb}
use Rattle.rules.specs.Count.{entry}
use Rattle.rules.proofs.Count.{below_suc}
use Rattle.caps.specs.Caps.{past_from, past}

-- so many places from k on are reached, and the next is not
past_is :
    (places : List ℕ) (reach left k more : ℕ) → more ≤ left → ((j : ℕ) → j < more → entry places (k + j) ≤ reach) →
    (more < left → reach < entry places (k + more)) → k + more ≡ past_from places reach left k
unfolding past_from
past_is places reach zero k more m before here = omega arith
past_is places reach (suc left) k zero m before here =
    let next : reach < entry places k = rw add-zero at (here (omega arith)) in
    rw (lt-leb (entry places k) reach next) (omega arith)
past_is places reach (suc left) k (suc more) m before here =
    let reached : entry places k ≤ reach = rw add-zero at (before 0 (omega arith)) in
    let on : suc k + more ≡ past_from places reach left (suc k) =
    past_is places reach left (suc k) more (omega arith) (λ j h. let e : k + suc j ≡ suc k + j = omega arith in rw e at (before (suc j) (omega arith)))
    (λ h. let e : k + suc more ≡ suc k + more = omega arith in rw e at (here (omega arith))) in
    rw (le-leb (entry places k) reach reached) (omega arith)

-- among the entries in use
module _ (at : List ℕ) {n : ℕ} (k reach : ℕ) {places : List ℕ} (h : n ≤ length at) (e : places ≡ take n at) where
  long : length places ≡ n
  long = rw e (length-take-le n at h)

  same : {j : ℕ} → j < n → entry places j ≡ entry at j
  same {j} l = rw e (get_or-take n at j 0 l)

  -- the first that is not reached is found
  pub past_found :
      {i : ℕ} → k ≤ i → i < length places → ((j : ℕ) → k ≤ j → j < i → entry places j ≤ reach) → reach < entry places i → i ≡ past at n k reach
  past_found {i} m l before here =
      let q : k + (i - k) ≡ i = omega arith in
      sym q
      ∙ past_is at reach (n - k) k (i - k) (omega (arith, long))
      (λ j g. omega (arith, before (k + j) (omega arith) (omega arith), same {j = k + j} (omega (arith, long))))
      (λ g. rw q (omega (arith, here, same {j = i} (omega (arith, long)))))

  -- all are reached
  pub past_none : {i : ℕ} → i ≡ max k (length places) → ((j : ℕ) → k ≤ j → j < length places → entry places j ≤ reach) → i ≡ past at n k reach
  past_none {i} r all =
      let q : k + (n - k) ≡ i = omega (arith, long) in
      sym q
      ∙ past_is at reach (n - k) k (n - k) (omega arith)
      (λ j g. omega (arith, all (k + j) (omega arith) (omega (arith, long)), same {j = k + j} (omega arith)))
      (λ g. absurd (omega arith))

-- of n places, the first k are reached
pub record AtMost (place : ℕ → ℕ) (n reach k : ℕ) : Type 0 where
  pub most : k ≤ n
  pub behind : (j : ℕ) → j < k → place j ≤ reach

-- and no more
pub record Reached (place : ℕ → ℕ) (n reach k : ℕ) : Type 0 where
  pub most : k ≤ n
  pub behind : (j : ℕ) → j < k → place j ≤ reach
  pub ahead : k < n → reach < place k

-- where the array has these places
pub past_reached :
    {place : ℕ → ℕ} (places : List ℕ) {count n : ℕ} (reach k : ℕ) → count ≡ n → ((j : ℕ) → j < n → entry places j ≡ place j) → AtMost place n reach k →
    Reached place n reach (past places count k reach)
unfolding past_from
past_reached {place} places {count} {n} reach k e same m = rw e (go (n - k) k (omega (arith, m.most)) m.behind)
  where
    go : (left k : ℕ) → left + k ≡ n → ((j : ℕ) → j < k → place j ≤ reach) → Reached place n reach (past_from places reach left k)
    go zero k e b = record { most = omega arith; behind = b; ahead = λ h. absurd (omega arith) }
    go (suc left) k e b = step (leb (entry places k) reach) refl (go left (suc k) (omega arith))
      where
        here : entry places k ≡ place k
        here = same k (omega arith)

        step :
            (t : Bool) → leb (entry places k) reach ≡ t →
            (((j : ℕ) → j < suc k → place j ≤ reach) → Reached place n reach (past_from places reach left (suc k))) →
            Reached place n reach (cond t (past_from places reach left (suc k)) k)
        step true q on = on (below_suc (λ j. place j ≤ reach) k b (omega (arith, here, leb-true (entry places k) reach q)))
        step false q on = record { most = omega arith; behind = b; ahead = λ h. omega (arith, here, leb-false (entry places k) reach q) }
