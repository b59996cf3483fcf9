-- Laws of the limits, of the stops and of the cap. Assumes nothing.
use Prim.Native.Nat.{ℕ, zero, suc, ◌≤◌, ◌<◌}
use mathlib.Core.Bool.{Bool, true, false, cond, false≢true}
use mathlib.Core.List.{List, [], ◌∷◌}
use mathlib.Core.Logic.{◌⊎◌, inl, inr, ⊎_elim}
use mathlib.Core.Path.{◌≡◌, refl, sym, ◌∙◌}
use native.Mathlib.Nat.{le_trans, suc_inj, lt_of_not-le}
use native.Mathlib.Omega.{arith}
use lib.Dec.{leb, eqb}
use lib.ListN.{length}
use borrow.Author.Tests.{leb-true, le-leb, lt-leb, eqb-true, eqb-false, eq-eqb, ne_eqb}
use Rattle.rules.specs.Count.{entry}
use Rattle.rules.specs.Line.{Line, Train}
use Rattle.rules.specs.Run.{squared, train_cells, limit_from, cell_limit, last_top, lowest_covered, cap_speed, listed, cap_of, cap}
use Rattle.rules.specs.Admitted.{Admitted}
use Rattle.rules.specs.Meaning.{IsRoundedUp, InForce, IsCapSpeed, IsStop, IsCap}
use Rattle.rules.proofs.Count.{rises_far, last_passes, find_first, lowest_le, lowest_each, lowest_greatest, rounded_up}
use Rattle.rules.proofs.Step.{squared_mono, squared-least, squared-most, last_top-least, last_top-most}

-- ---- limits

limit_at : (v : ℕ) (ps ks : List ℕ) → ((k : ℕ) → suc k < length ps → entry ps k ≤ entry ps (suc k)) → length ps ≡ length ks → (k c : ℕ) → k < length ps →
    entry ps k ≤ c → (suc k < length ps → c < entry ps (suc k)) → limit_from v ps ks c ≡ entry ks k
unfolding limit_from
limit_at v [] ks r e k c h b u = absurd (omega arith)
limit_at v (p ∷ ps) [] r e k c h b u = absurd (omega arith)
limit_at v (p ∷ []) (q ∷ ks) r e zero c h b u = rw (le-leb p c b)
limit_at v (p ∷ o ∷ ps) (q ∷ []) r e zero c h b u = absurd (omega arith)
limit_at v (p ∷ o ∷ ps) (q ∷ s ∷ ks) r e zero c h b u = rw (le-leb p c b, lt-leb o c (u (omega arith)))
limit_at v (p ∷ ps) (q ∷ ks) r e (suc k) c h b u =
    let g : p ≤ c = le_trans (rises_far (entry (p ∷ ps)) (suc (length ps)) r 0 (suc k) (omega arith) h) b in
    rw (le-leb p c g) (limit_at q ps ks (λ j m. r (suc j) (omega arith)) (suc_inj e) k c (omega arith) b (λ m. u (omega arith)))

-- ---- stops

pub listed-there : (ss : List ℕ) (k : ℕ) → k < length ss → listed (entry ss k) ss ≡ true
unfolding listed
listed-there [] k h = absurd (omega arith)
listed-there (s ∷ ss) zero h = rw (eq-eqb s s refl)
listed-there (s ∷ ss) (suc k) h = go (eqb (entry ss k) s) (listed-there ss k (omega arith))
  where
    go : (b : Bool) → listed (entry ss k) ss ≡ true → cond b true (listed (entry ss k) ss) ≡ true
    go true e = refl
    go false e = e

pub listed_only : (ss : List ℕ) (i : ℕ) → ((k : ℕ) → k < length ss → entry ss k ≡ i → ⊥) → listed i ss ≡ false
unfolding listed
listed_only [] i h = refl
listed_only (s ∷ ss) i h = rw (ne_eqb i s (λ e. h 0 (omega arith) (sym e))) (listed_only ss i (λ k g. h (suc k) (omega arith)))

module _ (t : Train) (i : ℕ) where
  pub find_stop : ((k : ℕ) × IsStop t k i) ⊎ ((k : ℕ) → IsStop t k i → ⊥)
  find_stop =
      ⊎_elim (λ none. inr (λ k s. eqb-false (entry t.stops k) i (none k s.there) s.here))
      (λ (k, f). inl (k, record { there = f.there; here = eqb-true (entry t.stops k) i f.passes }))
      (find_first (length t.stops) (λ k. eqb (entry t.stops k) i))

  unlisted : ((k : ℕ) → IsStop t k i → ⊥) → listed i t.stops ≡ false
  unlisted h = listed_only t.stops i (λ k g e. h k (record { there = g; here = e }))

  listed_stop : listed i t.stops ≡ true → (k : ℕ) × IsStop t k i
  listed_stop e = ⊎_elim (λ s. s) (λ h. absurd (false≢true (sym (unlisted h) ∙ e))) find_stop

-- ---- the cap

module _ (l : Line) (t : Train) where
  pub cap_speed_is : (i : ℕ) → IsCapSpeed l t i (cap_speed l t i)
  unfolding cap_speed lowest_covered
  cap_speed_is i =
      record {
        top = lowest_le _ _ _ _;
        limits = λ c h. lowest_each _ _ _ _ c (omega arith) (omega arith);
        greatest = λ u h g. lowest_greatest _ _ u _ _ h (λ c p q. g c (record { from_tail = omega arith; to_head = omega arith; exists = omega arith }));
      }

  pub cap_at_stop : (i : ℕ) → listed i t.stops ≡ true → cap l t i ≡ 0
  unfolding cap cap_of
  cap_at_stop i e = rw e

  cap-elsewhere : (i : ℕ) → listed i t.stops ≡ false → cap l t i ≡ squared (cap_speed l t i)
  unfolding cap cap_of
  cap-elsewhere i e = rw e

  pub cap_is : (i : ℕ) → IsCap l t i (cap l t i)
  unfolding squared
  cap_is i =
      record {
        at_stop = λ k s. cap_at_stop i (rw (← s.here) (listed-there t.stops k s.there));
        elsewhere = λ h. (cap_speed l t i, cap_speed_is i, cap-elsewhere i (unlisted t i h));
      }

  -- a cap is within the last band
  pub cap-top : (i : ℕ) → cap l t i ≤ squared (last_top t)
  unfolding cap cap_of
  cap-top i = go (listed i t.stops)
    where
      go : (b : Bool) → cond b 0 (squared (cap_speed l t i)) ≤ squared (last_top t)
      go true = omega arith
      go false = squared_mono (cap_speed_is i).top

  -- ---- on an admitted line

  module _ (a : Admitted l t) where
    pub train_cells_lem : IsRoundedUp t.train_length l.step (train_cells l t)
    unfolding train_cells
    train_cells_lem = rounded_up t.train_length a.rule3_line.step-least

    pub limit_is : (k c : ℕ) → InForce l k c → cell_limit l c ≡ entry l.limits k
    unfolding cell_limit
    limit_is k c h =
        limit_at 0 l.limit_points l.limits (λ k g. omega (arith, a.rule4.rise k g)) a.parallel.limits k c h.there h.begun h.unended

    -- in every cell a limit holds: the last that has begun
    pub limit_in_force : (c : ℕ) → (k : ℕ) × InForce l k c
    limit_in_force c =
        let n : ℕ = length l.limit_points in
        let test : ℕ → Bool = λ k. leb (entry l.limit_points k) c in
        let (j, f) = last_passes n test 0 (omega arith) (le-leb (entry l.limit_points 0) c (omega arith)) in
        (j, record { there = f.there; begun = leb-true _ _ f.passes; unended = λ h. lt_of_not-le (λ g. omega (arith, f.last (suc j) h (le-leb _ c g))) })

    limit_least : (c : ℕ) → 1 ≤ cell_limit l c
    limit_least c = let (k, f) = limit_in_force c in rw (limit_is k c f) (a.rule5.limit_least k (omega arith))

    pub cap-least : (i : ℕ) → listed i t.stops ≡ false → 10000 ≤ cap l t i
    cap-least i e = rw (cap-elsewhere i e) (squared-least ((cap_speed_is i).greatest 1 (last_top-least l t a) (λ c h. limit_least c)))

    pub cap-most : (i : ℕ) → cap l t i ≤ 900000000
    cap-most i = le_trans (cap-top i) (squared-most (last_top-most l t a))

    pub stops-rise : (j k : ℕ) → j ≤ k → k < length t.stops → entry t.stops j ≤ entry t.stops k
    stops-rise = rises_far (entry t.stops) (length t.stops) (λ k h. omega (arith, a.rule8.apart k h))

    -- of two neighbouring points one is no stop
    pub one_is_no_stop : (i : ℕ) → listed i t.stops ≡ true → listed (suc i) t.stops ≡ true → ⊥
    one_is_no_stop i e f =
        let (j, s) = listed_stop t i e in
        let (k, r) = listed_stop t (suc i) f in
        let h : j < k = lt_of_not-le (λ g. omega (arith, stops-rise k j g s.there)) in
        omega (arith, a.rule8.apart j (omega arith), stops-rise (suc j) k h r.there)
