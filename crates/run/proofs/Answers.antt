-- What the run calls answer and leave in the buffers, refused and accepted. Assumes nothing.
use Prim.Native.Nat.{ℕ, ◌≤◌, ◌<◌, min}
use mathlib.Core.Bool.{cond}
use mathlib.Core.List.{List, [], ◌∷◌}
use mathlib.Core.Path.{◌≡◌, refl, sym, ◌∙◌, subst}
use native.Mathlib.Decide.{dec_lt}
use native.Mathlib.Omega.{arith}
use lib.ListN.{length, take}
use borrow.Author.Tests.{le-leb, lt-leb}
use Rattle.rules.specs.Count.{◌and◌}
use Rattle.rules.specs.File.{point_count}
use Rattle.rules.specs.Line.{Line, Train, line_of, train_of}
use Rattle.rules.specs.Run.{run_row}
use Rattle.rules.specs.Time.{arrivals, run_times, FastestRun}
use Rattle.rules.specs.Refusal.{Rule, rule, refusal, rules_on, buffers_long}
use Rattle.rules.specs.Calls.{written, train_refusal, run_refusal, speeds_after, times_after}
use Rattle.rules.specs.Admitted.{Admitted}
use Rattle.rules.proofs.Refusal.{refusal-none, refusal_cons, append-refused, append-kept}
use Rattle.rules.proofs.Accepted.{on_positive, on_kept, run_refused, run_by_buffers, train-admitted}
use Rattle.rules.proofs.Calls.{lent_written, lent_kept, run_leaves}
use Rattle.rules.proofs.Time.{fastest}
use Rattle.run.specs.Calls.{run_refusal_on, speeds_on, times_on}
use Rattle.rules.proofs.Written.{row_taken}

module _ (l : Line) (t : Train) where
  module _ (ns nt : ℕ) where
    buffers_rule : Rule
    buffers_rule = rule 11 (buffers_long l ns nt)

    -- 11 comes behind the file's rules from 3 on
    pub refused_on : {r : ℕ} → r ≡ refusal (rules_on l t) → (r ≡ 0 → ⊥) → r ≡ run_refusal_on l t ns nt
    unfolding run_refusal_on buffers_rule
    refused_on e h = e ∙ sym (append-refused (rules_on l t) (buffers_rule ∷ []) (on_positive l t) (λ z. h (e ∙ z)))

    pub by_buffers : refusal (rules_on l t) ≡ 0 → run_refusal_on l t ns nt ≡ cond (buffers_long l ns nt) 0 11
    unfolding run_refusal_on buffers_rule
    by_buffers z = append-kept (rules_on l t) (buffers_rule ∷ []) (on_positive l t) z ∙ refusal_cons 11 (buffers_long l ns nt) [] ∙ rw refusal-none

    short_buffers : refusal (rules_on l t) ≡ 0 → min ns nt < l.points → 11 ≡ run_refusal_on l t ns nt
    unfolding buffers_long ◌and◌
    short_buffers z h = go (dec_lt ns l.points)
      where
        go : Dec (ns < l.points) → 11 ≡ run_refusal_on l t ns nt
        go (yes g) = sym (by_buffers z ∙ rw (lt-leb l.points ns g))
        go (no g) = sym (by_buffers z ∙ rw (le-leb l.points ns (omega arith), lt-leb l.points nt (omega arith)))

    long_buffers : refusal (rules_on l t) ≡ 0 → l.points ≤ min ns nt → 0 ≡ run_refusal_on l t ns nt
    unfolding buffers_long ◌and◌
    long_buffers z h = sym (by_buffers z ∙ rw (le-leb l.points ns (omega arith), le-leb l.points nt (omega arith)))

  -- the answer and the two buffers of a call that met these, whose number is r
  module _ (speeds times : List ℕ) where
    pub record Answered (r : ℕ) (speeds' times' : List ℕ) : Type 0 where
      pub number : r ≡ run_refusal_on l t (length speeds) (length times)
      pub speeds_left : speeds' ≡ speeds_on l t speeds times
      pub times_left : times' ≡ times_on l t speeds times

    kept : {r : ℕ} → r ≡ run_refusal_on l t (length speeds) (length times) → (r ≡ 0 → ⊥) → Answered r speeds times
    unfolding speeds_on times_on
    kept e h =
        record {
          number = e;
          speeds_left = sym (lent_kept _ speeds (λ z. h (e ∙ z)));
          times_left = sym (lent_kept _ times (λ z. h (e ∙ z)));
        }

    -- the two buffers of a refused call
    pub buffers_kept : {r : ℕ} → r ≡ run_refusal_on l t (length speeds) (length times) → (r ≡ 0 → ⊥) →
        (speeds ≡ speeds_on l t speeds times) × (times ≡ times_on l t speeds times)
    buffers_kept e h = ((kept e h).speeds_left, (kept e h).times_left)

    -- by the file's rules, and by 11
    pub refused : {r : ℕ} → r ≡ refusal (rules_on l t) → (r ≡ 0 → ⊥) → Answered r speeds times
    refused e h = kept (refused_on (length speeds) (length times) e h) h

    pub too_short : refusal (rules_on l t) ≡ 0 → min (length speeds) (length times) < l.points → Answered 11 speeds times
    too_short z h = kept (short_buffers (length speeds) (length times) z h) (λ z. omega arith)

    pub run_written :
        {speeds' times' : List ℕ} → refusal (rules_on l t) ≡ 0 → l.points ≤ min (length speeds) (length times) →
        speeds' ≡ written speeds 0 (run_row l t) → times' ≡ written times 0 (run_times l t) → Answered 0 speeds' times'
    unfolding speeds_on times_on
    run_written z h p q =
        let e = long_buffers (length speeds) (length times) z h in
        record {
          number = e;
          speeds_left = rw (← e) (p ∙ sym (lent_written _ speeds));
          times_left = rw (← e) (q ∙ sym (lent_written _ times));
        }

  -- the first P entries are the run and its arrivals
  pub first-points : Admitted l t → (speeds times : List ℕ) {speeds' times' : List ℕ} → speeds' ≡ written speeds 0 (run_row l t) → times' ≡
      written times 0 (run_times l t) →
      FastestRun l t (take l.points speeds') (take l.points times')
  unfolding run_row arrivals
  first-points a speeds times p q =
      rw (row_taken _ l.points speeds p, row_taken _ l.points times q) (fastest l t a)

-- ---- of a file

module _ (file : List ℕ) (k : ℕ) where
  -- an accepted train's run goes by its line and its train
  module _ (z : train_refusal file k ≡ 0) where
    pub same_refusal : (ns nt : ℕ) → run_refusal_on (line_of file) (train_of file k) ns nt ≡ run_refusal file k ns nt
    same_refusal ns nt = by_buffers (line_of file) (train_of file k) ns nt (on_kept _ _ (train-admitted file k z)) ∙ sym (run_by_buffers file k ns nt z)

    pub same_buffers : (speeds times : List ℕ) →
        (speeds_on (line_of file) (train_of file k) speeds times ≡ speeds_after file k speeds times) ×
        (times_on (line_of file) (train_of file k) speeds times ≡ times_after file k speeds times)
    unfolding speeds_on times_on speeds_after times_after
    same_buffers speeds times = (rw (same_refusal (length speeds) (length times)), rw (same_refusal (length speeds) (length times)))

  points_are : (line_of file).points ≡ point_count file
  unfolding line_of
  points_are = refl

  pub not_run :
      (speeds times : List ℕ) {r : ℕ} → r ≡ train_refusal file k → (r ≡ 0 → ⊥) →
      (r ≡ run_refusal file k (length speeds) (length times)) × (speeds ≡ speeds_after file k speeds times) × (times ≡ times_after file k speeds times)
  not_run speeds times {r} e h =
      let n : r ≡ run_refusal file k (length speeds) (length times) = e ∙ sym (run_refused file k (length speeds) (length times) (λ z. h (e ∙ z))) in
      let kept = run_leaves file k speeds times (λ z. h (n ∙ z)) in
      (n, sym kept.0, sym kept.1)

  -- the line and the train that the code holds are those of the file
  module _ {l : Line} {t : Train} (z : train_refusal file k ≡ 0) (f : l ≡ line_of file) (g : t ≡ train_of file k) where
    pub as_run :
        (speeds times : List ℕ) {r : ℕ} {speeds' times' : List ℕ} →
        r ≡ run_refusal_on l t (length speeds) (length times) → speeds' ≡ speeds_on l t speeds times → times' ≡ times_on l t speeds times →
        (r ≡ run_refusal file k (length speeds) (length times)) × (speeds' ≡ speeds_after file k speeds times) × (times' ≡ times_after file k speeds times)
    as_run speeds times {r} {speeds'} {times'} p q s =
        let p' : r ≡ run_refusal_on (line_of file) (train_of file k) (length speeds) (length times) = rw (f, g) at p in
        let q' : speeds' ≡ speeds_on (line_of file) (train_of file k) speeds times = rw (f, g) at q in
        let s' : times' ≡ times_on (line_of file) (train_of file k) speeds times = rw (f, g) at s in
        (p' ∙ same_refusal z (length speeds) (length times), q' ∙ (same_buffers z speeds times).0, s' ∙ (same_buffers z speeds times).1)

    pub as_fastest :
        (s m : List ℕ) → FastestRun l t (take l.points s) (take l.points m) →
        FastestRun (line_of file) (train_of file k) (take (point_count file) s) (take (point_count file) m)
    as_fastest s m h =
        let h' : FastestRun (line_of file) (train_of file k) (take (line_of file).points s) (take (line_of file).points m) = rw (f, g) at h in
        subst (λ (p : ℕ). FastestRun (line_of file) (train_of file k) (take p s) (take p m)) points_are h'
