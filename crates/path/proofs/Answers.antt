-- What the path call answers, by the number of the rules before 17 and what its search finds. Assumes nothing.
use Prim.Native.Nat.{ℕ, ◌≤◌, ◌<◌}
use mathlib.Core.List.{List}
use mathlib.Core.Path.{◌≡◌, refl, sym, ap, ap₂, subst, ◌∙◌}
use native.Mathlib.Decide.{dec_lt}
use native.Mathlib.Omega.{arith}
use borrow.Author.Tests.{ne_eqb}
use Rattle.rules.specs.Hold.{Hold}
use Rattle.rules.specs.Refusal.{refusal}
use Rattle.rules.specs.Path.{PlacedRows, placed_holds, placing_rules, path_rules, PathAnswer, path_of, no_path, path_answer, IsPlace, LeastPath, Placeable}
use Rattle.rules.specs.Path.{RightPath}
use Rattle.rules.proofs.Refusal.{append-refused}
use Rattle.rules.proofs.Path.{path-number, path_told}
use Rattle.std.specs.Prelude.{Result, Ok, Err}
use Rattle.std.specs.Result.{IsErrAnd}
use Rattle.refusals.specs.declared.Refusal.{Refusal}
use Rattle.refusals.specs.Number.{number}
use Rattle.path.specs.declared.search.Path.{Path}
use Rattle.path.specs.Values.{as_path_answer, LeastPlace}

-- a refusal that leaves by `?` is the answer's
pub refusal_told : (r : Result Path Refusal) (e : Refusal) → IsErrAnd r (λ x. x ≡ e) → as_path_answer r ≡ no_path (number e)
refusal_told (Ok p) e h = absurd h
refusal_told (Err x) e h = rw h

module _ (h : Hold) (p : PlacedRows) (low high : ℕ) where
  abbrev hs : List Hold
  hs = placed_holds h.blocks p

  pub refused-before : {r : ℕ} → r ≡ refusal (placing_rules h p low high) → (r ≡ 0 → ⊥) → no_path r ≡ path_answer h p low high
  unfolding path_answer
  refused-before {r} e n =
      let same : refusal (path_rules h p low high) ≡ r =
      append-refused (placing_rules h p low high) _ (omega arith, (omega arith, (omega arith, tt))) (λ z. n (e ∙ z)) ∙ sym e in
      rw (same, ne_eqb r 0 n)

  module _ (k : Placeable h p low high) {start place : ℕ} (f : LeastPlace h hs p.starts low start place) where
    pub found_late : high < start → no_path 17 ≡ path_answer h p low high
    found_late l =
        sym
        (((((path-number h p low high).1 (k.blocks-least, k.blocks-most)).1 k.new_hold).1 (k.rows, k.window)).0
        (λ s. omega (arith, l, s.to_high, f.least s.start s.place s.from_low s.placed)))

    pub found_in_time : start ≤ high → path_of start place ≡ path_answer h p low high
    found_in_time l =
        let a : PathAnswer = path_answer h p low high in
        let right : RightPath h p low high a = (path_told h p low high refl).1 in
        let z : a.number ≡ 0 =
        right.accepted.1 (k, record { start = start; place = place; from_low = f.from_low; to_high = l; placed = f.placed }) in
        let path : LeastPath h hs p.starts low high a.start a.before = right.path z in
        let same : a.start ≡ start = same_start path (dec_lt start a.start) in
        let placed : IsPlace h hs p.starts a.start place = subst (λ s. IsPlace h hs p.starts s place) (sym same) f.placed in
        sym (ap (λ n. record { number = n; start = a.start; before = a.before }) z
        ∙ ap₂ path_of same (sym (path.only_place place placed)))
      where
        same_start : {s b : ℕ} → LeastPath h hs p.starts low high s b → Dec (start < s) → s ≡ start
        same_start path (yes g) = absurd (path.least start place f.from_low g f.placed)
        same_start {s} {b} path (no g) = omega (arith, f.least s b path.from_low path.placed)
