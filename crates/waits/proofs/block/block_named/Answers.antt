-- `block_named`: the last block that binds is the one named.
use Rattle.std.proofs.Common.{rules, ◌≡◌, ◌≢◌, ◌+◌, ℕ, ◌<◌, Option, Some, None, MatchOption, arith, eqb}
use borrow.Author.Tests.{eq-eqb, ne_eqb, eqb-true}
use Rattle.rules.specs.Hold.{Hold}
use Rattle.rules.specs.Sheet.{Sheet, begin, free_time, block_named}
use Rattle.rules.proofs.Count.{last_none, last_passes}
use Rattle.waits.proofs.block.block_named.Goals as goal

named : (s : Sheet) (h : Hold) (start : ℕ) (r : Option ℕ) {x : ℕ} → start ≢ 0 →
    MatchOption r ((k : ℕ) → k < s.blocks → start + begin h k ≢ free_time s k)
    (λ b. (b < s.blocks) × (start + begin h b ≡ free_time s b) × ((k : ℕ) → b < k → k < s.blocks → start + begin h k ≢ free_time s k)) →
    MatchOption r (x ≡ 0) (λ b. x ≡ b + 1) → x ≡ block_named s h start
unfolding block_named
named s h start None not0 none e =
    rw (ne_eqb start 0 not0, last_none _ _ (λ k l. ne_eqb (start + begin h k) (free_time s k) (none k l))) e
named s h start (Some b) not0 (l, binds, last) e =
    let (j, p) = last_passes s.blocks (λ k. eqb (start + begin h k) (free_time s k)) b l (eq-eqb (start + begin h b) (free_time s b) binds) in
    let not_later : b < j → ⊥ = λ m. last j m p.there (eqb-true (start + begin h j) (free_time s j) p.passes) in
    let same : j ≡ b = omega (arith, p.last b l (eq-eqb (start + begin h b) (free_time s b) binds), not_later) in
    rw (ne_eqb start 0 not0, p.found, same) (omega (arith, e))

pub returns-then-start-eq0 : goal.returns-then-start-eq0
unfolding block_named
returns-then-start-eq0 c = Prim.search rules

pub returns : goal.returns
returns c =
    let counted : MatchOption c.last_binding.result (c.map_or.result ≡ 0) (λ b. c.map_or.result ≡ b + 1) = Prim.search rules in
    named _ _ _ _ c.if-start-eq0.false c.last_binding.ensures counted
