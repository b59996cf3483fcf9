-- `least_behind`: at the loop's test the start is the least behind the train ahead in the blocks so far.
use Prim.Native.Nat.{ℕ, ◌+◌, ◌-◌, ◌≤◌, max}
use mathlib.Core.List.{List}
use mathlib.Core.Path.{◌≡◌, subst}
use native.Mathlib.Numerals.{add-one}
use native.Mathlib.Omega.{arith}
use borrow.Author.Rules.{rules}
use lib.ListN.{length, length-append}
use Rattle.std.proofs.lemmas.Slice.Zip.{zip_turn, zip_end}
use Rattle.rules.specs.Count.{entry}
use Rattle.rules.proofs.Count.{below_suc}
use Rattle.path.specs.Values.{LeastBehind}
use Rattle.path.proofs.search.least_behind.Goals as goal

module _ (low ahead : ℕ) (ends begins : List ℕ) where
  none : LeastBehind 0 low ahead ends begins low
  none = record { from_low = omega arith; behind = λ b l. absurd (omega arith); least = λ other l h. l }

  one_more :
      (n : ℕ) {start next : ℕ} → LeastBehind n low ahead ends begins start → next ≡ max start (ahead + entry ends n - entry begins n) →
      LeastBehind (n + 1) low ahead ends begins next
  one_more n {start} {next} r e =
      rw add-one
      (record {
        from_low = omega (arith, r.from_low);
        behind = below_suc (λ b. ahead + entry ends b ≤ next + entry begins b) n (λ b l. omega (arith, r.behind b l)) (omega arith);
        least = λ other l h. omega (arith, r.least other l (λ b m. h b (omega arith)), h n (omega arith));
      })

  all : {n m start : ℕ} → n ≡ m → LeastBehind n low ahead ends begins start → LeastBehind m low ahead ends begins start
  all {start = start} e r = subst (λ n. LeastBehind n low ahead ends begins start) e r

pub loop-end-init : goal.loop-end-init
loop-end-init c = none _ _ _ _

pub loop-end-preserved : goal.loop-end-preserved
loop-end-preserved c =
    let o = c.loop-end in
    let (there, beside, end, begin) =
    zip_turn c.args.ends.now c.args.begins.now o.yielded c.into_iter-end-iterator.result o.end-iterator c.next.new.self _ (search rules)
    (search rules) o.yielded_by (c.in-Some.end, c.in-Some.begin) c.in-Some.is c.next.ensures.steps in
    rw length-append (one_more _ _ _ _ (length o.yielded) o.invariant (rw (end 0, begin 0) at c.later-start.ensures))

pub returns : goal.returns
returns c =
    let o = c.loop-end in
    let done =
    zip_end c.args.ends.now c.args.begins.now o.yielded c.into_iter-end-iterator.result o.end-iterator c.next.new.self _ (search rules)
    (search rules) o.yielded_by c.in-None.is c.next.ensures.steps in
    all _ _ _ _ (omega (arith, done, c.requires.beside)) o.invariant
