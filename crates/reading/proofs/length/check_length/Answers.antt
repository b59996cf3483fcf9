use Prim.Native.Nat.{ℕ, ◌≤◌}
use mathlib.Core.List.{List}
use mathlib.Core.Bool.{Bool, true, false}
use mathlib.Core.Path.{◌≡◌, refl, sym, ap, ◌∙◌}
use native.Mathlib.Omega.{arith}
use lib.Dec.{eqb}
use lib.ListN.{length}
use borrow.Author.Tests.{leb-true, leb-false, eqb-true, eqb-false}
use Rattle.std.specs.Prelude.{Result}
use Rattle.rules.specs.File.{word, train_count, train_count_at, announced_end}
use Rattle.rules.specs.Refusal.{refusal, length_rules}
use Rattle.refusals.specs.declared.Refusal.{Refusal}
use Rattle.refusals.specs.declared.Refusal.TheVariants.{FileTooLong}
use Rattle.refusals.specs.Number.{refused_by, kept_or}
use Rattle.rules.proofs.Accepted.{ends_early_lem, bytes_follow, ends_there}
use Rattle.rules.proofs.File.{record_first, records_end, trains-within, part_next, part_inside}
use Rattle.refusals.proofs.Passing.{passed_on, refuses, passes, last_kept, last_broken}
use Rattle.reading.proofs.length.check_length.Goals as goal

-- T, from the place that the code holds
trains_read : (file : List ℕ) {trains place : ℕ} → trains ≡ word file place → place ≡ train_count_at file → trains ≡ train_count file
trains_read file e p = e ∙ ap (word file) p

-- the last test, at the place past all records
by_end :
    (file : List ℕ) {at : ℕ} {r : Result Unit Refusal} → at ≡ announced_end file → at ≤ length file →
    r ≡ kept_or FileTooLong (eqb at (length file)) → refused_by r ≡ refusal (length_rules file)
by_end file {at} {r} e h q = go (eqb at (length file)) refl
  where
    go : (b : Bool) → eqb at (length file) ≡ b → refused_by r ≡ refusal (length_rules file)
    go true t = last_kept FileTooLong q t ∙ sym (ends_there file (sym e ∙ eqb-true _ _ t))
    go false t = last_broken FileTooLong q t ∙ sym (bytes_follow file (omega (arith, e, h, eqb-false _ _ t)))

pub returns-in_err-unless : goal.returns-in_err-unless
returns-in_err-unless c =
    let f = c.args.file.now in
    let (broken, own) = refuses _ _ _ c.in_err-unless.ensures in
    let early = ends_early_lem f (omega (arith, leb-false _ _ broken, c.line_places-places.ensures.trains, trains-within f)) in
    passed_on _ _ c.from_residual.ensures.1 ∙ own ∙ sym early

pub loop-init : goal.loop-init
loop-init c = (c.line_places-places.ensures.trains ∙ sym (record_first _), leb-true _ _ (passes _ _ c.in_ok-unless.ensures))

pub loop-preserved : goal.loop-preserved
loop-preserved c =
    let there = leb-true _ _ (passes _ _ c.in_ok-unless-2.ensures) in
    (part_next _ _ _ c.loop.invariant.0 c.record_size-end.ensures.0, omega (arith, there))

pub returns-in_err-unless-2 : goal.returns-in_err-unless-2
returns-in_err-unless-2 c =
    let f = c.args.file.now in
    let (broken, own) = refuses _ _ _ c.in_err-unless-2.ensures in
    let inside = part_inside _ _ _ c.loop.invariant.0 c.record_size-end.ensures.0 (omega (arith, c.loop-test.true, trains_read f c.word_at-end.ensures.0 c.line_places-places.ensures.train_count)) in
    let early = ends_early_lem f (omega (arith, leb-false _ _ broken, inside)) in
    passed_on _ _ c.from_residual-in_err-unless-2.ensures.1 ∙ own ∙ sym early

pub returns : goal.returns
returns c =
    let f = c.args.file.now in
    let e = trains_read f c.word_at-end.ensures.0 c.line_places-places.ensures.train_count in
    let end = records_end _ _ _ c.loop.invariant.0 (omega (arith, c.loop-test.false, c.loop.auto.counter-end, e)) in
    by_end f end c.loop.invariant.1 c.unless-2.ensures
