use mathlib.Core.Path.{◌≡◌, ap, ◌∙◌}
use native.Mathlib.Numerals.{add-one}
use native.Mathlib.Omega.{arith}
use Rattle.rules.specs.Count.{entry}
use Rattle.rules.specs.Run.{squared, change}
use Rattle.rules.proofs.Fill.{fill_none, fill_up}
use Rattle.rules.proofs.Step.{change-most}
use Rattle.judging.proofs.Admitting.{admitted}
use Rattle.forward.proofs.Traction.{count_most, rate_most, top-most, bands_are, bands_bounded, falls_taken}
use Rattle.forward.proofs.bands.bands_of.Goals as goal

pub loop-k-init : goal.loop-k-init
loop-k-init c = (count_most _ c.args.on.now.train (admitted c.args.on.now), fill_none _ _ _, fill_none _ _ _)

pub squared_of-square-requires : goal.squared_of-square-requires
squared_of-square-requires c = omega (arith, top-most _ c.args.on.now.train (admitted c.args.on.now) c.loop-k.k (omega arith))

pub loop-k-preserved : goal.loop-k-preserved
loop-k-preserved c =
    let o = c.loop-k in
    let most = change-most 200 (rate_most _ c.args.on.now.train (admitted c.args.on.now) o.k (omega arith)) (admitted c.args.on.now).rule3_line.step-most in
    let gain : c.narrow.result ≡ change (entry c.args.on.now.train.rates o.k) c.args.on.now.line.step = omega (arith, c.narrow.ensures, c.change_over.ensures, most) in (
      o.invariant.0,
      fill_up o.invariant.1 (omega arith) (add-one _) (omega arith) gain,
      fill_up o.invariant.2 (omega arith) (add-one _) (omega arith) (c.squared_of-square.ensures ∙ ap squared c.from.ensures),
    )

pub invariant_of-result : goal.invariant_of-result
invariant_of-result c =
    let o = c.loop-k in
    let bands = bands_are c.args.on.now.line c.args.on.now.train c.loop-k-test.false o.invariant.1 o.invariant.2 in
    record {
      bounded = bands_bounded _ _ (admitted c.args.on.now) bands;
      falls = λ e. falls_taken o.gains c.args.on.now.train.band_count (omega (arith, c.loop-k-test.array_long)) (c.gains_fall-falling.ensures e);
    }

pub returns : goal.returns
returns c = bands_are c.args.on.now.line c.args.on.now.train c.loop-k-test.false c.loop-k.invariant.1 c.loop-k.invariant.2
