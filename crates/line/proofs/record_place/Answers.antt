use mathlib.Core.Path.{sym, ap}
use Rattle.line.specs.declared.find.Found.{Found}
use Rattle.line.proofs.Opening.{place_refused, place_found}
use Rattle.line.proofs.record_place.Goals as goal

pub returns-in_err-start : goal.returns-in_err-start
returns-in_err-start c = place_refused _ _ _ _ c.from_residual.ensures.1 c.in_err-start.ensures.refusal

pub returns : goal.returns
returns c =
    let place = ap (λ (f : Found). f.at) c.in_ok-start.ensures.found in
    place_found _ _ (sym c.in_ok-start.ensures.refusal) place c.record_size-length.ensures.0
