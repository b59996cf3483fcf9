use Rattle.std.proofs.lemmas.Grind.{common_steps}
use Rattle.std.proofs.Common.{◌≡◌, arith, ◌∙◌}
use Rattle.rules.specs.Calls.{written}
use Rattle.rules.specs.Diagram.{double_bytes}
use Rattle.diagram.proofs.Bytes.{le_low_first}
use Rattle.diagram.proofs.Doubles.{double-bytes}
use Rattle.diagram.proofs.points.put_double.Goals as goal

pub returns : goal.returns
unfolding written double_bytes
returns c =
    let a = c.args in
    let long = double-bytes a.x in
    let bytes : c.copy_from_slice.new.self ≡ double_bytes a.x = c.copy_from_slice.ensures.after ∙ c.to_le_bytes.ensures ∙ le_low_first _ in
    grind (arith, common_steps, bytes, long)
