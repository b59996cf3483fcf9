-- `Row::write` meets its contract: four fields, one behind the other.
use Rattle.text.proofs.Placed.{line_placed}
use Rattle.text.proofs.row.Row.write.Goals as goal

pub returns : goal.returns
returns c =
    line_placed _ _ _ _ c.requires c.write_field-second.ensures c.write_field-third.ensures c.write_field-fourth.ensures c.write_field.ensures
