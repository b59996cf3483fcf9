use Rattle.std.proofs.Common.{ap}
use Rattle.reading.specs.declared.decode.DecodedFile.{DecodedFile}
use Rattle.study.proofs.Through.{points-most}
use Rattle.study.proofs.write_rows.Goals as goal

pub write_rows_with-requires-2 : goal.write_rows_with-requires-2
write_rows_with-requires-2 c =
    let most = points-most _ c.requires.file_value.0 (ap (λ (d : DecodedFile). d.line) c.requires.file_value.1) in
    record {
      file_value = c.requires.file_value;
      file_in_bounds = c.requires.file_in_bounds;
      points_in_bounds = (most, most);
    }
