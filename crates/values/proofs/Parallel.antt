-- The arrays of a decoded line and train are parallel. Assumes nothing.
use mathlib.Core.Path.{sym, ◌∙◌}
use Rattle.rules.specs.Admitted.{Parallel}
use Rattle.rules.proofs.Count.{length-row}
use Rattle.values.specs.Values.{as_line, as_train}
use Rattle.values.specs.declared.decoded.Line.{Line}
use Rattle.values.specs.declared.decoded.Train.{Train}

pub decoded_parallel : (l : Line) (t : Train) → Parallel (as_line l) (as_train t)
decoded_parallel l t =
    record {
      limits = length-row _ l.limit_count ∙ sym (length-row _ l.limit_count);
      blocks = length-row _ l.block_count ∙ sym (length-row _ l.block_count);
      balises = length-row _ l.balise_count ∙ sym (length-row _ l.balise_count);
      bands = length-row _ t.band_count ∙ sym (length-row _ t.band_count);
      stops = length-row _ t.stop_count ∙ sym (length-row _ t.stop_count);
    }
