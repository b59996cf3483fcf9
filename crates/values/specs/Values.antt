-- What the decoded line and train stand for in the rules: the same numbers, and of each array the entries in use.
use Rattle.rules.specs.Count.{entry, row}
use Rattle.rules.specs.Line as rules
use Rattle.values.specs.declared.decoded.Line.{Line}
use Rattle.values.specs.declared.decoded.Train.{Train}

abbrev pub as_line : Line → rules.Line
as_line l =
    record {
      points = l.points;
      step = l.step;
      set_up = l.set_up;
      release = l.release;
      limit_points = row (entry l.limit_points) l.limit_count;
      limits = row (entry l.limits) l.limit_count;
      block_starts = row (entry l.block_starts) l.block_count;
      block_ends = row (entry l.block_ends) l.block_count;
      balise_points = row (entry l.balise_points) l.balise_count;
      balise_metres = row (entry l.balise_metres) l.balise_count;
    }

abbrev pub as_train : Train → rules.Train
as_train t =
    record {
      class = t.class.0;
      train_length = t.length;
      tops = row (entry t.tops) t.band_count;
      rates = row (entry t.rates) t.band_count;
      stops = row (entry t.stops) t.stop_count;
      dwells = row (entry t.dwells) t.stop_count;
    }
