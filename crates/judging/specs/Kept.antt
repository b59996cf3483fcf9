-- Which rules a train keeps, rule by rule, so that the first broken rule of all trains can be told once all have been seen.
use Rattle.rules.specs.Count.{◌and◌}
use Rattle.rules.specs.Line.{Line, Train}
use Rattle.rules.specs.Refusal.{sizes_on, bands_rule, stops_rule, last_block_rule}
use Rattle.judging.specs.declared.train_rules.TrainKept.{TrainKept}

-- what a train on a line keeps of 3 and 7 to 9; nothing where it does not keep 3
abbrev pub kept_on : Line → Train → TrainKept
kept_on l t =
    record {
      sizes = sizes_on l t;
      bands = sizes_on l t and bands_rule t;
      stops = sizes_on l t and stops_rule l t;
      last_block = sizes_on l t and last_block_rule l t;
    }

-- what two trains keep, or two sets of trains
abbrev pub both_keep : TrainKept → TrainKept → TrainKept
both_keep a b =
    record {
      sizes = a.sizes and b.sizes;
      bands = a.bands and b.bands;
      stops = a.stops and b.stops;
      last_block = a.last_block and b.last_block;
    }
