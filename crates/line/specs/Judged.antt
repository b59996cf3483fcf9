-- What the code keeps in mind as it goes over the trains of a file.
use Rattle.std.specs.Prelude.{ℕ, List, drop}
use Rattle.rules.specs.Count.{every}
use Rattle.rules.specs.File.{record_at}
use Rattle.values.specs.Values.{as_line, as_train}
use Rattle.judging.specs.declared.train_rules.TrainKept.{TrainKept}
use Rattle.judging.specs.Kept.{kept_on}
use Rattle.reading.specs.Decoded.{decoded_line, decoded_train}

-- which rules each of n trains keeps
abbrev pub all_kept : (ℕ → TrainKept) → ℕ → TrainKept
all_kept kept n =
    record {
      sizes = every n (λ k. (kept k).sizes);
      bands = every n (λ k. (kept k).bands);
      stops = every n (λ k. (kept k).stops);
      last_block = every n (λ k. (kept k).last_block);
    }

-- what train k keeps, as it is decoded
abbrev pub kept_of : List ℕ → ℕ → TrainKept
kept_of file k = kept_on (as_line (decoded_line file)) (as_train (decoded_train (drop (record_at file k) file)))
