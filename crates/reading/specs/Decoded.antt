-- What is decoded from bytes, whole: each number as the rules read it, and each array with 0 past its entries.
use Rattle.std.specs.Prelude.{ℕ, List}
use Rattle.rules.specs.Count.{padded}
use Rattle.rules.specs.File.{words, point_count, step_length, limit_count, block_count, set_up_time, release_time}
use Rattle.rules.specs.File.{balise_count, limit_points_at, limits_at, block_starts_at, block_ends_at, balise_points_at, balise_metres_at, train_count, trains_at}
use Rattle.rules.specs.File.{class_number, length_number, band_count, stop_count, tops_at, rates_at, stops_at, dwells_at}
use Rattle.values.specs.declared.decoded.Line.{Line}
use Rattle.values.specs.declared.decoded.Train.{Train}
use Rattle.reading.specs.declared.decode.DecodedFile.{DecodedFile}

-- n numbers from a byte place on, in the 64 places of an array
abbrev pub numbers : List ℕ → ℕ → ℕ → List ℕ
numbers bytes place n = padded 64 (words bytes place n)

abbrev pub decoded_line : List ℕ → Line
decoded_line file =
    record {
      points = point_count file;
      step = step_length file;
      set_up = set_up_time file;
      release = release_time file;
      limit_count = limit_count file;
      limit_points = numbers file (limit_points_at file) (limit_count file);
      limits = numbers file (limits_at file) (limit_count file);
      block_count = block_count file;
      block_starts = numbers file (block_starts_at file) (block_count file);
      block_ends = numbers file (block_ends_at file) (block_count file);
      balise_count = balise_count file;
      balise_points = numbers file (balise_points_at file) (balise_count file);
      balise_metres = numbers file (balise_metres_at file) (balise_count file);
    }

abbrev pub decoded_file : List ℕ → DecodedFile
decoded_file file = record { line = decoded_line file; trains = train_count file; at = trains_at file }

-- the train whose record the bytes begin with
abbrev pub decoded_train : List ℕ → Train
decoded_train bytes =
    record {
      class = record { 0 = class_number bytes 0 };
      length = length_number bytes 0;
      band_count = band_count bytes 0;
      tops = numbers bytes (tops_at bytes 0) (band_count bytes 0);
      rates = numbers bytes (rates_at bytes 0) (band_count bytes 0);
      stop_count = stop_count bytes 0;
      stops = numbers bytes (stops_at bytes 0) (stop_count bytes 0);
      dwells = numbers bytes (dwells_at bytes 0) (stop_count bytes 0);
    }
