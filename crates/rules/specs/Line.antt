-- Document 01, "Units and the file": the line and its trains, decoded from the file's bytes. All later files speak of these records
-- and not of bytes.
use Rattle.std.specs.Prelude.{ℕ, List, [], ◌∷◌}
use Rattle.rules.specs.Count.{entry}
use Rattle.rules.specs.File.{words, point_count, step_length, limit_count, block_count, set_up_time, release_time, limit_points_at, limits_at}
use Rattle.rules.specs.File.{block_starts_at, block_ends_at, class_number, length_number, band_count, stop_count, tops_at, rates_at, stops_at, dwells_at}
use Rattle.rules.specs.File.{balise_count, balise_points_at, balise_metres_at, record_at}

pub record Line : Type 0 where
  -- P; the points are 0 to P - 1, and cell i lies between points i and i + 1
  pub points : ℕ
  -- L, in m
  pub step : ℕ
  -- in tenths of a second
  pub set_up : ℕ
  pub release : ℕ
  -- K limits: the points, and the speeds in km/h
  pub limit_points : List ℕ
  pub limits : List ℕ
  -- B blocks, as points
  pub block_starts : List ℕ
  pub block_ends : List ℕ
  -- balises: the points, and the metres past each
  pub balise_points : List ℕ
  pub balise_metres : List ℕ

pub record Train : Type 0 where
  pub class : ℕ
  -- in m
  pub train_length : ℕ
  -- A bands: tops in km/h, rates in cm/s²
  pub tops : List ℕ
  pub rates : List ℕ
  -- S stops: points, and dwells in seconds
  pub stops : List ℕ
  pub dwells : List ℕ

-- the line of a file
unfoldable pub line_of : List ℕ → Line
line_of file =
    record {
      points = point_count file;
      step = step_length file;
      set_up = set_up_time file;
      release = release_time file;
      limit_points = words file (limit_points_at file) (limit_count file);
      limits = words file (limits_at file) (limit_count file);
      block_starts = words file (block_starts_at file) (block_count file);
      block_ends = words file (block_ends_at file) (block_count file);
      balise_points = words file (balise_points_at file) (balise_count file);
      balise_metres = words file (balise_metres_at file) (balise_count file);
    }

-- the train whose record stands at a byte place, and the train of record k
unfoldable pub train_at : List ℕ → ℕ → Train
train_at file at =
    record {
      class = class_number file at;
      train_length = length_number file at;
      tops = words file (tops_at file at) (band_count file at);
      rates = words file (rates_at file at) (band_count file at);
      stops = words file (stops_at file at) (stop_count file at);
      dwells = words file (dwells_at file at) (stop_count file at);
    }

abbrev pub train_of : List ℕ → ℕ → Train
train_of file k = train_at file (record_at file k)

-- The practice braking rate in cm/s², from a fixed table by class: 0 intercity, 1 stopping train, 2 goods.
abbrev pub practice_rates : List ℕ
practice_rates = 50 ∷ 60 ∷ 31 ∷ []

abbrev pub practice_rate : ℕ → ℕ
practice_rate class = entry practice_rates class
