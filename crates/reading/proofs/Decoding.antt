-- A line and a train are decoded, if each of their numbers and arrays is; and they stand for what the rules read. Assumes nothing.
use Prim.Native.Nat.{ℕ, ◌≤◌}
use mathlib.Core.List.{List}
use mathlib.Core.Path.{◌≡◌, ap₂, ◌∙◌}
use Rattle.rules.specs.Count.{row, entry}
use Rattle.rules.specs.File.{words, point_count, step_length, limit_count, block_count, set_up_time, release_time}
use Rattle.rules.specs.File.{balise_count, limit_points_at, limits_at, block_starts_at, block_ends_at, balise_points_at, balise_metres_at}
use Rattle.rules.specs.File.{class_number, length_number, band_count, stop_count, tops_at, rates_at, stops_at, dwells_at}
use Rattle.rules.specs.Line.{line_of, train_at}
use Rattle.rules.proofs.Fill.{row-padded}
use Rattle.values.specs.declared.decoded.Line.{Line}
use Rattle.values.specs.declared.decoded.Train.{Train}
use Rattle.values.specs.Values.{as_line, as_train}
use Rattle.reading.specs.Decoded.{numbers, decoded_line, decoded_train}

module _ (bytes : List ℕ) where
  -- an array that the code read, from the place and the count that it holds
  pub array_read : {r : List ℕ} {place n place' n' : ℕ} → r ≡ numbers bytes place n → place ≡ place' → n ≡ n' → r ≡ numbers bytes place' n'
  array_read e p q = e ∙ ap₂ (numbers bytes) p q

  pub line_decoded :
      {points step set_up release limits blocks balises : ℕ} {points' limits' starts ends balise_points metres : List ℕ} →
      points ≡ point_count bytes → step ≡ step_length bytes → set_up ≡ set_up_time bytes → release ≡ release_time bytes →
      limits ≡ limit_count bytes → blocks ≡ block_count bytes → balises ≡ balise_count bytes →
      points' ≡ numbers bytes (limit_points_at bytes) (limit_count bytes) → limits' ≡ numbers bytes (limits_at bytes) (limit_count bytes) →
      starts ≡ numbers bytes (block_starts_at bytes) (block_count bytes) → ends ≡ numbers bytes (block_ends_at bytes) (block_count bytes) →
      balise_points ≡ numbers bytes (balise_points_at bytes) (balise_count bytes) → metres ≡ numbers bytes (balise_metres_at bytes) (balise_count bytes) →
      ◌≡◌ {A = Line}
      (record {
        points = points;
        step = step;
        set_up = set_up;
        release = release;
        limit_count = limits;
        limit_points = points';
        limits = limits';
        block_count = blocks;
        block_starts = starts;
        block_ends = ends;
        balise_count = balises;
        balise_points = balise_points;
        balise_metres = metres;
      })
      (decoded_line bytes)
  line_decoded p s u r k b o f v e n i m = rw (p, s, u, r, k, b, o, f, v, e, n, i, m)

  pub train_decoded :
      {class length bands stops : ℕ} {tops rates points dwells : List ℕ} →
      class ≡ class_number bytes 0 → length ≡ length_number bytes 0 → bands ≡ band_count bytes 0 → stops ≡ stop_count bytes 0 →
      tops ≡ numbers bytes (tops_at bytes 0) (band_count bytes 0) → rates ≡ numbers bytes (rates_at bytes 0) (band_count bytes 0) →
      points ≡ numbers bytes (stops_at bytes 0) (stop_count bytes 0) → dwells ≡ numbers bytes (dwells_at bytes 0) (stop_count bytes 0) →
      ◌≡◌ {A = Train}
      (record {
        class = record { 0 = class };
        length = length;
        band_count = bands;
        tops = tops;
        rates = rates;
        stop_count = stops;
        stops = points;
        dwells = dwells;
      })
      (decoded_train bytes)
  train_decoded c n a s o r h d = rw (c, n, a, s, o, r, h, d)

  -- ---- what they stand for

  in_use_lem : {n : ℕ} (place : ℕ) → n ≤ 64 → row (entry (numbers bytes place n)) n ≡ words bytes place n
  unfolding words
  in_use_lem place h = row-padded _ h

  pub line_is : limit_count bytes ≤ 64 → block_count bytes ≤ 64 → balise_count bytes ≤ 64 → as_line (decoded_line bytes) ≡ line_of bytes
  unfolding line_of
  line_is k b o =
      rw (
        in_use_lem (limit_points_at bytes) k,
        in_use_lem (limits_at bytes) k,
        in_use_lem (block_starts_at bytes) b,
        in_use_lem (block_ends_at bytes) b,
        in_use_lem (balise_points_at bytes) o,
        in_use_lem (balise_metres_at bytes) o,
      )

  pub train_is : band_count bytes 0 ≤ 64 → stop_count bytes 0 ≤ 64 → as_train (decoded_train bytes) ≡ train_at bytes 0
  unfolding train_at
  train_is a s =
      rw (in_use_lem (tops_at bytes 0) a, in_use_lem (rates_at bytes 0) a, in_use_lem (stops_at bytes 0) s, in_use_lem (dwells_at bytes 0) s)
