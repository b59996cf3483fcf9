-- The places that the code computes are those of the rules.
use Rattle.std.specs.Prelude.{ℕ, ◌<◌, List, ◌≡◌}
use Rattle.rules.specs.File as places
use Rattle.reading.specs.declared.places.LinePlaces.{LinePlaces}
use Rattle.reading.specs.declared.places.RecordPlaces.{RecordPlaces}

pub record IsLinePlaces (file : List ℕ) (p : LinePlaces) : Type 0 where
  pub limit_points : p.limit_points ≡ places.limit_points_at file
  pub limits : p.limits ≡ places.limits_at file
  pub block_starts : p.block_starts ≡ places.block_starts_at file
  pub block_ends : p.block_ends ≡ places.block_ends_at file
  pub balise_points : p.balise_points ≡ places.balise_points_at file
  pub balise_metres : p.balise_metres ≡ places.balise_metres_at file
  pub train_count : p.train_count ≡ places.train_count_at file
  pub trains : p.trains ≡ places.trains_at file
  pub most : places.trains_at file < 1000000

-- of a record at the beginning of the bytes
pub record IsRecordPlaces (bytes : List ℕ) (p : RecordPlaces) : Type 0 where
  pub tops : p.tops ≡ places.tops_at bytes 0
  pub rates : p.rates ≡ places.rates_at bytes 0
  pub stops : p.stops ≡ places.stops_at bytes 0
  pub dwells : p.dwells ≡ places.dwells_at bytes 0
  pub end : p.end ≡ places.record_end bytes 0
  pub most : places.record_end bytes 0 < 1000000
