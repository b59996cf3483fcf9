-- What a train covers, as its head and the rear of its grown length pass along the line. Places are in m from point 0.
use Rattle.std.specs.Prelude.{ℕ, zero, suc, ◌+◌, ◌-◌, ◌*◌, min, cond, List, replicate, leb, ltb, eqb}
use Rattle.rules.specs.Count.{entry, row, padded, lowest_from, ceil_div}
use Rattle.values.specs.declared.decoded.Line.{Line}
use Rattle.caps.specs.declared.places.Places.{Places}
use Rattle.caps.specs.declared.Course.{Course}
use Rattle.caps.specs.declared.Covered.{Covered}

-- how many entries are in use
abbrev pub in_use : ℕ → ℕ
in_use count = min count 64

-- n places by points and the metres past each, in the 64 places of an array
unfoldable pub places_of : List ℕ → List ℕ → ℕ → ℕ → Places
places_of points metres n step = record { count = n; at = padded 64 (row (λ k. entry points k * step + entry metres k) n) }

-- no metres past any point
abbrev pub zeros : List ℕ
zeros = replicate 64 0

-- the places at which the limits begin, and those of the balises
unfoldable pub limit_places : Line → Places
limit_places l = places_of l.limit_points zeros (in_use l.limit_count) l.step

unfoldable pub balise_places : Line → Places
balise_places l = places_of l.balise_points l.balise_metres (in_use l.balise_count) l.step

-- from number k on, past the places that are at most `reach`; `left` places are looked at
unfoldable pub past_from : List ℕ → ℕ → ℕ → ℕ → ℕ
past_from places reach zero k = k
past_from places reach (suc left) k = cond (leb (entry places k) reach) (past_from places reach left (suc k)) k

-- of n places, how many are reached, where the first k are
abbrev pub past : List ℕ → ℕ → ℕ → ℕ → ℕ
past places n k reach = past_from places reach (n - k) k

-- the last of k places, but no more than 64; 0 where there is none
unfoldable pub last_place : List ℕ → ℕ → ℕ
last_place places k = cond (eqb k 0) 0 (entry places (min k 64 - 1))

-- the place that follows k others; beyond every place of a line where there is none
unfoldable pub place_ahead : List ℕ → ℕ → ℕ → ℕ
place_ahead places n k = cond (ltb k n) (entry places k) 4294967295

-- the rear of a train with its head at x, its length grown by 2 m and by the distance from `from` divided by 50, rounded up
abbrev pub rear_at : ℕ → ℕ → ℕ → ℕ
rear_at train_length from x = x - (train_length + 2 + ceil_div (x - from) 50)

-- the first place of the head with which that rear has reached a place
abbrev pub head_for : ℕ → ℕ → ℕ → ℕ
head_for train_length from place = min (ceil_div (50 * (place + train_length + 2) - from) 49) 4294967295

-- the lowest of the top and the limits from the tail's to the head's
unfoldable pub lowest_limit : List ℕ → ℕ → ℕ → ℕ → ℕ
lowest_limit limits top tail head = lowest_from (entry limits) top (tail - 1) (min head 64 - (tail - 1))

-- what is covered once the head and the tail have reached so many limits and the head so many balises
unfoldable pub covering : Course → ℕ → ℕ → ℕ → Covered
covering c head tail balises =
    record {
      head = head;
      tail = tail;
      balises = balises;
      lowest = lowest_limit c.limits c.top tail head;
      until =
          ceil_div
          (min (place_ahead c.limits_at.at (in_use c.limits_at.count) head)
          (min (place_ahead c.balises_at.at (in_use c.balises_at.count) balises)
          (head_for c.length (last_place c.balises_at.at balises) (place_ahead c.limits_at.at (in_use c.limits_at.count) tail)))) c.step;
    }

-- what is covered with the head at a point, from what was covered before: the places that lie between are passed
unfoldable pub covered_at : Course → ℕ → Covered → Covered
covered_at c point before =
    let x : ℕ = point * c.step in
    let limit_count : ℕ = in_use c.limits_at.count in
    let balises : ℕ = past c.balises_at.at (in_use c.balises_at.count) before.balises x in
    covering c (past c.limits_at.at limit_count before.head x)
    (past c.limits_at.at limit_count before.tail (rear_at c.length (last_place c.balises_at.at balises) x)) balises
