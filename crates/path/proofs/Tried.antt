-- The search through the places. Assumes nothing.
use Prim.Native.Nat.{ℕ, suc, ◌+◌, ◌*◌, ◌^◌, ◌≤◌, ◌<◌}
use mathlib.Core.Bool.{Bool, true, false}
use mathlib.Core.List.{List}
use mathlib.Core.Path.{◌≡◌, refl, ap}
use native.Mathlib.Decide.{dec_lt}
use native.Mathlib.Numerals.{add-one}
use native.Mathlib.Omega.{arith}
use lib.ListN.{length, get_or, take}
use lib.Seq.{length-take-le, get_or-take}
use Rattle.rules.specs.Count.{entry}
use Rattle.rules.specs.Hold.{Hold, empty_hold}
use Rattle.rules.specs.Sheet.{begin, end}
use Rattle.rules.specs.Demand.{WithoutOverlap}
use Rattle.rules.specs.Path.{PlacedRows, placed_holds, begun_at, ended_at, Rule16Rows, IsPlace}
use Rattle.rules.proofs.Count.{below_suc}
use Rattle.rules.proofs.Path.{holds_count, hold_at}
use Rattle.order.specs.Clear.{clear_of}
use Rattle.order.proofs.Clear.{clear_means, unclear}
use Rattle.path_judging.specs.Rows.{row_of}
use Rattle.path_judging.proofs.Placed.{row-length}
use Rattle.path.specs.Values.{LeastBehind, LeastPlace}

-- The new hold comes after the first k trains.
abbrev After : Hold → List Hold → List ℕ → ℕ → ℕ → Type 0
After h hs ts k start = (i : ℕ) → i < k → (b : ℕ) → b < h.blocks → ended_at hs ts i b ≤ start + begin h b

-- The places before k have no room for any start from `low` on, and `start` is the least behind the first k trains.
pub record Tried (h : Hold) (hs : List Hold) (ts : List ℕ) (low k start : ℕ) : Type 0 where
  pub from_low : low ≤ start
  pub after : After h hs ts k start
  pub least : (other : ℕ) → low ≤ other → After h hs ts k other → start ≤ other
  pub no_room : (other place : ℕ) → low ≤ other → place < k → IsPlace h hs ts other place → ⊥

module _ (h : Hold) (hs : List Hold) (ts : List ℕ) (low : ℕ) where
  pub tried_none : Tried h hs ts low 0 low
  tried_none =
      record {
        from_low = omega arith;
        after = λ i l. absurd (omega arith);
        least = λ other l a. l;
        no_room = λ other place l m. absurd (omega arith);
      }

  module _ (ordered : (k : ℕ) → k < length hs → (b : ℕ) → b < h.blocks → begun_at hs ts k b < ended_at hs ts k b)
      (apart : WithoutOverlap h.blocks hs ts) where
    -- the place behind the first k trains has room for the start, or k is all
    tried_room :
        (k start : ℕ) → Tried h hs ts low k start → k ≤ length hs →
        (k < length hs → (b : ℕ) → b < h.blocks → start + end h b ≤ begun_at hs ts k b) → LeastPlace h hs ts low start k
    tried_room k start t within room =
        record {
          from_low = t.from_low;
          placed =
              record {
                there = within;
                after = λ i b l m. t.after i l b m;
                before = λ i b l m c. go i b l m c (dec_lt k i);
              };
          least = λ other place l q. at_least other place l q (dec_lt place k);
        }
      where
        go : (i b : ℕ) → k ≤ i → i < length hs → b < h.blocks → Dec (k < i) → start + end h b ≤ begun_at hs ts i b
        go i b l m c (yes g) = omega (arith, room (omega arith) b c, ordered k (omega arith) b c, apart k i b g m c)
        go i b l m c (no g) = let e : i ≡ k = omega arith in rw e (room (omega arith) b c)

        at_least : (other place : ℕ) → low ≤ other → IsPlace h hs ts other place → Dec (place < k) → start ≤ other
        at_least other place l q (yes g) = absurd (t.no_room other place l g q)
        at_least other place l q (no g) = t.least other l (λ i m b c. q.after i b (omega arith) c)

    -- it has none in block b, and the next start is the least behind train k
    tried_more :
        (k start next : ℕ) → Tried h hs ts low k start → k < length hs → (b : ℕ) → b < h.blocks → begun_at hs ts k b < start + end h b →
        low ≤ next → ((b : ℕ) → b < h.blocks → ended_at hs ts k b ≤ next + begin h b) →
        ((other : ℕ) → low ≤ other → ((b : ℕ) → b < h.blocks → ended_at hs ts k b ≤ other + begin h b) → next ≤ other) →
        Tried h hs ts low (suc k) next
    tried_more k start next t within b inside no_room from_low behind least =
        record {
          from_low = from_low;
          after =
              below_suc (λ i. (b : ℕ) → b < h.blocks → ended_at hs ts i b ≤ next + begin h b) k
              (λ i l b c. omega (arith, apart i k b l within c, ordered k within b c, behind b c)) behind;
          least = λ other l a. least other l (a k (omega arith));
          no_room = λ other place l m q.
              below_suc (λ place. IsPlace h hs ts other place → ⊥) k (λ place g. t.no_room other place l g)
              (λ q. omega (arith, t.least other l (λ i g b c. q.after i b g c), q.before k b (omega arith) within inside, no_room)) place m q;
        }

-- the same of placed rows, by what the code asks of the parts of their slices
module _ (h : Hold) (p : PlacedRows) (low : ℕ) (rows : Rule16Rows h.blocks p) (places : h.blocks ≤ length h.ends) where
  abbrev n : ℕ
  n = h.blocks

  abbrev hs : List Hold
  hs = placed_holds n p

  abbrev ts : List ℕ
  ts = p.starts

  count : length hs ≡ length ts
  count = holds_count n (length ts) p.begins p.ends

  ordered : (k : ℕ) → k < length hs → (b : ℕ) → b < n → begun_at hs ts k b < ended_at hs ts k b
  ordered k l b c = omega (arith, (rows.rows-kept k (omega (arith, l, count))).ordered b c)

  module _ (k : ℕ) (l : k < length ts) where
    row_length : (entries : List ℕ) → length entries ≡ length ts * n → length (row_of n k entries) ≡ n
    row_length entries long = row-length n (length ts) k entries l long

    row_is : get_or hs k empty_hold ≡ record { blocks = n; begins = row_of n k p.begins; ends = row_of n k p.ends }
    row_is = hold_at n (length ts) k (k * n) p.begins p.ends refl l

    begun_is : (b : ℕ) → begun_at hs ts k b ≡ entry ts k + entry (row_of n k p.begins) b
    begun_is b = ap (λ (x : Hold). entry ts k + begin x b) row_is

    ended_is : (b : ℕ) → ended_at hs ts k b ≡ entry ts k + entry (row_of n k p.ends) b
    ended_is b = ap (λ (x : Hold). entry ts k + end x b) row_is

    own : (b : ℕ) → b < n → entry (take n h.ends) b ≡ end h b
    own b c = get_or-take n h.ends b 0 c

    -- what `least_behind` asks of row k: start plus end fits in 64 bits
    pub bounds_at :
        (entry ts k ≤ 2 ^ 50) × (length (row_of n k p.ends) ≡ n) × ((b : ℕ) → b < length (row_of n k p.ends) → entry (row_of n k p.ends) b ≤ 2 ^ 44)
    bounds_at =
        let long : length (row_of n k p.ends) ≡ n = row_length p.ends rows.ends-rows in
        (rows.start-most k l, long, λ b c. omega (arith, ended_is b, (rows.rows-kept k l).end-most b (omega arith)))

    module _ {start : ℕ} (t : Tried h hs ts low k start) where
      abbrev clear : Bool
      clear = clear_of start (take n h.ends) (entry ts k) (row_of n k p.begins)

      pub room_at : clear ≡ true → LeastPlace h hs ts low start k
      room_at g =
          tried_room h hs ts low ordered rows.apart k start t (omega (arith, l, count)) (λ m b c.
          omega (
            arith,
            own b c,
            begun_is b,
            (clear_means start (entry ts k) n (take n h.ends) (row_of n k p.begins) (length-take-le n h.ends places)
                (row_length p.begins rows.begins-rows)).0 g b c,
          ))

      pub next_at :
          {next : ℕ} → clear ≡ false → LeastBehind (length (row_of n k p.ends)) low (entry ts k) (row_of n k p.ends) h.begins next →
          Tried h hs ts low (k + 1) next
      next_at {next} g f =
          let long : length (row_of n k p.ends) ≡ n = row_length p.ends rows.ends-rows in
          let (b, c, late) = unclear start (entry ts k) n (take n h.ends) (row_of n k p.begins) (length-take-le n h.ends places)
          (row_length p.begins rows.begins-rows) g in
          rw add-one
          (tried_more h hs ts low ordered rows.apart k start next t (omega (arith, l, count)) b c (omega (arith, own b c, begun_is b, late)) f.from_low
          (λ b c. omega (arith, ended_is b, f.behind b (omega arith)))
          (λ other m a. f.least other m (λ b c. omega (arith, ended_is b, a b (omega arith)))))

  pub room_behind : {k start : ℕ} → k ≡ length ts → Tried h hs ts low k start → LeastPlace h hs ts low start k
  room_behind {k} {start} e t =
      tried_room h hs ts low ordered rows.apart k start t (omega (arith, e, count)) (λ m. absurd (omega (arith, m, e, count)))
