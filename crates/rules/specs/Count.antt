-- Tests, choices and rows over the whole numbers below a count: the words that the later files are written in.
use Rattle.std.specs.Prelude.{ℕ, zero, suc, ◌+◌, ◌-◌, ◌/◌, min, max, Bool, true, false, List, [], ◌∷◌, leb, get_or, set}
use Rattle.std.proofs.Math.Option.{Option, none, some}

infixr 35 ◌and◌
-- both tests pass
unfoldable pub ◌and◌ : Bool → Bool → Bool
true and b = b
false and b = false

-- entry i of a list, counted from 0; 0 past its end
abbrev pub entry : List ℕ → ℕ → ℕ
entry list i = get_or list i 0

-- f a, f (a + 1), ..: k numbers
unfoldable pub row_from : (ℕ → ℕ) → ℕ → ℕ → List ℕ
row_from f a zero = []
row_from f a (suc k) = f a ∷ row_from f (suc a) k

-- the row f 0, f 1, .., f (n - 1)
abbrev pub row : (ℕ → ℕ) → ℕ → List ℕ
row f n = row_from f 0 n

-- a list in n places: 0 past its end
abbrev pub padded : ℕ → List ℕ → List ℕ
padded n list = row (entry list) n

-- a list whose first n entries become f 0 to f (n - 1); the others stay
unfoldable pub set_below : ℕ → (ℕ → ℕ) → List ℕ → List ℕ
set_below zero f list = list
set_below (suc n) f list = set (set_below n f list) n (f n)

-- the test passes at every number below n
unfoldable pub every : ℕ → (ℕ → Bool) → Bool
every zero test = true
every (suc n) test = every n test and test n

-- low ≤ x ≤ high
unfoldable pub within : ℕ → ℕ → ℕ → Bool
within low high x = leb low x and leb x high

-- f 0 to f (n - 1) all lie from low to high
abbrev pub all_within : ℕ → ℕ → ℕ → (ℕ → ℕ) → Bool
all_within low high n f = every n (λ i. within low high (f i))

-- at each i below n, f i plus the gap is at most g i
abbrev pub below_by : ℕ → ℕ → (ℕ → ℕ) → (ℕ → ℕ) → Bool
below_by gap n f g = every n (λ i. leb (f i + gap) (g i))

-- of f 0 to f (n - 1), each is at least the gap more than the one before it
abbrev pub rises_by : ℕ → ℕ → (ℕ → ℕ) → Bool
rises_by gap n f = below_by gap (n - 1) f (λ i. f (i + 1))

-- the greatest of f 0 to f (n - 1); 0 where n is 0
unfoldable pub greatest_below : ℕ → (ℕ → ℕ) → ℕ
greatest_below zero f = 0
greatest_below (suc n) f = max (greatest_below n f) (f n)

-- the lowest of m and f a, f (a + 1), ..: k values of f
unfoldable pub lowest_from : (ℕ → ℕ) → ℕ → ℕ → ℕ → ℕ
lowest_from f m a zero = m
lowest_from f m a (suc k) = min (f a) (lowest_from f m (suc a) k)

-- a number, and 0 where there is none
abbrev pub or_zero : Option ℕ → ℕ
or_zero none = 0
or_zero (some n) = n

-- there is a number
unfoldable pub is_there : Option ℕ → Bool
is_there none = false
is_there (some n) = true

-- a place counted from 1, and 0 where there is none
abbrev pub counted_from1 : Option ℕ → ℕ
counted_from1 none = 0
counted_from1 (some n) = suc n

-- n, where the test passed
abbrev pub if_passes : Bool → ℕ → Option ℕ
if_passes true n = some n
if_passes false n = none

-- the first of two, where there is one
abbrev pub or_else : Option ℕ → Option ℕ → Option ℕ
or_else none later = later
or_else (some n) later = some n

-- the first number below n that passes the test
unfoldable pub first_below : ℕ → (ℕ → Bool) → Option ℕ
first_below zero test = none
first_below (suc n) test = or_else (first_below n test) (if_passes (test n) n)

-- the last number below n that passes the test
unfoldable pub last_below : ℕ → (ℕ → Bool) → Option ℕ
last_below zero test = none
last_below (suc n) test = or_else (if_passes (test n) n) (last_below n test)

-- a / b, rounded up
unfoldable pub ceil_div : ℕ → ℕ → ℕ
ceil_div a b = (a + (b - 1)) / b
