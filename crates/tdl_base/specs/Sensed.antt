-- What sensors read: at one instant, along a run, and as a list of numbers for each module in order.
use Rattle.std.specs.Prelude.{ℕ, ◌<◌, List, [], length, map, replicate, slice_index_or, slice_set, ℤ, pos}

-- the number of each sensor of each module at one instant
abbrev pub Sensed : Type 0
Sensed = ℕ → ℕ → ℤ

-- what is sensed at each instant
abbrev pub Course : Type 0
Course = ℕ → Sensed

-- all sensors 0, where `counts` says how many each module has
abbrev pub all_zero : List ℕ → List (List ℤ)
all_zero counts = map (λ n. replicate n (pos 0)) counts

-- the numbers of module m; none where there is no such module
abbrev pub numbers_of : List (List ℤ) → ℕ → List ℤ
numbers_of sensed m = slice_index_or sensed m []

-- module m has a sensor i
abbrev pub HasSensor : List (List ℤ) → ℕ → ℕ → Type 0
HasSensor sensed m i = i < length (numbers_of sensed m)

-- what such lists say: the number of sensor i of module m; 0 where there is no such sensor
abbrev pub sensed_at : List (List ℤ) → Sensed
sensed_at sensed m i = slice_index_or (numbers_of sensed m) i (pos 0)

-- the same with v at sensor i of module m; unchanged where there is no such sensor
abbrev pub with_sensed : List (List ℤ) → ℕ → ℕ → ℤ → List (List ℤ)
with_sensed sensed m i v = slice_set sensed m (slice_set (numbers_of sensed m) i v)
