-- When the activities of a mode occur.
use Rattle.std.specs.Prelude.{ℕ, suc, Bool, List, [], ◌∷◌, Option, Some, None, option_map, map, if◌then◌else◌, ◌*◌, is_none, unwrap_or, zero, ◌-◌, ◌/◌, ◌%◌, ◌&&◌, ◌==◌, nat_lt, nat_le, ◌<◌, ◌≤◌}
use Rattle.tdl_base.specs.declared.limits.TheConstants.{LEAST_US, PERIOD_US, FREQUENCY}
use Rattle.tdl_tree.specs.declared.activities.Act.{Act}
use Rattle.tdl_tree.specs.declared.activities.Slots.{Slots}
use Rattle.tdl_tree.specs.declared.names.Time.{Time}
use Rattle.tdl_tree.specs.declared.names.Unit.{Unit}
use Rattle.tdl_tree.specs.declared.names.Unit.TheVariants as unit
use Rattle.tdl_rules.specs.Lists.{each}

-- ---- times

-- the microseconds of a unit
abbrev pub scale : Unit → ℕ
scale unit.Us = 1
scale unit.Ms = 1000
scale unit.S = 1000000

-- a time in microseconds
abbrev pub time_us : Time → ℕ
time_us time = time.number.value * scale time.unit

-- a number of microseconds that a period may have: 1 us to 10 s
abbrev pub in_ten_seconds : ℕ → Bool
in_ten_seconds us = nat_le LEAST_US us && nat_le us PERIOD_US

-- ---- frequencies and ranges of slots

-- a frequency that is lawful in a period
abbrev pub divides : ℕ → ℕ → Bool
divides frequency period = nat_le 1 frequency && nat_le frequency FREQUENCY && period % frequency == 0

-- the last slot of a range
abbrev pub last_of : Slots → ℕ
last_of range = unwrap_or (option_map (λ n. n.value) range.last) range.first.value

-- the first range that is not in order: 1 <= i <= j <= frequency, above the last slot before it
abbrev pub bad_range : ℕ → ℕ → List Slots → Option Slots
bad_range frequency before [] = None
bad_range frequency before (range ∷ more) =
    if nat_lt before range.first.value && nat_le range.first.value (last_of range) && nat_le (last_of range) frequency
    then bad_range frequency (last_of range) more
    else Some range

-- an activity has occurrences in a mode of this period: its numbers are lawful
abbrev pub occurs : ℕ → Act → Bool
occurs period activity =
    in_ten_seconds period && divides activity.freq.value period &&
    is_none (bad_range activity.freq.value 0 activity.slots)

-- n numbers from k on
abbrev pub from : ℕ → ℕ → List ℕ
from k zero = []
from k (suc n) = k ∷ from (suc k) n

-- the chosen ranges, first slot and last; where none are written, each slot by itself
abbrev pub ranges : ℕ → List Slots → List (ℕ × ℕ)
ranges frequency [] = map (λ i. (i, i)) (from 1 frequency)
ranges frequency slots = map (λ range. (range.first.value, last_of range)) slots

-- ---- occurrences

-- a logical execution time: from its start s to before its end e, in microseconds of the mode's cycle
pub record Let : Type 0 where
  pub s : ℕ
  pub e : ℕ

-- the logical execution time of the slots i to j, of so many slots of a period
abbrev pub let_of : ℕ → ℕ → ℕ × ℕ → Let
let_of frequency period range = record { s = (range.0 - 1) * period / frequency; e = range.1 * period / frequency }

-- the logical execution times of a task activity in a mode of this period: one a range
abbrev pub lets : ℕ → Act → List Let
lets period activity =
    if occurs period activity
    then map (let_of activity.freq.value period) (ranges activity.freq.value activity.slots)
    else []

-- the ends of the slots i to j
abbrev pub slot_ends : ℕ → ℕ → ℕ × ℕ → List ℕ
slot_ends frequency period range = map (λ i. i * period / frequency) (from range.0 (suc range.1 - range.0))

-- the offsets of an update or a switch in a mode of this period: the end of each chosen slot
abbrev pub times : ℕ → Act → List ℕ
times period activity =
    if occurs period activity
    then each (slot_ends activity.freq.value period) (ranges activity.freq.value activity.slots)
    else []

-- ---- where occurrences lie

-- a logical execution time begins before it ends, within a period
abbrev pub IsWithin : ℕ → Let → Type 0
IsWithin period span = (span.s < span.e) × (span.e ≤ period)

-- an offset after the start of a period and up to its end
abbrev pub IsOffset : ℕ → ℕ → Type 0
IsOffset period t = (1 ≤ t) × (t ≤ period)
