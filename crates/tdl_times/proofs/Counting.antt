-- How many occurrences an activity has that occurs.
use Rattle.std.proofs.Common.{◌≡◌, ℕ, zero, suc, ◌+◌, ◌-◌, ◌*◌, ◌/◌, true, List, [], ◌∷◌, map, length, refl, ap, ap₂, ◌∙◌, arith}
use Rattle.std.proofs.lemmas.List.{length-map, length-append}
use Rattle.tdl_tree.specs.declared.activities.Act.{Act}
use Rattle.tdl_tree.specs.declared.activities.Slots.{Slots}
use Rattle.tdl_rules.specs.Lists.{each}
use Rattle.tdl_rules.specs.Times.{last_of, occurs, from, ranges, let_of, slot_ends, lets, times}
use Rattle.tdl_times.specs.Counts.{chosen}

-- n numbers from k on are n
length-from : (k n : ℕ) → length (from k n) ≡ n
length-from k zero = refl
length-from k (suc n) = ap suc (length-from (suc k) n)

-- ---- ranges

-- without ranges each slot is one
length-ranges-none : (frequency : ℕ) (slots : List Slots) → length slots ≡ 0 →
    length (ranges frequency slots) ≡ frequency
length-ranges-none frequency [] none = length-map (from 1 frequency) (λ i. (i, i)) ∙ length-from 1 frequency
length-ranges-none frequency (range ∷ more) none = absurd (omega (arith, none))

-- ---- logical execution times

-- a task activity without ranges has one for each slot
pub let_count-none : (period : ℕ) (act : Act) → occurs period act ≡ true → length act.slots ≡ 0 →
    length (lets period act) ≡ act.freq.value
let_count-none period act here none =
    rw here (length-map (ranges act.freq.value act.slots) (let_of act.freq.value period) ∙
    length-ranges-none act.freq.value act.slots none)

-- ---- offsets

-- the ends of the slots i to j
length-slot_ends : (frequency period : ℕ) (range : ℕ × ℕ) →
    length (slot_ends frequency period range) ≡ suc range.1 - range.0
length-slot_ends frequency period range =
    length-map (from range.0 (suc range.1 - range.0)) (λ i. i * period / frequency) ∙
    length-from range.0 (suc range.1 - range.0)

-- each of n slots from k on has one end
length-single_ends : (frequency period k n : ℕ) →
    length (each (slot_ends frequency period) (map (λ i. (i, i)) (from k n))) ≡ n
length-single_ends frequency period k zero = refl
length-single_ends frequency period k (suc n) =
    let one : suc k - k ≡ 1 = omega arith in
    let next : 1 + n ≡ suc n = omega arith in
    length-append (slot_ends frequency period (k, k))
    (each (slot_ends frequency period) (map (λ i. (i, i)) (from (suc k) n))) ∙
    ap₂ (λ (x y : ℕ). x + y) (length-slot_ends frequency period (k, k) ∙ one)
    (length-single_ends frequency period (suc k) n) ∙ next

-- the ends of the slots of ranges that are written
length-range_ends : (frequency period : ℕ) (slots : List Slots) →
    length (each (slot_ends frequency period) (map (λ (r : Slots). (r.first.value, last_of r)) slots)) ≡ chosen slots
length-range_ends frequency period [] = refl
length-range_ends frequency period (r ∷ rs) =
    length-append (slot_ends frequency period (r.first.value, last_of r))
    (each (slot_ends frequency period) (map (λ (r : Slots). (r.first.value, last_of r)) rs)) ∙
    ap₂ (λ (x y : ℕ). x + y) (length-slot_ends frequency period (r.first.value, last_of r))
    (length-range_ends frequency period rs)

-- the ends of all chosen slots, where no range is written
each-none : (frequency period : ℕ) (slots : List Slots) → length slots ≡ 0 →
    length (each (slot_ends frequency period) (ranges frequency slots)) ≡ frequency
each-none frequency period [] none = length-single_ends frequency period 1 frequency
each-none frequency period (r ∷ rs) none = absurd (omega (arith, none))

-- the ends of all chosen slots, where ranges are written
each-some : (frequency period : ℕ) (slots : List Slots) → (length slots ≡ 0 → ⊥) →
    length (each (slot_ends frequency period) (ranges frequency slots)) ≡ chosen slots
each-some frequency period [] some = absurd (some refl)
each-some frequency period (r ∷ rs) some = length-range_ends frequency period (r ∷ rs)

-- an update or a switch without ranges occurs at each slot
pub time_count-none : (period : ℕ) (act : Act) → occurs period act ≡ true → length act.slots ≡ 0 →
    length (times period act) ≡ act.freq.value
time_count-none period act here none = rw here (each-none act.freq.value period act.slots none)

-- and else at each slot that the ranges choose
pub time_count-some : (period : ℕ) (act : Act) → occurs period act ≡ true → (length act.slots ≡ 0 → ⊥) →
    length (times period act) ≡ chosen act.slots
time_count-some period act here some = rw here (each-some act.freq.value period act.slots some)
