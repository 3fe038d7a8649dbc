-- Lawful ranges, number by number, and what an activity that occurs chooses.
use Rattle.std.proofs.Common.{◌≡◌, ℕ, zero, suc, ◌<◌, ◌≤◌, ◌+◌, ◌*◌, ◌/◌, ◌%◌, Bool, true, ◌&&◌, ◌==◌, nat_lt, nat_le, if◌then◌else◌, List, [], ◌∷◌, length, map, Option, None, Some, option_map, is_none, slice_get, refl, sym, ap, ◌∙◌, inl, inr, subst, arith}
use Rattle.std.proofs.lemmas.Bool.{cases_Bool, and_parts, ltb-true, leb-true, eqb-true}
use Rattle.std.proofs.lemmas.List.{length-map}
use Rattle.std.proofs.lemmas.Nat.{div-add-mod'}
use Rattle.std.proofs.lemmas.Option.{slice_get-map, slice_get_past}
use Rattle.tdl_base.specs.declared.limits.TheConstants.{LEAST_US, PERIOD_US, FREQUENCY}
use Rattle.tdl_tree.specs.declared.activities.Act.{Act}
use Rattle.tdl_tree.specs.declared.activities.Slots.{Slots}
use Rattle.tdl_rules.specs.Lists.{each}
use Rattle.tdl_rules.specs.Times.{in_ten_seconds, divides, last_of, bad_range, occurs, from, ranges, lets, times}
use Rattle.tdl_slots.specs.Choices.{span_of, ends_of}
use Rattle.tdl_slots.proofs.Widths.{spans-width, offsets-width}

-- the first range and those after it, where none is bad
pub good_first : (f before : ℕ) (r : Slots) (more : List Slots) → bad_range f before (r ∷ more) ≡ None →
    ((nat_lt before r.first.value && nat_le r.first.value (last_of r) && nat_le (last_of r) f) ≡ true) × (bad_range f (last_of r) more ≡ None)
good_first f before r more none =
    elim (cases_Bool (nat_lt before r.first.value && nat_le r.first.value (last_of r) && nat_le (last_of r) f)) [
      | inl t ↦ (t, sym (ap (λ (b : Bool). if b then bad_range f (last_of r) more else Some r) t) ∙ none)
      | inr e ↦
          let some : Some r ≡ None = sym (ap (λ (b : Bool). if b then bad_range f (last_of r) more else Some r) e) ∙ none in
          absurd (cc)
    ]

-- a range that is not bad
pub record IsLawful (f before : ℕ) (r : ℕ × ℕ) : Type 0 where
  pub above : before < r.0
  pub order : r.0 ≤ r.1
  pub below : r.1 ≤ f

-- what the test of a range says
pub tested : (f before : ℕ) (r : Slots) → (nat_lt before r.first.value && nat_le r.first.value (last_of r) && nat_le (last_of r) f) ≡ true →
    IsLawful f before (r.first.value, last_of r)
tested f before r t =
    let low = nat_lt before r.first.value in
    let order = nat_le r.first.value (last_of r) in
    let high = nat_le (last_of r) f in
    let parts = and_parts (low && order) high t in
    let first = and_parts low order parts.0 in
    record {
      above = ltb-true before r.first.value first.0;
      order = leb-true r.first.value (last_of r) first.1;
      below = leb-true (last_of r) f parts.1;
    }

-- any range, where none is bad
pub lawful_at : (f before : ℕ) (slots : List Slots) (k : ℕ) (r : Slots) → bad_range f before slots ≡ None → Some r ≡ slice_get slots k →
    IsLawful f before (r.first.value, last_of r)
lawful_at f before [] k r none here = absurd (cc)
lawful_at f before (s ∷ more) zero r none here =
    let same : s ≡ r = cc in
    subst (λ (x : Slots). IsLawful f before (x.first.value, last_of x)) same (tested f before s (good_first f before s more none).0)
lawful_at f before (s ∷ more) (suc k) r none here =
    let good = good_first f before s more none in
    let first = tested f before s good.0 in
    let law = lawful_at f (last_of s) more k r good.1 here in
    record { above = omega (arith, first.above, first.order, law.above); order = law.order; below = law.below }

-- ---- an activity that occurs

-- the numbers of an activity that occurs in a mode of this period
pub record Occurring (period : ℕ) (activity : Act) : Type 0 where
  pub short : period ≤ PERIOD_US
  pub some : 0 < activity.freq.value
  pub few : activity.freq.value ≤ FREQUENCY
  pub whole : period % activity.freq.value ≡ 0
  pub good : bad_range activity.freq.value 0 activity.slots ≡ None

-- no range is bad where none is there
none_from : (o : Option Slots) → is_none o ≡ true → o ≡ None
none_from None t = refl
none_from (Some r) t = absurd (cc)

-- what the test of an activity says
pub occurring : (period : ℕ) (activity : Act) → occurs period activity ≡ true → Occurring period activity
occurring period activity t =
    let f = activity.freq.value in
    let outer = and_parts (in_ten_seconds period && divides f period) (is_none (bad_range f 0 activity.slots)) t in
    let inner = and_parts (in_ten_seconds period) (divides f period) outer.0 in
    let time = and_parts (nat_le LEAST_US period) (nat_le period PERIOD_US) inner.0 in
    let parts = and_parts (nat_le 1 f && nat_le f FREQUENCY) (period % f == 0) inner.1 in
    let bounds = and_parts (nat_le 1 f) (nat_le f FREQUENCY) parts.0 in
    record {
      short = leb-true period PERIOD_US time.1;
      some = leb-true 1 f bounds.0;
      few = leb-true f FREQUENCY bounds.1;
      whole = eqb-true (period % f) 0 parts.1;
      good = none_from (bad_range f 0 activity.slots) outer.1;
    }

-- the slots of a period are together no longer than it
pub within_period : (period capped f : ℕ) → period ≤ PERIOD_US → (period ≤ PERIOD_US → capped ≡ period) → f * (capped / f) ≤ PERIOD_US
within_period period capped f short same =
    omega (arith, short, same short, div-add-mod' capped f)

-- its logical execution times
pub spans_of : (period capped : ℕ) (activity : Act) → occurs period activity ≡ true → (period ≤ PERIOD_US → capped ≡ period) →
    map (span_of (capped / activity.freq.value)) (ranges activity.freq.value activity.slots) ≡ lets period activity
spans_of period capped activity t same =
    let facts = occurring period activity t in
    rw t (ap (λ (z : ℕ). map (span_of (z / activity.freq.value)) (ranges activity.freq.value activity.slots)) (same facts.short)
    ∙ spans-width period activity.freq.value (ranges activity.freq.value activity.slots) facts.some facts.whole)

-- its offsets
pub offsets_of : (period capped : ℕ) (activity : Act) → occurs period activity ≡ true → (period ≤ PERIOD_US → capped ≡ period) →
    each (ends_of (capped / activity.freq.value)) (ranges activity.freq.value activity.slots) ≡ times period activity
offsets_of period capped activity t same =
    let facts = occurring period activity t in
    rw t (ap (λ (z : ℕ). each (ends_of (z / activity.freq.value)) (ranges activity.freq.value activity.slots)) (same facts.short)
    ∙ offsets-width period activity.freq.value (ranges activity.freq.value activity.slots) facts.some facts.whole)

-- ---- ranges by number

-- a slot by its number
from_at : (j n k : ℕ) → k < n → slice_get (from j n) k ≡ Some (j + k)
from_at j zero k less = absurd (omega (arith, less))
from_at j (suc n) zero less = ap (λ (z : ℕ). Some z) (omega arith)
from_at j (suc n) (suc k) less = from_at (suc j) n k (omega (arith, less)) ∙ ap (λ (z : ℕ). Some z) (omega arith)

-- the slots are n
pub from_length : (j n : ℕ) → length (from j n) ≡ n
from_length j zero = refl
from_length j (suc n) = ap (λ (z : ℕ). suc z) (from_length (suc j) n)

-- without ranges each slot is one
pub each_slot : (f : ℕ) (slots : List Slots) → length slots ≡ 0 → ranges f slots ≡ map (λ i. (i, i)) (from 1 f)
each_slot f [] none = refl
each_slot f (r ∷ rs) none = absurd (omega (arith, none))

-- with ranges each of them
each_range : (f : ℕ) (slots : List Slots) → (length slots ≡ 0 → ⊥) → ranges f slots ≡ map (λ (r : Slots). (r.first.value, last_of r)) slots
each_range f [] some = absurd (some refl)
each_range f (r ∷ rs) some = refl

-- a range by its number, where none is written
pub slot_there : (f : ℕ) (slots : List Slots) (k : ℕ) → length slots ≡ 0 → k < f → Some (k + 1, k + 1) ≡ slice_get (ranges f slots) k
slot_there f slots k none less =
    let twice : ℕ → ℕ × ℕ = λ i. (i, i) in
    let one : 1 + k ≡ k + 1 = omega arith in
    sym (ap (λ (z : List (ℕ × ℕ)). slice_get z k) (each_slot f slots none) ∙ slice_get-map twice (from 1 f) k
    ∙ ap (option_map twice) (from_at 1 f k less ∙ ap (λ (z : ℕ). Some z) one))

-- how many there are
pub slot_count : (f : ℕ) (slots : List Slots) → length slots ≡ 0 → length (ranges f slots) ≡ f
slot_count f slots none =
    let twice : ℕ → ℕ × ℕ = λ i. (i, i) in
    ap (λ (z : List (ℕ × ℕ)). length z) (each_slot f slots none) ∙ length-map (from 1 f) twice ∙ from_length 1 f

-- and none after them
pub slot_past : (f : ℕ) (slots : List Slots) (k : ℕ) → length slots ≡ 0 → f ≤ k → None ≡ slice_get (ranges f slots) k
slot_past f slots k none past = sym (slice_get_past (ranges f slots) k (omega (arith, past, slot_count f slots none)))

-- a range by its number, where ranges are written
pub range_there : (f : ℕ) (slots : List Slots) (k : ℕ) → (length slots ≡ 0 → ⊥) →
    slice_get (ranges f slots) k ≡ option_map (λ (r : Slots). (r.first.value, last_of r)) (slice_get slots k)
range_there f slots k some =
    let both : Slots → ℕ × ℕ = λ r. (r.first.value, last_of r) in
    ap (λ (z : List (ℕ × ℕ)). slice_get z k) (each_range f slots some) ∙ slice_get-map both slots k

-- how many there are
pub range_count : (f : ℕ) (slots : List Slots) → (length slots ≡ 0 → ⊥) → length (ranges f slots) ≡ length slots
range_count f slots some =
    let both : Slots → ℕ × ℕ = λ r. (r.first.value, last_of r) in
    ap (λ (z : List (ℕ × ℕ)). length z) (each_range f slots some) ∙ length-map slots both
