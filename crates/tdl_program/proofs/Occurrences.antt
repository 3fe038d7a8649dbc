-- Where logical execution times and offsets lie in the period of their mode.
use Rattle.std.proofs.Common.{◌≡◌, ℕ, zero, suc, ◌+◌, ◌-◌, map, ◌*◌, ◌≤◌, ◌<◌, ◌/◌, ◌%◌, List, [], ◌∷◌, Bool, true, false, Option, Some, None, refl, ap, sym, ◌∙◌, subst, arith, mul_comm, mul_assoc}
use Rattle.std.specs.Prelude.{slice_get, if◌then◌else◌, ◌&&◌, ◌==◌, nat_lt, nat_le, is_none}
use Rattle.std.proofs.lemmas.Bool.{and_parts, ltb-true, leb-true, eqb-true}
use Rattle.std.proofs.lemmas.Nat.{div-add-mod', div-mul-add, mul-le, row_fits}
use Rattle.std.proofs.lemmas.Option.{same_Some}
use Rattle.tdl_base.specs.declared.limits.TheConstants.{LEAST_US, PERIOD_US, FREQUENCY}
use Rattle.tdl_tree.specs.declared.activities.Act.{Act}
use Rattle.tdl_tree.specs.declared.activities.Slots.{Slots}
use Rattle.tdl_rules.specs.Lists.{each}
use Rattle.tdl_rules.specs.Times.{in_ten_seconds, divides, bad_range, last_of, occurs, from, ranges, Let, let_of, lets, slot_ends, times}
use Rattle.tdl_program.proofs.Emptiness.{map-from}
use Rattle.tdl_program.proofs.JoinedPlaces.{each-from}

-- ---- ranges of slots

-- a range of slots of so many: from the first to the last
pub record IsRange (frequency : ℕ) (range : ℕ × ℕ) : Type 0 where
  pub least : 1 ≤ range.0
  pub order : range.0 ≤ range.1
  pub most : range.1 ≤ frequency

-- a range that passes the test is one
in_order : (frequency before : ℕ) (x : Slots) →
    (nat_lt before x.first.value && nat_le x.first.value (last_of x) && nat_le (last_of x) frequency) ≡ true →
    IsRange frequency (x.first.value, last_of x)
in_order frequency before x e =
    let p = and_parts (nat_lt before x.first.value && nat_le x.first.value (last_of x)) (nat_le (last_of x) frequency) e in
    let q = and_parts (nat_lt before x.first.value) (nat_le x.first.value (last_of x)) p.0 in
    let above : before < x.first.value = ltb-true before x.first.value q.0 in
    record {
      least = omega (arith, above);
      order = leb-true x.first.value (last_of x) q.1;
      most = leb-true (last_of x) frequency p.1;
    }

-- where no range is bad, each is one
range-at : (frequency before : ℕ) (slots : List Slots) (n : ℕ) (x : Slots) →
    bad_range frequency before slots ≡ None → slice_get slots n ≡ Some x →
    IsRange frequency (x.first.value, last_of x)
range-at frequency before [] n x none at = absurd (cc at)
range-at frequency before (y ∷ ys) n x none at =
    by_test (range-at frequency (last_of y) ys)
    (nat_lt before y.first.value && nat_le y.first.value (last_of y) && nat_le (last_of y) frequency) refl none n at
  where
    by_test : ((n : ℕ) (x : Slots) → bad_range frequency (last_of y) ys ≡ None → slice_get ys n ≡ Some x →
        IsRange frequency (x.first.value, last_of x)) → (t : Bool) →
        (nat_lt before y.first.value && nat_le y.first.value (last_of y) && nat_le (last_of y) frequency) ≡ t →
        (if t then bad_range frequency (last_of y) ys else Some y) ≡ None → (n : ℕ) → slice_get (y ∷ ys) n ≡ Some x →
        IsRange frequency (x.first.value, last_of x)
    by_test rest false e none n at = absurd (cc none)
    by_test rest true e none zero at =
        subst (λ z. IsRange frequency (z.first.value, last_of z)) (same_Some y x at) (in_order frequency before y e)
    by_test rest true e none (suc n) at = rest n x none at

-- n numbers from k on are at least k and below k + n
from-at : (k n q i : ℕ) → slice_get (from k n) q ≡ Some i → (k ≤ i) × (i < k + n)
from-at k zero q i at = absurd (cc at)
from-at k (suc n) zero i at =
    let same : k ≡ i = same_Some k i at in (omega (arith, same), omega (arith, same))
from-at k (suc n) (suc q) i at =
    let r = from-at (suc k) n q i at in
    let least : suc k ≤ i = r.0 in
    let most : i < suc k + n = r.1 in
    (omega (arith, least), omega (arith, most))

-- what is absent is None
none-is : {A : Type 0} (o : Option A) → is_none o ≡ true → o ≡ None
none-is None e = refl
none-is (Some x) e = absurd (cc e)

-- each chosen range is one
ranges-at : (frequency : ℕ) (slots : List Slots) (n : ℕ) (range : ℕ × ℕ) →
    is_none (bad_range frequency 0 slots) ≡ true → slice_get (ranges frequency slots) n ≡ Some range →
    IsRange frequency range
ranges-at frequency [] n range none at =
    let r = map-from (λ i. (i, i)) n (from 1 frequency) range at in
    let b = from-at 1 frequency n r.item r.at in
    let least : 1 ≤ r.item = b.0 in
    let most : r.item < 1 + frequency = b.1 in
    subst (IsRange frequency) r.is (record { least = least; order = omega arith; most = omega (arith, most) })
ranges-at frequency (x ∷ xs) n range none at =
    let r = map-from (λ range. (range.first.value, last_of range)) n (x ∷ xs) range at in
    subst (IsRange frequency) r.is
    (range-at frequency 0 (x ∷ xs) n r.item (none-is (bad_range frequency 0 (x ∷ xs)) none) r.at)

-- ---- periods of slots

-- a period of so many slots, each of the same length
record IsDivided (frequency period : ℕ) : Type 0 where
  slot : ℕ
  some : 1 ≤ slot
  whole : frequency * slot ≡ period
  scaled : (n : ℕ) → n * period / frequency ≡ n * slot

-- a factor of a product that is not 0 is not 0
factor : (slot frequency period : ℕ) → slot * frequency ≡ period → 1 ≤ period → 1 ≤ slot
factor zero frequency period e some = omega (arith, e, some)
factor (suc slot) frequency period e some = omega arith

-- a lawful frequency divides a lawful period
divided : (frequency period : ℕ) → divides frequency period ≡ true → in_ten_seconds period ≡ true →
    IsDivided frequency period
divided frequency period d t =
    let p = and_parts (nat_le 1 frequency && nat_le frequency FREQUENCY) (period % frequency == 0) d in
    let f : 1 ≤ frequency = leb-true 1 frequency (and_parts (nat_le 1 frequency) (nat_le frequency FREQUENCY) p.0).0 in
    let none : period % frequency ≡ 0 = eqb-true (period % frequency) 0 p.1 in
    let some : LEAST_US ≤ period = leb-true LEAST_US period (and_parts (nat_le LEAST_US period) (nat_le period PERIOD_US) t).0 in
    let whole : period / frequency * frequency ≡ period =
    (let sum : period / frequency * frequency + period % frequency ≡ period = div-add-mod' period frequency in
    omega (arith, sum, none)) in
    record {
      slot = period / frequency;
      some = factor (period / frequency) frequency period whole some;
      whole = mul_comm frequency (period / frequency) ∙ whole;
      scaled = λ n.
          let turned : n * period ≡ n * (period / frequency) * frequency + 0 =
          (let inner : n * period ≡ n * (period / frequency) * frequency =
          ap (λ m. n * m) (sym whole) ∙ sym (mul_assoc n (period / frequency) frequency) in
          omega (arith, inner)) in
          ap (λ m. m / frequency) turned ∙ div-mul-add (n * (period / frequency)) frequency 0 (omega (arith, f));
    }

-- ---- occurrences

-- a logical execution time that takes time and lies in the period
pub record IsWithin (period : ℕ) (span : Let) : Type 0 where
  pub lasts : span.s < span.e
  pub ends : span.e ≤ period

-- that of a range of slots does
range_within : (frequency period : ℕ) (range : ℕ × ℕ) → IsDivided frequency period → IsRange frequency range →
    IsWithin period (let_of frequency period range)
range_within frequency period range d r =
    let least : 1 ≤ range.0 = r.least in
    let order : range.0 ≤ range.1 = r.order in
    let some : 1 ≤ d.slot = d.some in
    let below : range.0 - 1 < range.1 = omega (arith, least, order) in
    let start : (range.0 - 1) * period / frequency ≡ (range.0 - 1) * d.slot = d.scaled (range.0 - 1) in
    let end : range.1 * period / frequency ≡ range.1 * d.slot = d.scaled range.1 in
    let one : (range.0 - 1) * d.slot + d.slot ≤ range.1 * d.slot =
    row_fits (range.0 - 1) d.slot range.1 d.slot below (omega arith) in
    let all : range.1 * d.slot ≤ frequency * d.slot = mul-le range.1 d.slot frequency d.slot r.most (omega arith) in
    let whole : frequency * d.slot ≡ period = d.whole in
    record { lasts = omega (arith, start, end, one, some); ends = omega (arith, end, all, whole) }

-- an activity that occurs has lawful numbers
record Occurs (period : ℕ) (activity : Act) : Type 0 where
  lawful : IsDivided activity.freq.value period
  ranges : is_none (bad_range activity.freq.value 0 activity.slots) ≡ true

-- so it has
occurs-is : (period : ℕ) (activity : Act) → occurs period activity ≡ true → Occurs period activity
occurs-is period activity e =
    let p = and_parts (in_ten_seconds period && divides activity.freq.value period)
    (is_none (bad_range activity.freq.value 0 activity.slots)) e in
    let q = and_parts (in_ten_seconds period) (divides activity.freq.value period) p.0 in
    record { lawful = divided activity.freq.value period q.1 q.0; ranges = p.1 }

-- each logical execution time of an activity takes time and lies in the period
pub lets-at : (period : ℕ) (activity : Act) (n : ℕ) (span : Let) →
    slice_get (lets period activity) n ≡ Some span → IsWithin period span
lets-at period activity n span at = by_test (occurs period activity) refl at
  where
    by_test : (t : Bool) → occurs period activity ≡ t →
        slice_get (if t then map (let_of activity.freq.value period) (ranges activity.freq.value activity.slots) else []) n
        ≡ Some span → IsWithin period span
    by_test false e at = absurd (cc at)
    by_test true e at =
        let o = occurs-is period activity e in
        let r = map-from (let_of activity.freq.value period) n (ranges activity.freq.value activity.slots) span at in
        subst (IsWithin period) r.is
        (range_within activity.freq.value period r.item o.lawful
        (ranges-at activity.freq.value activity.slots n r.item o.ranges r.at))

-- an offset above 0 that lies in the period
pub record IsOffset (period at : ℕ) : Type 0 where
  pub above : 0 < at
  pub within : at ≤ period

-- the end of a slot is one
end_offset : (frequency period i : ℕ) → IsDivided frequency period → 1 ≤ i → i ≤ frequency →
    IsOffset period (i * period / frequency)
end_offset frequency period i d least most =
    let end : i * period / frequency ≡ i * d.slot = d.scaled i in
    let one : 1 * 1 ≤ i * d.slot = mul-le 1 1 i d.slot least d.some in
    let all : i * d.slot ≤ frequency * d.slot = mul-le i d.slot frequency d.slot most (omega arith) in
    let whole : frequency * d.slot ≡ period = d.whole in
    record { above = omega (arith, end, one); within = omega (arith, end, all, whole) }

-- each offset of an activity is above 0 and lies in the period
pub times-at : (period : ℕ) (activity : Act) (n at : ℕ) → slice_get (times period activity) n ≡ Some at →
    IsOffset period at
times-at period activity n at is = by_test (occurs period activity) refl is
  where
    by_test : (t : Bool) → occurs period activity ≡ t →
        slice_get (if t then each (slot_ends activity.freq.value period) (ranges activity.freq.value activity.slots) else [])
        n ≡ Some at → IsOffset period at
    by_test false e is = absurd (cc is)
    by_test true e is =
        let o = occurs-is period activity e in
        let m = each-from (slot_ends activity.freq.value period) (ranges activity.freq.value activity.slots) n at is in
        let r = map-from (λ i. i * period / activity.freq.value) m.own.place
        (from m.item.0 (suc m.item.1 - m.item.0)) at m.own.at in
        let b = from-at m.item.0 (suc m.item.1 - m.item.0) m.own.place r.item r.at in
        let range = ranges-at activity.freq.value activity.slots m.place m.item o.ranges m.at in
        let first : 1 ≤ m.item.0 = range.least in
        let order : m.item.0 ≤ m.item.1 = range.order in
        let last : m.item.1 ≤ activity.freq.value = range.most in
        let low : m.item.0 ≤ r.item = b.0 in
        let high : r.item < m.item.0 + (suc m.item.1 - m.item.0) = b.1 in
        subst (IsOffset period) r.is
        (end_offset activity.freq.value period r.item o.lawful (omega (arith, first, low))
        (omega (arith, order, last, high)))
