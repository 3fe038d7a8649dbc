-- Occurrences lie within the period of their mode.
use Rattle.std.proofs.Common.{◌≡◌, ℕ, zero, suc, ◌+◌, ◌-◌, ◌*◌, ◌/◌, ◌%◌, ◌<◌, ◌≤◌, Bool, true, false, if◌then◌else◌, ◌&&◌, ◌==◌, nat_lt, nat_le, is_none, List, [], ◌∷◌, map, Some, All, refl, sym, ap, ◌∙◌, arith}
use Rattle.std.proofs.lemmas.Bool.{false≢true, and_parts}
use Rattle.std.proofs.lemmas.Bool.Decides.{nat_tests}
use Rattle.std.proofs.lemmas.List.Elements.{All-append, All-cons, All-map, All-nil}
use Rattle.std.proofs.Math.Nat.{div-add-mod, mul_assoc, mul_comm, mul-div_cancel, mul-le-mul_right, mul-zero}
use Rattle.tdl_tree.specs.declared.activities.Act.{Act}
use Rattle.tdl_tree.specs.declared.activities.Slots.{Slots}
use Rattle.tdl_rules.specs.Lists.{each}
use Rattle.tdl_rules.specs.Times.{last_of, bad_range, occurs, from, ranges, let_of, lets, slot_ends, times, IsWithin, IsOffset}

-- ---- slots of whole microseconds

-- a period is its slots
slots-whole : (f p : ℕ) → p % f ≡ 0 → f * (p / f) ≡ p
slots-whole f p even =
    let parts : f * (p / f) + p % f ≡ p = div-add-mod p f in
    omega (arith, parts, even)

-- i slots end after i times one of them
slot_end-whole : (i f p : ℕ) → 1 ≤ f → p % f ≡ 0 → i * p / f ≡ i * (p / f)
slot_end-whole i f p some even =
    ap (λ n. i * n / f) (sym (slots-whole f p even)) ∙
    ap (λ n. n / f) (ap (λ n. i * n) (mul_comm f (p / f)) ∙ sym (mul_assoc i (p / f) f)) ∙
    mul-div_cancel (i * (p / f)) some

-- a slot has a microsecond at least
slot-some : (f p q : ℕ) → 1 ≤ p → f * q ≡ p → 1 ≤ q
slot-some f p zero some whole = absurd (omega (arith, some, whole, mul-zero f))
slot-some f p (suc q) some whole = omega arith

-- ---- ranges

-- slots i to j of f
abbrev IsRange : ℕ → ℕ × ℕ → Type 0
IsRange f range = (1 ≤ range.0) × (range.0 ≤ range.1) × (range.1 ≤ f)

-- n numbers from k on are at least k and below k + n
from-within : (k n : ℕ) → All (λ i. (k ≤ i) × (i < k + n)) (from k n)
from-within k zero = All-nil (λ i. (k ≤ i) × (i < k + 0))
from-within k (suc n) =
    All-cons (λ i. (k ≤ i) × (i < k + suc n)) k (from (suc k) n) (omega arith, omega arith)
    (λ i d inside. let h = from-within (suc k) n i d inside in (omega (arith, h.0), omega (arith, h.1)))

-- a range and those after it, by the test on the range
ordered_by_test : (f before : ℕ) (range : Slots) (more : List Slots) →
    (is_none (bad_range f (last_of range) more) ≡ true → All (λ r. IsRange f (r.first.value, last_of r)) more) →
    (t : Bool) →
    (nat_lt before range.first.value && nat_le range.first.value (last_of range) && nat_le (last_of range) f) ≡ t →
    is_none (if t then bad_range f (last_of range) more else Some range) ≡ true →
    All (λ r. IsRange f (r.first.value, last_of r)) (range ∷ more)
ordered_by_test f before range more later true test e =
    let two = and_parts _ _ test in
    let one = and_parts _ _ two.0 in
    let first : nat_lt before range.first.value ≡ true = one.0 in
    let middle : nat_le range.first.value (last_of range) ≡ true = one.1 in
    let last : nat_le (last_of range) f ≡ true = two.1 in
    All-cons (λ r. IsRange f (r.first.value, last_of r)) range more
    (grind (arith, nat_tests), grind (arith, nat_tests), grind (arith, nat_tests)) (later e)
ordered_by_test f before range more later false test e = absurd (false≢true e)

-- ranges of which none is bad
bad_range-none : (f before : ℕ) (slots : List Slots) → is_none (bad_range f before slots) ≡ true →
    All (λ r. IsRange f (r.first.value, last_of r)) slots
bad_range-none f before [] e = All-nil (λ r. IsRange f (r.first.value, last_of r))
bad_range-none f before (range ∷ more) e =
    ordered_by_test f before range more (bad_range-none f (last_of range) more) _ refl e

-- the chosen ranges are ranges of the frequency
ranges-lawful : (f : ℕ) (slots : List Slots) → is_none (bad_range f 0 slots) ≡ true → All (IsRange f) (ranges f slots)
ranges-lawful f [] e =
    All-map (IsRange f) (λ i. (i, i)) (from 1 f)
    (λ k d inside. let h = from-within 1 f k d inside in (h.0, omega arith, omega (arith, h.1)))
ranges-lawful f (range ∷ more) e =
    All-map (IsRange f) (λ r. (r.first.value, last_of r)) (range ∷ more) (bad_range-none f 0 (range ∷ more) e)

-- ---- occurrences

-- what an activity that has occurrences keeps
record IsLawful (period : ℕ) (activity : Act) : Type 0 where
  some : 1 ≤ activity.freq.value
  whole : period % activity.freq.value ≡ 0
  long : 1 ≤ period
  ordered : is_none (bad_range activity.freq.value 0 activity.slots) ≡ true

-- an activity that has occurrences keeps it
occurs-lawful : (period : ℕ) (activity : Act) → occurs period activity ≡ true → IsLawful period activity
occurs-lawful period activity e =
    let all = and_parts _ _ e in
    let numbers = and_parts _ _ all.0 in
    let frequency = and_parts _ _ numbers.1 in
    let bounds = and_parts _ _ frequency.0 in
    let times = and_parts _ _ numbers.0 in
    let least : nat_le 1 activity.freq.value ≡ true = bounds.0 in
    let even : (period % activity.freq.value == 0) ≡ true = frequency.1 in
    let long : nat_le 1 period ≡ true = times.0 in
    record {
      some = grind (arith, nat_tests);
      whole = grind (arith, nat_tests);
      long = grind (arith, nat_tests);
      ordered = all.1;
    }

-- i slots of at least a microsecond take at least a microsecond, and at most the period
slot_end-within : (i f period : ℕ) → 1 ≤ i → i ≤ f → 1 ≤ f → period % f ≡ 0 → 1 ≤ period →
    IsOffset period (i * period / f)
slot_end-within i f period least most some even long =
    let whole = slots-whole f period even in
    let one = slot-some f period (period / f) long whole in
    let end' = slot_end-whole i f period some even in
    let below : i * (period / f) ≤ f * (period / f) = mul-le-mul_right (period / f) most in
    let above : 1 * (period / f) ≤ i * (period / f) = mul-le-mul_right (period / f) least in
    (omega (arith, one, end', above), omega (arith, whole, end', below))

-- the logical execution time of a range
let_of-within : (f period : ℕ) (range : ℕ × ℕ) → 1 ≤ f → period % f ≡ 0 → 1 ≤ period → IsRange f range →
    IsWithin period (let_of f period range)
let_of-within f period (i, j) some even long (least, order, most) =
    let whole = slots-whole f period even in
    let one = slot-some f period (period / f) long whole in
    let start = slot_end-whole (i - 1) f period some even in
    let end' = slot_end-whole j f period some even in
    let next : suc (i - 1) * (period / f) ≤ j * (period / f) =
    mul-le-mul_right (period / f) (omega (arith, least, order)) in
    let last = slot_end-within j f period (omega (arith, least, order)) most some even long in
    (omega (arith, one, start, end', next), last.1)

-- by the test whether there are any
lets_by_test : (period : ℕ) (activity : Act) (t : Bool) → occurs period activity ≡ t →
    All (IsWithin period)
    (if t then map (let_of activity.freq.value period) (ranges activity.freq.value activity.slots) else [])
lets_by_test period activity true e =
    let l = occurs-lawful period activity e in
    All-map (IsWithin period) (let_of activity.freq.value period) (ranges activity.freq.value activity.slots)
    (λ k d inside. let_of-within activity.freq.value period _ l.some l.whole l.long
    (ranges-lawful activity.freq.value activity.slots l.ordered k d inside))
lets_by_test period activity false e = All-nil (IsWithin period)

-- logical execution times lie within the period
pub lets-within : (period : ℕ) (activity : Act) → All (IsWithin period) (lets period activity)
lets-within period activity = lets_by_test period activity (occurs period activity) refl

-- what holds of all that f gives of each item holds of all of it
All-each : {A B : Type 0} (P : B → Type 0) (f : A → List B) (xs : List A) →
    All (λ x. All P (f x)) xs → All P (each f xs)
All-each P f [] all = All-nil P
All-each P f (x ∷ xs) all =
    All-append P (f x) (each f xs) (all 0 x (omega arith))
    (All-each P f xs (λ k d inside. all (suc k) d (omega (arith, inside))))

-- the ends of the slots of a range
slot_ends-within : (f period : ℕ) (range : ℕ × ℕ) → 1 ≤ f → period % f ≡ 0 → 1 ≤ period → IsRange f range →
    All (IsOffset period) (slot_ends f period range)
slot_ends-within f period (i, j) some even long (least, order, most) =
    All-map (IsOffset period) (λ k. k * period / f) (from i (suc j - i))
    (λ k d inside.
    let h = from-within i (suc j - i) k d inside in
    slot_end-within _ f period (omega (arith, h.0, least)) (omega (arith, h.1, order, most)) some even long)

-- by the test whether there are any
times_by_test : (period : ℕ) (activity : Act) (t : Bool) → occurs period activity ≡ t →
    All (IsOffset period)
    (if t then each (slot_ends activity.freq.value period) (ranges activity.freq.value activity.slots) else [])
times_by_test period activity true e =
    let l = occurs-lawful period activity e in
    All-each (IsOffset period) (slot_ends activity.freq.value period) (ranges activity.freq.value activity.slots)
    (λ k d inside. slot_ends-within activity.freq.value period _ l.some l.whole l.long
    (ranges-lawful activity.freq.value activity.slots l.ordered k d inside))
times_by_test period activity false e = All-nil (IsOffset period)

-- offsets of updates and switches lie within the period
pub times-within : (period : ℕ) (activity : Act) → All (IsOffset period) (times period activity)
times-within period activity = times_by_test period activity (occurs period activity) refl
